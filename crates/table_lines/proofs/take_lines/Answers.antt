use mathlib.Core.Path.{◌≡◌, refl, ap, sym, ◌∙◌}
use Prim.Native.Nat.{ℕ, ◌+◌, ◌-◌, ◌<◌}
use native.Mathlib.Omega.{arith}
use native.Mathlib.Numerals.{add-one}
use lib.ListN.{take, drop}
use borrow.Author.Rules.{rules}
use Rattle.words.proofs.Lists.{part_length}
use Rattle.refusals.specs.Verdicts.{placed}
use Rattle.refusals.proofs.Placing.{placed_passes}
use Rattle.lines.specs.Lines.{lines, line_after, breaks}
use Rattle.lines.specs.Ends.{line_at}
use Rattle.lines.proofs.Lining.{LineFrom, line_from}
use Rattle.lines.proofs.Starting.{breaks_few, line_after_lem}
use Rattle.editions.specs.declared.Edition.{Edition}
use Rattle.tables.specs.Columns.{number}
use Rattle.tables.specs.Listing.{listed}
use Rattle.tables.proofs.Parts.{room_most}
use Rattle.book.specs.Room.{book_of}
use Rattle.intake.specs.Shelving.{shelf_book}
use Rattle.intake.proofs.Shelving.{shelf_most}
use Rattle.row_line.specs.Judging.{read as read_as}
use Rattle.table_lines.proofs.Taking.{rows_end, rows_passed, rows_refused, after_end, after_next}
use Rattle.table_lines.proofs.take_lines.Goals as goal
use Rattle.table_lines.proofs.take_lines.Goals.{After-next_line-l}

-- the line at the place, by the book's edition
line-at : (c : After-next_line-l) → let a = c.args in c.next_line-l.result ≡ line_at (book_of a.book.now).edition a.bytes.now c.rows.i
line-at c = let a = c.args in let w = c.rows in c.next_line-l.ensures ∙ ap (λ (d : Edition). line_at d a.bytes.now w.i) w.invariant.8

taken_at : (c : After-next_line-l) → let a = c.args in LineFrom (lines (book_of a.book.now).edition) a.bytes.now c.rows.i c.next_line-l.result
taken_at c = let a = c.args in line_from (book_of a.book.now).edition a.bytes.now c.rows.i c.next_line-l.result c.rows-test.true (line-at c)

-- its breaks
few-breaks : (c : After-next_line-l) → let a = c.args in let w = c.rows in breaks (book_of a.book.now).edition (take (c.next_line-l.result.end - w.i) (drop w.i a.bytes.now)) + w.i < c.next_line-l.result.next
few-breaks c = let a = c.args in breaks_few (book_of a.book.now).edition a.bytes.now c.rows.i c.next_line-l.result c.rows-test.true (line-at c)

pub edition_of-edition-requires : goal.edition_of-edition-requires
edition_of-edition-requires c = c.requires.1.sound.long

pub rows-init : goal.rows-init
rows-init c = let st = c in (omega arith, omega arith, refl, st.requires.1, refl, c.number-table.ensures, λ h kept. refl, refl, c.edition_of-edition.ensures)

pub slice_bounds-read_row-count : goal.slice_bounds-read_row-count
slice_bounds-read_row-count c = (taken_at (goal.at.slice_bounds-read_row-count c).After-next_line-l).low

pub slice_bounds-read_row-start : goal.slice_bounds-read_row-start
slice_bounds-read_row-start c = (taken_at (goal.at.slice_bounds-read_row-start c).After-next_line-l).low

pub slice_bounds-read_row-end : goal.slice_bounds-read_row-end
slice_bounds-read_row-end c = (taken_at (goal.at.slice_bounds-read_row-end c).After-next_line-l).high

pub read_row-read-requires : goal.read_row-read-requires
read_row-read-requires c =
    let st = c in
    let w = c.rows in
    (st.requires.0.rules ∙ ap (λ (d : Edition). listed d st.args.t) (sym w.invariant.8), omega (arith, st.requires.0.few, w.invariant.4))

pub take_row-check-requires : goal.take_row-check-requires
take_row-check-requires c =
    let st = c in
    let at = c.rows in
    let line = take (c.next_line-l.result.end - at.i) (drop at.i st.args.bytes.now) in
    let headed = st.requires.0.headed in
    (at.invariant.3, (headed.0, (line, c.read_row-read.ensures headed.0 headed.1 ∙ ap (λ (d : Edition). read_as d st.args.t headed.0 line) at.invariant.8)))

pub overflow_add-count : goal.overflow_add-count
overflow_add-count c =
    let st = c in
    let at = c.rows in
    omega (arith, shelf_most st.args.t st.args.book.now at.slots at.order at.count at.invariant.3, room_most st.args.t)

pub slice_bounds-line_after-count : goal.slice_bounds-line_after-count
slice_bounds-line_after-count c = (taken_at (goal.at.slice_bounds-line_after-count c).After-next_line-l).low

pub slice_bounds-line_after-start : goal.slice_bounds-line_after-start
slice_bounds-line_after-start c = (taken_at (goal.at.slice_bounds-line_after-start c).After-next_line-l).low

pub slice_bounds-line_after-end : goal.slice_bounds-line_after-end
slice_bounds-line_after-end c = (taken_at (goal.at.slice_bounds-line_after-end c).After-next_line-l).high

pub line_after-line-requires : goal.line_after-line-requires
line_after-line-requires c =
    let st = c in
    let at = c.rows in
    let l = taken_at (goal.at.line_after-line-requires c).After-next_line-l in
    omega (arith, part_length st.args.bytes.now at.i c.next_line-l.result.end l.high, l.low, l.high, at.invariant.1, st.requires.2)

pub rows-smaller : goal.rows-smaller
rows-smaller c =
    let l = taken_at (goal.at.rows-smaller c).After-next_line-l in
    omega (arith, l.on, l.past, c.rows-test.true)

pub rows-preserved : goal.rows-preserved
rows-preserved c =
    let st = c in
    let at = c.rows in
    let more = c.rows-test.true in
    let next = c in
    let read = c.read_row-read in
    let taken = c.take_row-check in
    let on = c.placed-v in
    let told = c.in-Ok.is in
    let E = (book_of st.args.book.now).edition in
    let row = take (next.next_line-l.result.end - at.i) (drop at.i st.args.bytes.now) in
    let placed-here = on.ensures ∙ ap (λ (n : ℕ). placed n at.line taken.result) at.invariant.5 in
    let l = taken_at (goal.at.rows-preserved c).After-next_line-l in
    let passes = placed_passes (number st.args.t) at.line taken.result (sym placed-here ∙ told) in
    let after : c.line_after-line.result ≡ line_after E at.line row = c.line_after-line.ensures ∙ ap (λ (d : Edition). line_after d at.line row) at.invariant.8 in (
      l.past,
      omega (arith, after, line_after_lem E at.line row, few-breaks (goal.at.rows-preserved c).After-next_line-l, at.invariant.1),
      at.invariant.2,
      rw add-one (taken.ensures.on passes),
      omega (arith, c.bounds-in-rows-1.given, at.invariant.4),
      at.invariant.5,
      λ h kept. at.invariant.6 h kept
          ∙ rows_passed st.args.t h at.line st.args.bytes.now at.i (shelf_book st.args.t st.args.book.now at.slots at.order at.count) next.next_line-l.result (line-at (goal.at.rows-preserved c).After-next_line-l) more
          taken.result _ (rw add-one (taken.ensures.taken h _ (read.ensures h kept ∙ ap (λ (d : Edition). read_as d st.args.t h row) at.invariant.8))) on.result placed-here told c.line_after-line.result after,
      at.invariant.7 ∙ after_next E at.line st.args.bytes.now at.i next.next_line-l.result (line-at (goal.at.rows-preserved c).After-next_line-l) more c.line_after-line.result after,
      at.invariant.8,
    )

pub returns-after-rows : goal.returns-after-rows
returns-after-rows c =
    let st = c in
    let at = c.rows in
    record {
      on = λ a. at.invariant.3;
      next = λ a. sym (at.invariant.7 ∙ after_end (book_of st.args.book.now).edition at.line st.args.bytes.now at.i c.rows-test.false);
      taken = λ h kept. rw at.invariant.2 (sym (at.invariant.6 h kept ∙ rows_end st.args.t h at.line st.args.bytes.now at.i (shelf_book st.args.t st.args.book.now at.slots at.order at.count) c.rows-test.false));
    }

pub shape_of-slots-in-Err : goal.shape_of-slots-in-Err
shape_of-slots-in-Err c = search (rules, c.rows.invariant.3.long, c.requires.1.long)

pub shape_of-order-in-Err : goal.shape_of-order-in-Err
shape_of-order-in-Err c =
    let st = c in
    let at = c.rows in
    search (rules, at.invariant.3.shelf.long, at.invariant.3.long, st.requires.1.shelf.long, st.requires.1.long)

pub returns-in-Err : goal.returns-in-Err
returns-in-Err c =
    let st = c in
    let at = c.rows in
    let next = c in
    let read = c.read_row-read in
    let taken = c.take_row-check in
    let on = c.placed-v in
    let row = take (next.next_line-l.result.end - at.i) (drop at.i st.args.bytes.now) in
    let placed-here = on.ensures ∙ ap (λ (n : ℕ). placed n at.line taken.result) at.invariant.5 in
    record {
      on = λ a. let z : ◌≡◌ {A = ℕ} 0 1 = cc in absurd (omega arith);
      next = λ a. let z : ◌≡◌ {A = ℕ} 0 1 = cc in absurd (omega arith);
      taken = λ h kept. sym (at.invariant.6 h kept
          ∙ rows_refused st.args.t h at.line st.args.bytes.now at.i (shelf_book st.args.t st.args.book.now at.slots at.order at.count) next.next_line-l.result (line-at (goal.at.returns-in-Err c).After-next_line-l) c.rows-test.true
          taken.result _ (taken.ensures.taken h _ (read.ensures h kept ∙ ap (λ (d : Edition). read_as d st.args.t h row) at.invariant.8)) on.result placed-here _ c.in-Err.is);
    }
