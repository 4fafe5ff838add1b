use mathlib.Core.Path.{◌≡◌, refl, ap, ◌∙◌}
use mathlib.Core.List.{[], ◌∷◌, ◌++◌, map}
use Prim.Native.Nat.{◌+◌, ◌≤◌}
use native.Mathlib.Omega.{arith}
use lib.ListN.{length, get_or}
use borrow.Author.Rules.{rules}
use Rattle.words.specs.Words.{Bytes, bytes}
use Rattle.words.proofs.Lists.{ended}
use Rattle.cells.proofs.Joining.{ended_more_length}
use Rattle.numbers.specs.Putting.{put}
use Rattle.numbers.proofs.Putting.{rest, length_rest}
use Rattle.book.specs.Room.{book_of}
use Rattle.number_lines.proofs.RowLines.{lent_more}
use Rattle.writer.specs.Writing.{lines_written}
use Rattle.writer.proofs.RowLines.{all_lines, next_fits}
use Rattle.sheet.specs.Sheet.{type_line, sheet_line}
use Rattle.sheet.proofs.write_types.Goals as goal
use Rattle.sheet.proofs.write_types.Goals.{After-type_numbers-numbers}

-- the type at the place reached has room
type_fits : (c : After-type_numbers-numbers) → c.loop-row.at + (length (sheet_line (84 ∷ []) c.type_numbers-numbers.result) + 1) ≤ length c.args.out.now
unfolding bytes
type_fits c =
    let a = c.args in
    let l = c.loop-row in
    let line = type_line (book_of a.book.now).blocks in
    let room : length (lines_written (map line a.types.now)) ≤ length a.out.now = rw c.requires.1 c.requires.2 in
    omega (arith, next_fits line [] a.types.now l.row-index l.at (length a.out.now) c.loop-row-test.true l.invariant.0 room, ap length c.type_numbers-numbers.ensures)

pub loop-row-init : goal.loop-row-init
unfolding ended
loop-row-init c = (refl, refl)

pub slice_bounds-write_line-count : goal.slice_bounds-write_line-count
slice_bounds-write_line-count c = omega (arith, type_fits (goal.at.slice_bounds-write_line-count c).After-type_numbers-numbers, c.loop-row.auto.out)

pub slice_bounds-write_line-start : goal.slice_bounds-write_line-start
slice_bounds-write_line-start c = omega (arith, type_fits (goal.at.slice_bounds-write_line-start c).After-type_numbers-numbers, c.loop-row.auto.out)

pub overflow_add-at : goal.overflow_add-at
overflow_add-at c = omega (arith, type_fits (goal.at.overflow_add-at c).After-type_numbers-numbers, c.write_line-at.ensures.0, c.well_formed.0)

pub write_line-at-requires : goal.write_line-at-requires
write_line-at-requires c =
    let l = c.loop-row in
    (search rules, rw (length_rest l.out l.at) (omega (arith, type_fits (goal.at.write_line-at-requires c).After-type_numbers-numbers, l.auto.out)))

pub loop-row-preserved : goal.loop-row-preserved
unfolding bytes
loop-row-preserved c =
    let a = c.args in
    let rows = a.types.now in
    let l = c.loop-row in
    let w = c.write_line-at in
    let line = type_line (book_of a.book.now).blocks in
    let here = c.loop-row-test.true in
    let written : w.new.out ≡ put (line (get_or rows l.row-index []) ++ (10 ∷ [])) (rest l.out l.at) = rw c.type_numbers-numbers.ensures w.ensures.1 in (
      omega (arith, ended_more_length line [] 10 rows l.row-index here, w.ensures.0, ap length c.type_numbers-numbers.ensures, l.invariant.0),
      lent_more line [] 10 rows l.row-index here a.out.now l.out w.new.out l.at l.invariant.0 l.invariant.1 written,
    )

pub returns : goal.returns
returns c =
    let a = c.args in
    let l = c.loop-row in
    let all = all_lines (type_line (book_of a.book.now).blocks) a.types.now l.row-index c.loop-row-test.false in
    (rw c.requires.1 at (l.invariant.0 ∙ ap length all), rw c.requires.1 at (l.invariant.1 ∙ ap (λ (t : Bytes). put t a.out.now) all))
