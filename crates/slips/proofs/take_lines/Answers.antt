use mathlib.Core.Path.{refl, sym, ◌∙◌}
use native.Mathlib.Omega.{arith}
use borrow.Author.Rules.{rules}
use Rattle.lines.specs.Lines.{slip_lines}
use Rattle.lines.proofs.Lining.{LineFrom, slip_line_from}
use Rattle.tables.specs.declared.Table.TheVariants.{Block}
use Rattle.intake.specs.Shelving.{shelf_book}
use Rattle.slips.proofs.Posting.{line_passes, line_fails, line_next, line_refused, lines_end}
use Rattle.slips.proofs.take_lines.Goals as goal
use Rattle.slips.proofs.take_lines.Goals.{After-next_slip_line-here}

-- the line that begins at `at`
from_next : (c : After-next_slip_line-here) → LineFrom slip_lines c.args.slip.now c.lines.at c.next_slip_line-here.result
from_next c = slip_line_from c.args.slip.now c.lines.at c.next_slip_line-here.result c.lines-test.true c.next_slip_line-here.ensures

pub lines-init : goal.lines-init
lines-init c = (omega arith, omega arith, omega arith, c.requires.0, refl, refl)

pub slice_bounds-take_slip_line-count : goal.slice_bounds-take_slip_line-count
slice_bounds-take_slip_line-count c =
    let f = from_next (goal.at.slice_bounds-take_slip_line-count c).After-next_slip_line-here in
    omega (arith, f.low, f.high)

pub slice_bounds-take_slip_line-start : goal.slice_bounds-take_slip_line-start
slice_bounds-take_slip_line-start c =
    let f = from_next (goal.at.slice_bounds-take_slip_line-start c).After-next_slip_line-here in
    omega (arith, f.low, f.high)

pub slice_bounds-take_slip_line-end : goal.slice_bounds-take_slip_line-end
slice_bounds-take_slip_line-end c =
    let f = from_next (goal.at.slice_bounds-take_slip_line-end c).After-next_slip_line-here in
    omega (arith, f.low, f.high)

pub take_slip_line-told-requires : goal.take_slip_line-told-requires
take_slip_line-told-requires c = (c.lines.invariant.3, c.requires.2)

pub lines-smaller : goal.lines-smaller
lines-smaller c =
    let f = from_next (goal.at.lines-smaller c).After-next_slip_line-here in
    omega (arith, f.on, f.past)

pub lines-preserved : goal.lines-preserved
lines-preserved c =
    let k = c in
    let at = c in
    let s = c.args.slip.now in
    let here = c.next_slip_line-here.result in
    let f = from_next (goal.at.lines-preserved c).After-next_slip_line-here in
    let t = c.take_slip_line-told in
    let bk = shelf_book Block c.args.book.now at.lines.slots at.lines.order at.lines.count in
    let e = c.in-Ok.is in
    let p = line_passes s at.lines.at here f at.lines.number bk t.result.check k.placed.result t.ensures.is k.placed.ensures e in (
      f.past,
      omega arith,
      omega (arith, f.on, at.lines.invariant.2),
      t.ensures.on p,
      at.lines.invariant.4 ∙ line_next s at.lines.at here f at.lines.number bk t.result.check k.placed.result t.ensures.is k.placed.ensures e _ (t.ensures.grants p),
      at.lines.invariant.5,
    )

pub returns-after-lines : goal.returns-after-lines
returns-after-lines c =
    let at = c in
    let bk = shelf_book Block c.args.book.now at.lines.slots at.lines.order at.lines.count in
    rw at.lines.invariant.5 (record {
      on = at.lines.invariant.3;
      result = sym (at.lines.invariant.4 ∙ lines_end c.args.slip.now at.lines.at at.lines.number bk c.lines-test.false);
    })

pub shape_of-order-in-Err : goal.shape_of-order-in-Err
shape_of-order-in-Err c =
    let st = c in
    let at = c.lines in
    search (rules, at.invariant.3.shelf.long, at.invariant.3.long, st.requires.0.shelf.long, st.requires.0.long)

pub returns-in-Err : goal.returns-in-Err
returns-in-Err c =
    let k = c in
    let at = c in
    let s = c.args.slip.now in
    let here = c.next_slip_line-here.result in
    let f = from_next (goal.at.returns-in-Err c).After-next_slip_line-here in
    let t = c.take_slip_line-told in
    let bk = shelf_book Block c.args.book.now at.lines.slots at.lines.order at.lines.count in
    let p = c.in-Err.place in
    let e = c.in-Err.is in
    let same = t.ensures.stays (line_fails s at.lines.at here f at.lines.number bk t.result.check k.placed.result t.ensures.is k.placed.ensures p e) in
    record {
      on = rw (same.0, same.1) at.lines.invariant.3;
      result = sym (at.lines.invariant.4 ∙ line_refused s at.lines.at here f at.lines.number bk t.result.check k.placed.result t.ensures.is k.placed.ensures p e);
    }
