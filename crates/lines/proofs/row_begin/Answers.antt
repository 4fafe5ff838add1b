use native.Mathlib.Omega.{arith}
use mathlib.Core.Path.{◌≡◌, subst}
use Prim.Native.Nat.{ℕ}
use Rattle.lines.specs.Lines.{lines}
use Rattle.lines.proofs.Lining.{LineFrom, line_from}
use Rattle.lines.proofs.Starting.{Walked, walk_begun, walk_ended, walk_on, walk_past, walk_found}
use Rattle.lines.proofs.row_begin.Goals as goal
use Rattle.lines.proofs.row_begin.Goals.{After-next_line-l}

-- the row at the place
row : (c : After-next_line-l) → let w = c.rows in LineFrom (lines c.args.edition) c.args.text.now w.at c.next_line-l.result
row c = let a = c.args in line_from a.edition a.text.now c.rows.at c.next_line-l.result c.if-text-at.false c.next_line-l.ensures

pub rows-init : goal.rows-init
rows-init c = let a = c.args in walk_begun a.edition a.line a.text.now c.requires

pub returns-then-text-at : goal.returns-then-text-at
returns-then-text-at c = let w = c.rows in let a = c.args in walk_ended a.edition a.line a.text.now w.i w.at w.invariant c.if-text-at.true

pub slice_bounds-breaks_in-count : goal.slice_bounds-breaks_in-count
slice_bounds-breaks_in-count c = omega (arith, (row (goal.at.slice_bounds-breaks_in-count c).After-next_line-l).low)

pub slice_bounds-breaks_in-start : goal.slice_bounds-breaks_in-start
slice_bounds-breaks_in-start c = omega (arith, (row (goal.at.slice_bounds-breaks_in-start c).After-next_line-l).low, (row (goal.at.slice_bounds-breaks_in-start c).After-next_line-l).high)

pub slice_bounds-breaks_in-end : goal.slice_bounds-breaks_in-end
slice_bounds-breaks_in-end c = omega (arith, (row (goal.at.slice_bounds-breaks_in-end c).After-next_line-l).high)

pub returns-then-line-i : goal.returns-then-line-i
returns-then-line-i c =
    let w = c.rows in let a = c.args in
    walk_past a.edition a.line a.text.now w.i w.at w.invariant c.next_line-l.result c.if-text-at.false c.next_line-l.ensures c.rows-test.true c.breaks_in-breaks.result c.breaks_in-breaks.ensures.0 c.if-line-i.true

pub rows-preserved : goal.rows-preserved
rows-preserved c =
    let w = c.rows in let a = c.args in
    walk_on a.edition a.line a.text.now w.i w.at w.invariant c.next_line-l.result c.if-text-at.false c.next_line-l.ensures c.rows-test.true c.breaks_in-breaks.result c.breaks_in-breaks.ensures.0 c.if-line-i.false

pub returns : goal.returns
returns c =
    let w = c.rows in let a = c.args in
    let e : w.i ≡ a.line = omega (arith, w.invariant.most, c.rows-test.false) in
    walk_found a.edition a.line a.text.now w.at (subst (λ (i : ℕ). Walked a.edition a.line a.text.now i w.at) e w.invariant)
