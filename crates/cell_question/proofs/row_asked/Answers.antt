use mathlib.Core.Path.{refl, ap, ◌∙◌}
use Rattle.std.specs.Prelude.{Err}
use Prim.Native.Nat.{◌-◌, ◌<◌}
use native.Mathlib.Omega.{arith}
use lib.ListN.{length, take, drop}
use Rattle.words.proofs.Lists.{part_length}
use Rattle.refusals.specs.Verdicts.{placed}
use Rattle.lines.specs.Ends.{line_at}
use Rattle.lines.proofs.Lining.{line_from}
use Rattle.cell_question.proofs.Walking.{after_more, walk_begun, walk_ended, walk_past, walk_refused, walk_on, walk_found}
use Rattle.cell_question.proofs.row_asked.Goals as goal
use Rattle.cell_question.proofs.row_asked.Goals.{then-line-i-via-then-line-i, then-line-i-via-else-line-i+then-bytes-at-2}

pub rows-init : goal.rows-init
rows-init c =
    let a = c.args in
    let p = c.requires in
    walk_begun a.edition a.table a.line a.first a.bytes.now a.from p.1 p.2 p.3 p.4

pub returns-then-bytes-at : goal.returns-then-bytes-at
returns-then-bytes-at c =
    let a = c.args in
    let s = a.bytes.now in
    let k = c.rows in
    walk_ended a.edition a.table a.line a.first s a.from k.i k.at k.invariant c.if-bytes-at.true c.no_row.result c.no_row.ensures

pub slice_bounds-check_above-count : goal.slice_bounds-check_above-count
slice_bounds-check_above-count c =
    let a = c.args in
    let s = a.bytes.now in
    let k = c.rows in
    let r = c.next_line-l in
    let h : k.at < length s = c.if-bytes-at.false in
    let t = line_from a.edition s k.at r.result h r.ensures in
    omega (arith, t.low)

pub slice_bounds-check_above-start : goal.slice_bounds-check_above-start
slice_bounds-check_above-start c =
    let a = c.args in
    let s = a.bytes.now in
    let k = c.rows in
    let r = c.next_line-l in
    let h : k.at < length s = c.if-bytes-at.false in
    let t = line_from a.edition s k.at r.result h r.ensures in
    omega (arith, t.low, t.high)

pub slice_bounds-check_above-end : goal.slice_bounds-check_above-end
slice_bounds-check_above-end c =
    let a = c.args in
    let s = a.bytes.now in
    let k = c.rows in
    let r = c.next_line-l in
    let h : k.at < length s = c.if-bytes-at.false in
    let t = line_from a.edition s k.at r.result h r.ensures in
    omega (arith, t.low, t.high)

pub returns-in-Err : goal.returns-in-Err
returns-in-Err c =
    let a = c.args in
    let s = a.bytes.now in
    let k = c.rows in
    let r = c.next_line-l in
    let h : k.at < length s = c.if-bytes-at.false in
    let t = line_from a.edition s k.at r.result h r.ensures in
    walk_refused a.edition a.table a.line a.first s a.from k.i k.at k.invariant r.result h r.ensures c.rows-test.true c.placed-verdict.result
    (c.placed-verdict.ensures ∙ ap (placed a.table k.i) c.check_above.ensures) _ c.in-Err.is k.at

pub slice_bounds-line_after-count : goal.slice_bounds-line_after-count
slice_bounds-line_after-count c =
    let a = c.args in
    let s = a.bytes.now in
    let k = c.rows in
    let r = c.next_line-l in
    let h : k.at < length s = c.if-bytes-at.false in
    let t = line_from a.edition s k.at r.result h r.ensures in
    omega (arith, t.low)

pub slice_bounds-line_after-start : goal.slice_bounds-line_after-start
slice_bounds-line_after-start c =
    let a = c.args in
    let s = a.bytes.now in
    let k = c.rows in
    let r = c.next_line-l in
    let h : k.at < length s = c.if-bytes-at.false in
    let t = line_from a.edition s k.at r.result h r.ensures in
    omega (arith, t.low, t.high)

pub slice_bounds-line_after-end : goal.slice_bounds-line_after-end
slice_bounds-line_after-end c =
    let a = c.args in
    let s = a.bytes.now in
    let k = c.rows in
    let r = c.next_line-l in
    let h : k.at < length s = c.if-bytes-at.false in
    let t = line_from a.edition s k.at r.result h r.ensures in
    omega (arith, t.low, t.high)

pub line_after-i-requires : goal.line_after-i-requires
line_after-i-requires c =
    let a = c.args in
    let s = a.bytes.now in
    let k = c.rows in
    let r = c.next_line-l in
    let h : k.at < length s = c.if-bytes-at.false in
    let t = line_from a.edition s k.at r.result h r.ensures in
    omega (arith, part_length s k.at r.result.end t.high, t.low, t.high, k.invariant.small, k.invariant.within, c.requires.0)

pub rows-smaller : goal.rows-smaller
rows-smaller c =
    let a = c.args in
    let k = c.rows in
    let r = c.next_line-l in
    omega (arith, c.line_after-i.ensures, after_more a.edition k.i (take (r.result.end - k.at) (drop k.at a.bytes.now)), c.rows-test.true)

pub rows-preserved : goal.rows-preserved
rows-preserved c =
    let a = c.args in
    let s = a.bytes.now in
    let k = c.rows in
    let r = c.next_line-l in
    let h : k.at < length s = c.if-bytes-at.false in
    let t = line_from a.edition s k.at r.result h r.ensures in
    walk_on a.edition a.table a.line a.first s a.from k.i k.at k.invariant r.result h r.ensures c.rows-test.true c.placed-verdict.result
    (c.placed-verdict.ensures ∙ ap (placed a.table k.i) c.check_above.ensures) c.in-Ok.is c.line_after-i.result c.line_after-i.ensures

pub returns-then-line-i : goal.returns-then-line-i
returns-then-line-i c =
    let a = c.args in
    let k = c.rows in
    elim c.then-line-i.branch [
      | then-line-i-via-then-line-i w ↦ walk_past a.edition a.table a.line a.first a.bytes.now a.from k.i k.at k.invariant w.if-line-i.true c.no_row-then-line-i.result c.no_row-then-line-i.ensures
      | then-line-i-via-else-line-i+then-bytes-at-2 w ↦ walk_ended a.edition a.table a.line a.first a.bytes.now a.from k.i k.at k.invariant w.if-bytes-at-2.true c.no_row-then-line-i.result c.no_row-then-line-i.ensures
    ]

pub returns : goal.returns
returns c =
    let a = c.args in
    let s = a.bytes.now in
    let k = c.rows in
    walk_found a.edition a.table a.line a.first s a.from k.i k.at k.invariant (line_at a.edition s k.at) c.if-bytes-at-2.false refl (omega (arith, c.if-line-i.false, c.rows-test.false))
