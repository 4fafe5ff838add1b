use Prim.Native.Nat.{◌≤◌}
use native.Mathlib.Omega.{arith}
use Rattle.fault_mark.proofs.Marking.{begin_here, begin_on, begin_end}
use Rattle.fault_mark.proofs.cell_begin.Goals as goal

pub returns-then-left-eq0 : goal.returns-then-left-eq0
returns-then-left-eq0 c =
    let a = c.args in
    let w = c.loop-i in
    omega (arith, begin_here a.line.now w.i w.left w.state c.if-left-eq0.true, w.invariant)

pub loop-i-preserved : goal.loop-i-preserved
loop-i-preserved c =
    let a = c.args in
    let w = c.loop-i in
    let some : 1 ≤ w.left = omega (arith, c.if-left-eq0.false) in
    omega (arith, begin_on a.line.now w.i w.state c.loop-i-test.true c.kind_of.result c.past_byte-next.result c.is_over.result c.kind_of.ensures c.past_byte-next.ensures c.is_over.ensures w.left some c.fewer-left.result c.resume-state.result c.fewer-left.ensures c.resume-state.ensures, w.invariant)

pub returns : goal.returns
returns c =
    let a = c.args in
    let w = c.loop-i in
    omega (arith, begin_end a.line.now w.i w.left w.state c.loop-i-test.false, w.invariant)
