use native.Mathlib.Omega.{arith}
use Rattle.fault_mark.proofs.Marking.{size_over, size_on, size_end}
use Rattle.fault_mark.proofs.cell_end.Goals as goal

pub returns-then-is_over : goal.returns-then-is_over
returns-then-is_over c =
    let a = c.args in
    let w = c.loop-i in
    omega (arith, size_over a.line.now w.i w.state c.loop-i-test.true c.kind_of.result c.past_byte-state.result c.is_over.result c.kind_of.ensures c.past_byte-state.ensures c.is_over.ensures c.if-is_over.true, w.invariant.0)

pub loop-i-preserved : goal.loop-i-preserved
loop-i-preserved c =
    let a = c.args in
    let w = c.loop-i in
    (omega (arith, size_on a.line.now w.i w.state c.loop-i-test.true c.kind_of.result c.past_byte-state.result c.is_over.result c.kind_of.ensures c.past_byte-state.ensures c.is_over.ensures c.if-is_over.false, w.invariant.0), omega arith)

pub returns : goal.returns
returns c =
    let a = c.args in
    let w = c.loop-i in
    omega (arith, size_end a.line.now w.i w.state c.loop-i-test.false, w.invariant.0)
