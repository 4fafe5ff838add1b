-- `lines::feeds_in` meets its contract: what is counted are the line feeds. Assumes nothing.
use mathlib.Core.Path.{◌≡◌}
use Prim.Native.Nat.{◌≤◌}
use mathlib.Core.Bool.{Bool, true, false}
use native.Mathlib.Omega.{arith}
use Rattle.std.specs.Int.{from_bool}
use lib.Dec.{eqb}
use lib.ListN.{get_or}
use Rattle.lines.specs.Lines.{feeds}
use Rattle.lines.proofs.Lining.{feeds_on, feeds_none}
use Rattle.lines.proofs.Starting.{feeds_most}
use Rattle.lines.proofs.feeds_in.Goals as goal

one_at_most : (t : Bool) → from_bool t ≤ 1
one_at_most true = omega arith
one_at_most false = omega arith

pub loop-b-preserved : goal.loop-b-preserved
loop-b-preserved c =
    let w = c.loop-b in
    let e = c.from-n.ensures in
    let s = c.args.bytes.now in
    (omega (arith, e, feeds_on s w.b-index c.loop-b-test.true, w.invariant.0), omega (arith, e, one_at_most (eqb (get_or s w.b-index 0) 10), w.invariant.1))

pub returns : goal.returns
returns c =
    let w = c.loop-b in
    let s = c.args.bytes.now in
    let n : w.n ≡ feeds s = omega (arith, feeds_none s w.b-index c.loop-b-test.false, w.invariant.0) in
    (n, omega (arith, n, feeds_most s))
