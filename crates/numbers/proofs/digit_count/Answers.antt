use mathlib.Core.Path.{refl}
use Prim.Native.Nat.{◌*◌}
use native.Mathlib.Omega.{arith}
use Rattle.numbers.proofs.Writing.{decimal_some, decimal_short}
use Rattle.numbers.proofs.Counting.{decimal_long, decimal_exact, power_next}
use Rattle.numbers.proofs.digit_count.Goals as goal

pub loop-count-init : goal.loop-count-init
loop-count-init c = (refl, decimal_some c.args.n)

pub returns-then-n-bound : goal.returns-then-n-bound
returns-then-n-bound c =
    let l = c.loop-count in
    decimal_exact l.count c.args.n l.auto.count l.invariant.1 (omega arith)

pub loop-count-preserved : goal.loop-count-preserved
loop-count-preserved c =
    let l = c.loop-count in
    (power_next (l.bound * 10) l.count l.invariant.0, decimal_long l.count c.args.n (omega arith))

pub returns : goal.returns
returns c = omega (arith, decimal_short c.args.n c.ranges.n.fits)
