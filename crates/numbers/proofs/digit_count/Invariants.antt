-- `numbers::digit_count` meets its contract. The invariant: ten times the bound is 10 to the count, and there are at least as many digits as are counted. Assumes nothing.
use mathlib.Core.Path.{◌≡◌}
use Prim.Native.Nat.{◌*◌, ◌^◌, ◌≤◌}
use lib.ListN.{length}
use Rattle.numbers.specs.Numbers.{decimal}
use Rattle.numbers.proofs.digit_count.Given as goal

abbrev pub invariant-loop-count : goal.invariant-loop-count
invariant-loop-count l = (l.bound * 10 ≡ 10 ^ l.count) × (l.count ≤ length (decimal l.n))
