-- `numbers::write_number` meets its contract. The invariant: the first digits are put, and what is left has the others. Assumes nothing.
use Prim.Native.Nat.{◌+◌, ◌≤◌, ◌<◌}
use Rattle.numbers.specs.Numbers.{decimal}
use Rattle.numbers.proofs.Powers.{Written}
use Rattle.numbers.proofs.write_number.Given as goal

abbrev pub invariant-loop-i : goal.invariant-loop-i
invariant-loop-i l = (l.i ≤ l.last) × (l.last < l.i + 19) × Written (decimal l.n) l.count l.fn.out l.out l.left l.i
