-- `number_lines::numbers_length` meets its contract. The invariant: the numbers passed, each with a byte behind it, whichever byte. Assumes nothing.
use mathlib.Core.Path.{◌≡◌}
use mathlib.Core.List.{map}
use Prim.Native.Nat.{ℕ, ◌*◌, ◌≤◌}
use lib.ListN.{length, take}
use Rattle.words.proofs.Lists.{ended}
use Rattle.numbers.specs.Numbers.{decimal}
use Rattle.number_lines.proofs.numbers_length.Given as goal

abbrev pub invariant-loop-n : goal.invariant-loop-n
invariant-loop-n l = (l.size ≤ l.n-index * 21) × ((separator : ℕ) → l.size ≡ length (ended separator (map decimal (take l.n-index l.numbers))))
