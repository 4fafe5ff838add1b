-- How many days a span has. Assumes nothing.
use mathlib.Core.List.{List, [], ◌∷◌}
use mathlib.Core.Bool.{Bool, true, false}
use Prim.Native.Nat.{ℕ, ◌≤◌}
use native.Mathlib.Omega.{arith}
use lib.ListN.{length}
use Rattle.words.specs.Words.{Row, whether◌then◌else◌}
use Rattle.day_tally.specs.Days.{falls, days_of}

one_most : (here : Bool) → (whether here then 1 else 0) ≤ 1
one_most true = omega arith
one_most false = omega arith

-- no more days than rows
pub days_few : (first last version kind : ℕ) (days : List Row) → days_of first last version kind days ≤ length days
unfolding days_of
days_few first last version kind [] = omega arith
days_few first last version kind (x ∷ xs) = omega (arith, one_most (falls first last version kind x), days_few first last version kind xs)
