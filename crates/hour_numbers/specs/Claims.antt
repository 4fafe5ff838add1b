-- What is claimed of hours, whatever the seconds are of. Each is a type; whoever has an element of it has a proof.
use Rattle.std.specs.Prelude.{List, ℕ, ◌^◌, ◌≤◌, ◌<◌, length}
use Rattle.hour_numbers.specs.Hours.{hours_of, clerk, together, Near}

-- "2 to the 53rd times the distance between 3,600 times the handed-out number and S is at most S"
abbrev pub QuotientNear : Type 0
QuotientNear = (S : ℕ) → S < 2 ^ 53 → Near 53 1 S (hours_of S)

-- "For n blocks of S seconds together, 2 to the 52nd times the distance between 3,600 times that sum and S is at most n times S."
abbrev pub SumNear : Type 0
SumNear = (ss : List ℕ) → length ss ≤ 2 ^ 52 → together ss < 2 ^ 53 → Near 52 (length ss) (together ss) (clerk ss)
