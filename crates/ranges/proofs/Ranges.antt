-- What the range of a column tells of a number in it. Assumes nothing.
use mathlib.Core.Path.{◌≡◌}
use mathlib.Core.Bool.{true, ◌&&◌, ◌||◌, not}
use Prim.Native.Nat.{ℕ, ◌≤◌}
use lib.Dec.{leb}
use borrow.Author.Tests.{leb-true}
use Rattle.words.proofs.Lists.{and_left, and_right}
use Rattle.dates.specs.Calendar.{is_date}
use Rattle.tables.specs.Columns.{in_range}
use Rattle.tables.specs.declared.Rules.{Rules}

-- a number that a column takes is within its two ends
pub range_within : (x : Rules) (n : ℕ) → in_range x n ≡ true → (x.low ≤ n) × (n ≤ x.high)
range_within x n e =
    let ends = and_left (leb x.low n && leb n x.high) (not x.date || is_date n) e in
    (leb-true x.low n (and_left (leb x.low n) (leb n x.high) ends), leb-true n x.high (and_right (leb x.low n) (leb n x.high) ends))
