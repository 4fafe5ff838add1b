-- Where a key stands in a lent slice.
-- Inner: no promise and no contract of a public function speaks of it.
use Rattle.std.specs.Prelude.{◌≡◌, List, [], ◌∷◌, true, Bool, ◌&&◌, ℕ, suc, length, Result, Ok, Err}
use Rattle.words.specs.Words.{Row}
use Rattle.rows.specs.Rows.{rising, key_order, by_order}
use Rattle.rows.specs.Room.{filled, used, same_rows, zeros}

-- a slice that holds a table: its used rows by rising key, and zeros behind them
pub record Holds (k : ℕ) (slice : List Row) : Type 0 where
  pub rises : rising k (used slice) ≡ true
  pub rest : slice ≡ filled (length slice) (used slice)

-- the test of it
abbrev pub holds : ℕ → List Row → Bool
holds k slice = rising k (used slice) && same_rows slice (filled (length slice) (used slice))

-- where the key of a row stands among rows, or where it would stand; the first row is at place i
unfoldable pub spot_from : ℕ → ℕ → Row → List Row → Result ℕ ℕ
spot_from k i row [] = Err i
spot_from k i row (x ∷ xs) = by_order (key_order k row x) (Err i) (Ok i) (spot_from k (suc i) row xs)

abbrev pub spot : ℕ → Row → List Row → Result ℕ ℕ
spot k row xs = spot_from k 0 row xs

-- the row of that key, or a row of zeros
abbrev pub row_of : Row → Row
row_of [] = zeros
row_of (x ∷ xs) = x ∷ xs
