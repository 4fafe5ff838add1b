-- What is asked of the slices when the turn goes on.
-- Inner: no promise and no contract of a public function speaks of it.
use Rattle.std.specs.Prelude.{◌≡◌, List, ℕ, ◌≤◌, length, Ok}
use Rattle.words.specs.Words.{Bytes, Row}
use Rattle.refusals.specs.Verdicts.{Verdict}
use Rattle.tables.specs.Parts.{book_rows}
use Rattle.book.specs.Holding.{Sound}
use Rattle.radio.specs.Room.{radio_numbers, radio_bytes, first_heard, last_heard, turn_of}

-- a table that is heard is closed with this verdict: where it is accepted, the slice holds a book
pub record Settling (v : Verdict) (book : List Row) (kept : List ℕ) (lines : Bytes) : Type 0 where
  pub rows : length book ≡ book_rows
  pub numbers : length kept ≡ radio_numbers
  pub bytes : length lines ≡ radio_bytes
  pub heard : first_heard ≤ turn_of kept
  pub last : turn_of kept ≤ last_heard
  pub sound : v ≡ Ok tt → Sound book
