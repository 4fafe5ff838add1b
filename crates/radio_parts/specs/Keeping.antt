-- What the code of a part keeps behind it.
-- Inner: no promise and no contract of a public function speaks of it.
use Rattle.std.specs.Prelude.{◌≡◌, List, ℕ, ◌≤◌, length, Ok}
use Rattle.words.specs.Words.{Bytes, Row}
use Rattle.tables.specs.Parts.{book_rows}
use Rattle.radio.specs.Room.{radio_numbers, radio_bytes, first_heard, last_heard, turn_of}
use Rattle.radio_lines.specs.declared.Heard.{Heard}
use Rattle.radio_lines.specs.Lines.{Holding}
use Rattle.radio_slices.specs.Hearing.{table_of}

-- what is to be kept of a table that is heard: where there is no fault, it can go on
pub record Keeping (heard : Heard) (book : List Row) (kept : List ℕ) (lines : Bytes) : Type 0 where
  pub rows : length book ≡ book_rows
  pub numbers : length kept ≡ radio_numbers
  pub bytes : length lines ≡ radio_bytes
  pub least : first_heard ≤ turn_of kept
  pub last : turn_of kept ≤ last_heard
  pub holds : heard.verdict ≡ Ok tt → Holding (table_of kept) heard book lines
