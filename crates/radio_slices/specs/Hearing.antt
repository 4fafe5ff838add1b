-- What the code takes up of a table that is heard.
-- Inner: no promise and no contract of a public function speaks of it.
use Rattle.std.specs.Prelude.{◌≡◌, List, true, ℕ, ◌-◌, ◌≤◌, length, Ok}
use Rattle.words.specs.Words.{Bytes, Row}
use Rattle.tables.specs.Parts.{book_rows}
use Rattle.tables.specs.declared.Table.{Table}
use Rattle.radio.specs.Radio.{most_counted}
use Rattle.radio.specs.Room.{table_at, keeps_radio, radio_numbers, radio_bytes, first_heard, last_heard, turn_of, announced_of, come_of, line_of, head_of, rest_of}
use Rattle.radio_rule.specs.Lent.{slices}
use Rattle.radio_lines.specs.declared.Heard.{Heard}

-- which table the numbers name
abbrev pub table_of : List ℕ → Table
table_of kept = table_at (turn_of kept - first_heard)

-- the unfinished line, and how much of the two lines is kept
abbrev pub taken : List ℕ → Heard
taken kept = record { verdict = Ok tt; line = line_of kept; head = head_of kept; rest = rest_of kept }

-- the slices keep the rule, and a table is heard
pub record Hears (book : List Row) (kept : List ℕ) (lines : Bytes) : Type 0 where
  pub keeps : keeps_radio (slices book kept lines) ≡ true
  pub rows : length book ≡ book_rows
  pub numbers : length kept ≡ radio_numbers
  pub bytes : length lines ≡ radio_bytes
  pub heard : first_heard ≤ turn_of kept
  pub last : turn_of kept ≤ last_heard
  pub announced : announced_of kept ≤ most_counted
  pub come : come_of kept ≤ most_counted
