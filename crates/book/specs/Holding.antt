-- A slice that holds a book.
-- Inner: no promise and no contract of a public function speaks of it.
use Rattle.std.specs.Prelude.{◌≡◌, List, [], length, get_or, Ok, Err}
use Rattle.words.specs.Words.{Row}
use Rattle.refusals.specs.Verdicts.{Verdict}
use Rattle.rows.specs.Spots.{Holds}
use Rattle.tables.specs.Columns.{key_width}
use Rattle.tables.specs.Parts.{book_rows, marks_at}
use Rattle.tables.specs.declared.Table.{Table}
use Rattle.book.specs.Room.{part, book_of, marks}
use Rattle.book.specs.Result.{Result, refused, leaves}

-- each part holds a table by its key, and the row behind them is that of the edition's mark
pub record Sound (slice : List Row) : Type 0 where
  pub long : length slice ≡ book_rows
  pub tables : (t : Table) → Holds (key_width t) (part t slice)
  pub marked : get_or slice marks_at [] ≡ marks (book_of slice).edition

-- what a verdict and a book's slice come to, where the slice is not looked at behind a refusal
abbrev pub result_of : Verdict → List Row → Result
result_of (Ok _) slice = leaves (book_of slice)
result_of (Err p) slice = refused p
