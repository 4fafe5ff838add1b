-- What the rows of a text leave in a lent book.
-- Inner: no promise and no contract of a public function speaks of it.
use Rattle.std.specs.Prelude.{List, ◌≡◌, ℕ, Ok}
use Rattle.words.specs.Words.{Bytes, Row}
use Rattle.refusals.specs.Verdicts.{placed, Verdict}
use Rattle.lines.specs.Lines.{lines}
use Rattle.tables.specs.Columns.{number}
use Rattle.tables.specs.declared.Table.{Table}
use Rattle.book.specs.Book.{entered}
use Rattle.book.specs.Result.{leaves, unless}
use Rattle.book.specs.Holding.{Sound, result_of}
use Rattle.book.specs.Room.{book_of}
use Rattle.rules.specs.Points.{NamedIn}
use Rattle.header.specs.Header.{Header}
use Rattle.header.specs.Heading.{places}
use Rattle.row_line.specs.RowLine.{row_read}
use Rattle.table_lines.specs.Reading.{judged, rows_read}
use Rattle.table_lines.specs.Taking.{lines_after}
use Rattle.table_reading.specs.declared.Taken.{Taken}

-- the lines of a text behind its header, from line i on, in the book
pub record RowsTaken (t : Table) (at : List ℕ) (s : Bytes) (i : ℕ) (slice slice' : List Row) (r : Taken) : Type 0 where
  pub sound : Sound slice'
  pub named : NamedIn (result_of r.verdict slice')
  pub next : r.verdict ≡ Ok tt → r.line ≡ lines_after (book_of slice).edition i (lines (book_of slice).edition s)
  pub taken : (h : Header) → at ≡ places h → result_of r.verdict slice' ≡ rows_read t h i (lines (book_of slice).edition s) (book_of slice)

-- and one line, which is line i
pub record LineTaken (t : Table) (at : List ℕ) (line : Bytes) (i : ℕ) (slice slice' : List Row) (v : Verdict) : Type 0 where
  pub sound : Sound slice'
  pub named : NamedIn (result_of v slice')
  pub taken : (h : Header) → at ≡ places h →
      result_of v slice' ≡ unless (placed (number t) i (judged t h line (book_of slice))) (leaves (entered t (row_read (book_of slice).edition t h line) (book_of slice)))
