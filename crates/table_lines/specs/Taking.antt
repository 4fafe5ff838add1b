-- What the code finds on its way through the lines of a table.
-- Inner: no promise and no contract of a public function speaks of it.
use Rattle.std.specs.Prelude.{◌≡◌, List, [], ◌∷◌, ℕ, suc, Ok}
use Rattle.words.specs.Words.{Bytes, Row}
use Rattle.refusals.specs.Verdicts.{Check}
use Rattle.lines.specs.Lines.{lines, line_after}
use Rattle.editions.specs.declared.Edition.{Edition}
use Rattle.tables.specs.declared.Table.{Table}
use Rattle.book.specs.Book.{Book, entered}
use Rattle.book.specs.Room.{book_of}
use Rattle.book.specs.Result.{leaves, unless}
use Rattle.intake.specs.Shelving.{shelf_book, OnShelf}
use Rattle.header.specs.Header.{Header}
use Rattle.header.specs.Heading.{places}
use Rattle.row_line.specs.RowLine.{row_read}
use Rattle.row_line.specs.Judging.{read}
use Rattle.values.specs.declared.Judged.{Judged}
use Rattle.table_lines.specs.Reading.{judged, rows_read}
use Rattle.table_lines.specs.declared.Reached.{Reached}
use Rattle.table_lines.specs.declared.Filled.{Filled}

-- a line taken into a book: what it is refused for, or the book with its row
pub record Taken (t : Table) (h : Header) (line : Bytes) (old new : Book) (c : Check) : Type 0 where
  pub is : c ≡ judged t h line old
  pub enters : c ≡ Ok tt → new ≡ entered t (row_read old.edition t h line) old

-- what was read of some line, under some header of the table
abbrev pub ReadBy : Edition → Table → Judged → Type 0
ReadBy e t j = (h : Header) × ((line : Bytes) × (j ≡ read e t h line))

-- a line that was read, on the n rows of a shelf: `slots` and `order` are what it held before, `slots'` and `order'` behind the line
pub record RowTaken (t : Table) (j : Judged) (slice slots slots' : List Row) (order order' : List ℕ) (n : ℕ) (c : Check) : Type 0 where
  pub on : c ≡ Ok tt → OnShelf t slice slots' order' (suc n)
  pub taken : (h : Header) (line : Bytes) → j ≡ read (book_of slice).edition t h line → Taken t h line (shelf_book t slice slots order n) (shelf_book t slice slots' order' (suc n)) c

-- the number of the line behind some lines that begin on line i
unfoldable pub lines_after : Edition → ℕ → List Bytes → ℕ
lines_after e i [] = i
lines_after e i (l ∷ ls) = lines_after e (line_after e i l) ls

-- lines behind a header, from a number on, on such a shelf
pub record LinesTaken (t : Table) (at : List ℕ) (s : Bytes) (from : Reached) (slice slots slots' : List Row) (order order' : List ℕ) (f : Filled) : Type 0 where
  pub on : f.verdict ≡ Ok tt → OnShelf t slice slots' order' f.count
  pub next : f.verdict ≡ Ok tt → f.line ≡ lines_after (book_of slice).edition from.line (lines (book_of slice).edition s)
  pub taken : (h : Header) → at ≡ places h → unless f.verdict (leaves (shelf_book t slice slots' order' f.count)) ≡ rows_read t h from.line (lines (book_of slice).edition s) (shelf_book t slice slots order from.count)
