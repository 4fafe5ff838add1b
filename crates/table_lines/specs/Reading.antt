-- The lines of a table, each judged on the book as the earlier ones left it.
use Rattle.std.specs.Prelude.{List, [], ◌∷◌, ℕ}
use Rattle.words.specs.Words.{Bytes}
use Rattle.refusals.specs.Verdicts.{◌⊳◌, ◌when◌, too_many_rows, placed, Check}
use Rattle.lines.specs.Lines.{line_after}
use Rattle.cells.specs.Cells.{cut, cells_of}
use Rattle.tables.specs.Columns.{columns_of, number}
use Rattle.tables.specs.declared.Table.{Table}
use Rattle.values.specs.Values.{bad_cell}
use Rattle.book.specs.Book.{Book, full, entered}
use Rattle.book.specs.Result.{Result, leaves, unless}
use Rattle.rules.specs.Rules.{ruled}
use Rattle.header.specs.Header.{Header, cut_check, contents}
use Rattle.row_line.specs.RowLine.{row_read}

-- "then line by line 5, 6, 7, 8 by column number, 11, 9, 10 by column number", 17 "after 5", and 19, 20 and 21, which "keep 8's place"; by the
-- edition of the book that is read
unfoldable pub judged : Table → Header → Bytes → Book → Check
judged t h line b =
    too_many_rows when full t b
    ⊳ cut_check b.edition h line
    ⊳ bad_cell 1 (columns_of b.edition t) (contents b.edition t h (cells_of (cut b.edition line)))
    ⊳ ruled t (row_read b.edition t h line) b

-- the lines from line i on, each judged on the book as the earlier ones left it
unfoldable pub rows_read : Table → Header → ℕ → List Bytes → Book → Result
rows_read t h i [] b = leaves b
rows_read t h i (l ∷ ls) b =
    unless (placed (number t) i (judged t h l b)) (rows_read t h (line_after b.edition i l) ls (entered t (row_read b.edition t h l) b))
