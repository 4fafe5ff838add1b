-- The test of the book rule.
use Rattle.std.specs.Prelude.{List, [], ◌∷◌, Bool, true, ◌&&◌, not, take, length, leb, eqb}
use Rattle.words.specs.Words.{Row, same, all}
use Rattle.refusals.specs.Verdicts.{passes}
use Rattle.rows.specs.Rows.{wide, rising}
use Rattle.rows.specs.Room.{same_rows}
use Rattle.tables.specs.Columns.{Column, in_range, columns_of, kept_width, key_width}
use Rattle.tables.specs.declared.Table.{Table}
use Rattle.tables.specs.Parts.{room, tables, book_rows}
use Rattle.book.specs.Book.{Book, rows}
use Rattle.book.specs.Room.{laid, book_of}
use Rattle.rules.specs.Rules.{time_fault, unknown}

-- each number is in its column's range
unfoldable pub ranged : List Column → Row → Bool
ranged [] row = true
ranged (x ∷ xs) [] = true
ranged (x ∷ xs) (n ∷ ns) = in_range x.rules n && ranged xs ns

-- the row could stand in its table of this book, by the columns of the edition "which the book keeps"
abbrev pub lawful : Table → Book → Row → Bool
lawful t b row =
    same row (wide (take (kept_width t) row))
    && ranged (columns_of b.edition t) (take (kept_width t) row)
    && not (time_fault t row)
    && passes (unknown t row b)

abbrev pub lawful_table : Table → Book → Bool
lawful_table t b = leb (length (rows t b)) (room t) && rising (key_width t) (rows t b) && all (lawful t b) (rows t b)

abbrev pub lawful_book : Book → Bool
lawful_book b = all (λ t. lawful_table t b) tables

-- 16: "handed-in book breaks the book rule, or a lent length is wrong"
abbrev pub keeps_rule : List Row → Bool
keeps_rule slice = eqb (length slice) book_rows && lawful_book (book_of slice) && same_rows slice (laid (book_of slice))
