-- The book in a lent slice: a part for each table, its rows with zeros behind them, and then the row of marks.
use Rattle.std.specs.Prelude.{List, [], ◌∷◌, ◌++◌, ℕ, eqb, take, drop, get_or}
use Rattle.words.specs.Words.{Row, whether◌then◌else◌}
use Rattle.rows.specs.Rows.{wide, column}
use Rattle.rows.specs.Room.{filled, used}
use Rattle.editions.specs.declared.Edition.{Edition}
use Rattle.editions.specs.declared.Edition.TheVariants.{Dino21, Dino23}
use Rattle.tables.specs.Parts.{room, tables, begin, marks_at}
use Rattle.tables.specs.declared.Table.{Table}
use Rattle.book.specs.Book.{Book, rows, book_by}

-- some tables of a book, one behind the other: "rows by rising key, unused room zero, and nothing else"
abbrev pub laid_of : List Table → Book → List Row
laid_of [] b = []
laid_of (t ∷ ts) b = filled (room t) (rows t b) ++ laid_of ts b

-- the mark of "the delivery's edition, which the book keeps". That of 2.1 is zero: the empty book is zero throughout
abbrev pub mark : Edition → ℕ
mark Dino21 = 0
mark Dino23 = 1

-- the row of marks: the edition's, and zeros behind it
abbrev pub marks : Edition → Row
marks e = wide (mark e ∷ [])

-- the edition that a row of marks tells
abbrev pub edition_of : Row → Edition
edition_of row = whether eqb (column 1 row) 1 then Dino23 else Dino21

-- a book in a slice: all its tables, and the row of marks
abbrev pub laid : Book → List Row
laid b = laid_of tables b ++ (marks b.edition ∷ [])

-- a table's part of a slice
abbrev pub part : Table → List Row → List Row
part t slice = take (room t) (drop (begin t) slice)

-- the book that a slice holds
abbrev pub book_of : List Row → Book
book_of slice = book_by (edition_of (get_or slice marks_at [])) (λ t. used (part t slice))
