-- The book.
use Rattle.std.specs.Prelude.{List, [], Bool, eqb, leb, length}
use Rattle.words.specs.Words.{Row, whether◌then◌else◌}
use Rattle.rows.specs.Rows.{inserted, stands}
use Rattle.editions.specs.declared.Edition.{Edition}
use Rattle.editions.specs.declared.Edition.TheVariants.{Dino21}
use Rattle.tables.specs.declared.Table.{Table}
use Rattle.tables.specs.declared.Table.TheVariants.{VehicleType, Depot, Stop, StopPoint, Block, Calendar}
use Rattle.tables.specs.Columns.{key_width}
use Rattle.tables.specs.Parts.{room, part_of}

-- "The book holds the keys of tables 1 to 3 and the 11 numbers of each block, rows by rising key", the keys of stop points, the
-- three numbers of each day, and "the delivery's edition, which the book keeps"
pub record Book : Type 0 where
  pub types : List Row
  pub depots : List Row
  pub stops : List Row
  pub points : List Row
  pub blocks : List Row
  pub days : List Row
  pub edition : Edition

-- a book by its edition and its tables
abbrev pub book_by : Edition → (Table → List Row) → Book
book_by e f = record { types = f VehicleType; depots = f Depot; stops = f Stop; points = f StopPoint; blocks = f Block; days = f Calendar; edition = e }

-- the book that a reading begins with: tables without rows, and "the delivery's edition"
abbrev pub empty_by : Edition → Book
empty_by e = book_by e (λ t. [])

-- "A refused reading leaves an empty book, which is the book of" six "tables without rows", and its edition is "2.1 after a refused reading"
abbrev pub empty : Book
empty = empty_by Dino21

abbrev pub rows : Table → Book → List Row
rows VehicleType b = b.types
rows Depot b = b.depots
rows Stop b = b.stops
rows StopPoint b = b.points
rows Block b = b.blocks
rows Calendar b = b.days

-- the book with other rows in one table; its edition stays
abbrev pub with_rows : Table → List Row → Book → Book
with_rows t xs b = book_by b.edition (λ u. whether eqb (part_of u) (part_of t) then xs else rows u b)

-- the book with a row entered in a table
abbrev pub entered : Table → Row → Book → Book
entered t row b = with_rows t (inserted (key_width t) row (rows t b)) b

abbrev pub knows : Table → Row → Book → Bool
knows t row b = stands (key_width t) row (rows t b)

-- "There are at most 512 rows in each table.", and 800 in the calendar
abbrev pub full : Table → Book → Bool
full t b = leb (room t) (length (rows t b))
