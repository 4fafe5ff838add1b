-- The tables in the order of reading, and their rooms in the book.
use Rattle.std.specs.Prelude.{List, [], ◌∷◌, ℕ, ◌+◌, suc, take}
use Rattle.rows.specs.Room.{most_rows}
use Rattle.tables.specs.declared.Table.{Table}
use Rattle.tables.specs.declared.Table.TheVariants.{VehicleType, Depot, Stop, StopPoint, Block, Calendar}

-- which part of the book is the table's, counted from 0
abbrev pub part_of : Table → ℕ
part_of VehicleType = 0
part_of Depot = 1
part_of Stop = 2
part_of StopPoint = 3
part_of Block = 4
part_of Calendar = 5

-- the tables in the order of reading, which is that of their parts of the book; the calendar is "read last"
abbrev pub tables : List Table
tables = VehicleType ∷ Depot ∷ Stop ∷ StopPoint ∷ Block ∷ Calendar ∷ []

-- of the calendar "at most 800 rows"
abbrev pub most_days : ℕ
most_days = 800

-- "There are at most 512 rows in each table.", but for the calendar
abbrev pub room : Table → ℕ
room VehicleType = most_rows
room Depot = most_rows
room Stop = most_rows
room StopPoint = most_rows
room Block = most_rows
room Calendar = most_days

-- what some tables have room for together
abbrev pub rooms : List Table → ℕ
rooms [] = 0
rooms (t ∷ ts) = room t + rooms ts

-- where a table's part of the book begins: behind the rooms of the tables before it
abbrev pub begin : Table → ℕ
begin t = rooms (take (part_of t) tables)

-- where the row of marks stands, in which "the delivery's edition, which the book keeps" is marked: behind the rooms of all tables
abbrev pub marks_at : ℕ
marks_at = rooms tables

-- how many rows a book has: the rooms of all its tables, and the row of marks
abbrev pub book_rows : ℕ
book_rows = suc marks_at
