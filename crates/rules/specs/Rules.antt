-- The rules that a row meets in its book.
use Rattle.std.specs.Prelude.{Bool, ◌&&◌, false, not, [], ◌∷◌, List, ℕ, ◌-◌, ◌+◌, ltb, Ok}
use Rattle.words.specs.Words.{Row, whether◌then◌else◌}
use Rattle.refusals.specs.Verdicts.{◌⊳◌, ◌when◌, no_row, key_stands, ends_early, Check}
use Rattle.rows.specs.Rows.{column}
use Rattle.tables.specs.declared.Table.{Table}
use Rattle.tables.specs.declared.Table.TheVariants.{VehicleType, Depot, Stop, StopPoint, Block, Calendar}
use Rattle.tables.specs.declared.Reference.{Reference}
use Rattle.tables.specs.Columns.{references}
use Rattle.book.specs.Book.{Book, knows}

-- the seconds of a day
abbrev pub day : ℕ
day = 86400

-- "both times are below 86,400"
abbrev pub within_day : Row → Bool
within_day row = ltb (column 8 row) day && ltb (column 11 row) day

-- "the end is lower", "an end below its begin"
abbrev pub ends_lower : Row → Bool
ends_lower row = ltb (column 11 row) (column 8 row)

-- "where both times are below 86,400 and the end is lower, the block runs into the next day"
abbrev pub overnight : Row → Bool
overnight row = within_day row && ends_lower row

-- 11: "for an end below its begin where either is 86,400 or more", that is where not both are below
abbrev pub time_fault : Table → Row → Bool
time_fault VehicleType row = false
time_fault Depot row = false
time_fault Stop row = false
time_fault StopPoint row = false
time_fault Block row = ends_lower row && not (within_day row)
time_fault Calendar row = false

-- the key that column k names in a table: "each together with VERSION"; of a stop point its stop's number stands one column before
abbrev pub named : Table → ℕ → Row → Row
named VehicleType k row = column 1 row ∷ column k row ∷ []
named Depot k row = column 1 row ∷ column k row ∷ []
named Stop k row = column 1 row ∷ column k row ∷ []
named StopPoint k row = column 1 row ∷ column (k - 1) row ∷ column k row ∷ []
named Block k row = column 1 row ∷ column k row ∷ []
named Calendar k row = column 1 row ∷ column k row ∷ []

-- whether a row's reference finds its row
abbrev pub finds : Reference → Row → Book → Bool
finds x row b = knows x.to (named x.to x.column row) b

-- 10: "reference finds no row", at the first such column
unfoldable pub unknown_of : List Reference → Row → Book → Check
unknown_of [] row b = Ok tt
unknown_of (x ∷ xs) row b =
    no_row x.column when not (finds x row b)
    ⊳ unknown_of xs row b

abbrev pub unknown : Table → Row → Book → Check
unknown t row b = unknown_of (references t) row b

-- "11, 9, 10 by column number"
abbrev pub ruled : Table → Row → Book → Check
ruled t row b =
    ends_early when time_fault t row
    ⊳ key_stands when knows t row b
    ⊳ unknown t row b

-- "Seconds of a block: END minus BEGIN."; of one that runs into the next day "end plus 86,400 minus begin seconds"
abbrev pub seconds : Row → ℕ
seconds row = whether overnight row then column 11 row + day - column 8 row else column 11 row - column 8 row
