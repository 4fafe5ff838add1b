-- The vehicle_block writer.
use Rattle.std.specs.Prelude.{List, [], ◌∷◌, ◌++◌, map}
use Rattle.words.specs.Words.{Bytes, Row}
use Rattle.cells.specs.Cells.{parted}
use Rattle.numbers.specs.Numbers.{decimal}
use Rattle.editions.specs.declared.Edition.TheVariants.{Dino21}
use Rattle.tables.specs.Columns.{columns_of}
use Rattle.tables.specs.declared.Table.TheVariants.{Block}
use Rattle.book.specs.Book.{Book}

-- a line feed behind each line
unfoldable pub lines_written : List Bytes → Bytes
lines_written [] = []
lines_written (l ∷ ls) = l ++ (10 ∷ lines_written ls)

-- "The written table has the 11 names above in order"
abbrev pub names_line : Bytes
names_line = parted 59 (map (λ x. x.name) (columns_of Dino21 Block))

-- "no quotes, no leading zeros"
abbrev pub row_line : Row → Bytes
row_line row = parted 59 (map decimal row)

-- "line feeds, rows by rising key"
abbrev pub written : Book → Bytes
written b = lines_written (names_line ∷ map row_line b.blocks)
