-- The columns and the figures of a table as the code keeps them: numbers.
-- Inner: no promise and no contract of a public function speaks of it.
use Rattle.std.specs.Prelude.{Bool, true, false, List, [], ◌∷◌, ℕ, zero, suc, length}
use Rattle.tables.specs.declared.Sort.{Sort}
use Rattle.tables.specs.declared.Sort.TheVariants.{Decimal, Text}
use Rattle.tables.specs.declared.Rules.{Rules}
use Rattle.tables.specs.Columns.{Column, no_column, columns_of, number, key_width, kept_width, references}
use Rattle.editions.specs.declared.Edition.{Edition}
use Rattle.editions.specs.declared.Edition.TheVariants.{Dino21, Dino23}
use Rattle.tables.specs.declared.Table.{Table}
use Rattle.tables.specs.declared.TableFigures.{TableFigures}

abbrev pub sort_number : Sort → ℕ
sort_number Decimal = 0
sort_number Text = 1

abbrev pub flag : Bool → ℕ
flag false = 0
flag true = 1

-- a column as seven numbers: its sort, its width, the lowest and the highest number it takes, whether it is a key, whether it is required, and
-- whether its numbers are dates
abbrev pub seven : Rules → List ℕ
seven x = sort_number x.sort ∷ x.width ∷ x.low ∷ x.high ∷ flag x.key ∷ flag x.required ∷ flag x.date ∷ []

-- the columns one behind the other, with room for n
unfoldable pub listing : ℕ → List Column → List (List ℕ)
listing zero xs = []
listing (suc n) [] = seven no_column.rules ∷ listing n []
listing (suc n) (x ∷ xs) = seven x.rules ∷ listing n xs

-- no table has more columns than this
abbrev pub column_room : ℕ
column_room = 12

-- the columns of a table
unfoldable pub listed : Edition → Table → List (List ℕ)
listed e t = listing column_room (columns_of e t)

-- those that differ by edition
abbrev pub chosen : Edition → List (List ℕ) → List (List ℕ) → List (List ℕ)
chosen Dino21 by21 by23 = by21
chosen Dino23 by21 by23 = by23

-- what a table is counted by
abbrev pub figures_of : Table → TableFigures
figures_of t =
    record { number = number t; columns21 = length (columns_of Dino21 t); columns23 = length (columns_of Dino23 t); keys = key_width t; kept = kept_width t; references = length (references t) }
