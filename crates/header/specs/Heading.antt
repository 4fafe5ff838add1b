-- What the code keeps of a header.
-- Inner: no promise and no contract of a public function speaks of it.
use Rattle.std.specs.Prelude.{List, [], ◌∷◌, ◌≡◌, ℕ, zero, suc, ◌<◌, length, get_or, replicate, ltb, Ok, Err}
use Rattle.words.specs.Words.{Bytes}
use Rattle.refusals.specs.Verdicts.{◌⊳◌, ◌when◌, column_missing, column_twice, Check}
use Rattle.cells.specs.Cells.{cut, cells_of}
use Rattle.cells.specs.Numbered.{MarksOf}
use Rattle.editions.specs.declared.Edition.{Edition}
use Rattle.tables.specs.Listing.{column_room}
use Rattle.tables.specs.declared.Table.{Table}
use Rattle.header.specs.Header.{Header, place_from, header, line_check, header_check, repeated, missing}
use Rattle.header.specs.declared.CutLine.{CutLine}
use Rattle.header.specs.declared.Heading.{Heading}
use Rattle.header.specs.declared.Noted.{Noted}

-- the cells of n columns from k on
unfoldable pub places_from : ℕ → ℕ → Header → List ℕ
places_from zero k h = []
places_from (suc n) k h = place_from 0 k h ∷ places_from n (suc k) h

-- no table has more columns
abbrev pub most_columns : ℕ
most_columns = column_room

-- what is kept of a header: its count of cells, and the cell of each column
abbrev pub header_places : ℕ
header_places = suc most_columns

-- at place 0, which is no column's, how many cells a header has; then the cells of the columns from 1 on
abbrev pub places : Header → List ℕ
places h = length h ∷ places_from most_columns 1 h

abbrev pub cells_kept : List ℕ → ℕ
cells_kept at = get_or at 0 0

-- a header that passes is kept as its places
abbrev pub headed : Check → Header → Heading
headed (Ok _) h = record { check = Ok tt; at = places h }
headed (Err f) h = record { check = Err f; at = replicate header_places 0 }

abbrev pub heading : Edition → Table → Bytes → Heading
heading e t line = headed (header_check e t line) (header e t (cells_of (cut e line)))

-- the names of a header: the column that comes twice, and the places where none does
pub record NamesOf (h : Header) (names : Noted) : Type 0 where
  pub twice : names.twice ≡ repeated [] h
  pub noted : names.twice ≡ 0 → names.at ≡ places h

-- a line cut into its cells: how many they are, and their bounds where there is room for them
pub record LineCut (e : Edition) (line : Bytes) (bounds : List ℕ) (c : CutLine) : Type 0 where
  pub is : c.check ≡ line_check e line
  pub counted : c.check ≡ Ok tt → length (cells_of (cut e line)) ≡ c.cells
  pub marks : c.check ≡ Ok tt → c.cells < length bounds → MarksOf e line bounds c.cells

-- 3, then 2, of a header's names
abbrev pub names_check : Edition → Table → Header → Check
names_check e t h =
    column_twice (repeated [] h) when ltb 0 (repeated [] h)
    ⊳ column_missing (missing e t h) when ltb 0 (missing e t h)
