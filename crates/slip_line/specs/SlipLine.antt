-- A line of a slip: what it asks for, and its numbers.
use Rattle.std.specs.Prelude.{List, [], ◌∷◌, map, ℕ, eqb, length}
use Rattle.words.specs.Words.{Bytes, whether◌then◌else◌, bytes, same, Row}
use Rattle.refusals.specs.Verdicts.{Check}
use Rattle.numbers.specs.Numbers.{value}
use Rattle.fields.specs.Fields.{fields}
use Rattle.editions.specs.declared.Edition.{Edition}
use Rattle.tables.specs.Columns.{columns_of, key_width, kept_width}
use Rattle.tables.specs.declared.Table.TheVariants.{Block}
use Rattle.values.specs.Values.{bad_cell}
use Rattle.slip_line.specs.declared.Wish.{Wish}
use Rattle.slip_line.specs.declared.Wish.TheVariants.{Add, Replace, Delete, Unknown}

-- the fields behind the kind
abbrev pub numbers : List Bytes → List Bytes
numbers [] = []
numbers (f ∷ fs) = fs

-- the kind that a first field names
abbrev pub letter : Bytes → Wish
letter f = whether same f (bytes "A") then Add else whether same f (bytes "R") then Replace else whether same f (bytes "D") then Delete else Unknown

-- "`A` and 11 numbers: add. `R` and 11: replace. `D` and the 4 key numbers: delete."
abbrev pub counted : Wish → ℕ → Wish
counted Add n = whether eqb n (kept_width Block) then Add else Unknown
counted Replace n = whether eqb n (kept_width Block) then Replace else Unknown
counted Delete n = whether eqb n (key_width Block) then Delete else Unknown
counted Unknown n = Unknown

-- 12, where it is Unknown: "slip line of unknown kind or field count"
abbrev pub wish : List Bytes → Wish
wish [] = Unknown
wish (f ∷ fs) = counted (letter f) (length fs)

-- "Numbers follow their column's rules, unquoted": 19, 20, 8 or 21. "Fields count as the vehicle_block columns."
-- "slips being judged by the delivery's edition"
abbrev pub bad_field : Edition → List Bytes → Check
bad_field e fs = bad_cell 1 (columns_of e Block) fs

-- the numbers of a line
abbrev pub row_in : Bytes → Row
row_in line = map value (numbers (fields line))
