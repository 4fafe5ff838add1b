-- The question for one cell of one text.
use Rattle.std.specs.Prelude.{◌≡◌, List, ◌++◌, [], ◌∷◌, Bool, true, false, not, ◌||◌, ℕ, ◌+◌, ◌-◌, length, take, drop, eqb, ltb, Option, Some, None, Ok, Err}
use Rattle.words.specs.Words.{Bytes, whether◌then◌else◌}
use Rattle.refusals.specs.declared.Cell.{Cell}
use Rattle.refusals.specs.declared.Cell.TheVariants.{Empty, Number, Text, Equip21, Flags23}
use Rattle.refusals.specs.Verdicts.{paper, values, ◌⊳◌, ◌when◌, ◌before◌, placed, nowhere, not_there, unknown_edition, Verdict}
use Rattle.lines.specs.Lines.{lines, head_line, row_lines, line_after, starts_on, row_on, line_start}
use Rattle.cells.specs.Cells.{content, quoted, Cut, cut, cells_of}
use Rattle.numbers.specs.Numbers.{value}
use Rattle.editions.specs.Editions.{choice}
use Rattle.editions.specs.declared.Edition.{Edition}
use Rattle.editions.specs.declared.Edition.TheVariants.{Dino21, Dino23}
use Rattle.tables.specs.declared.Sort.{Sort}
use Rattle.tables.specs.declared.Table.{Table}
use Rattle.tables.specs.declared.Table.TheVariants.{VehicleType, Depot, Stop, StopPoint, Block, Calendar}
use Rattle.tables.specs.Columns.{columns_of, column_at, number, numbered}
use Rattle.tables.specs.declared.Sort.TheVariants as sort-is
use Rattle.values.specs.Values.{cell_check}
use Rattle.header.specs.Header.{under, header_of, line_check, cut_check, top_faults, offset}
use Rattle.cell_question.specs.declared.CellAnswer.{CellAnswer}

-- "every refusal zeros for numbers" and "an empty stretch"
abbrev pub answered : Verdict → Cell → CellAnswer
answered (Ok _) c = record { verdict = Ok tt; cell = c }
answered (Err p) c = record { verdict = Err p; cell = Empty }

-- "this paper's number and values" of the answer: number, table, line, column; then 1 and a number, or 2 and a stretch, or
-- 3 or 4 and the access equipment, or zeros
abbrev pub cell_paper : CellAnswer → List ℕ
cell_paper a = paper a.verdict ++ values a.cell

-- "A number, a stretch of text, or nothing, the last for empty content or a missing optional column." "The stretch is the caller's own
-- bytes between the quotes, or the whole cell where unquoted, doubled quotes still doubled." `at` is where the cell begins in the text
abbrev pub said : Sort → ℕ → Bytes → Cell
said sort-is.Decimal at cell = Number (value (content cell))
said sort-is.Text at cell = whether quoted cell then Text (at + 1) (length cell - 2) else Text at (length cell)

abbrev pub cell_said : Sort → ℕ → Bytes → Cell
cell_said sort at cell = whether eqb (length (content cell)) 0 then Empty else said sort at cell

-- "A 2 there means a ramp, in 2.1 lift or ramp; the cell answer must name which": VEH_TYPE_ACCESS_EQUIP, column 11 of vehicle_type
abbrev pub is_equip : Table → ℕ → Bool
is_equip VehicleType k = eqb k 11
is_equip Depot k = false
is_equip Stop k = false
is_equip StopPoint k = false
is_equip Block k = false
is_equip Calendar k = false

abbrev pub equip_said : Edition → ℕ → Cell
equip_said Dino21 n = Equip21 n
equip_said Dino23 n = Flags23 n

-- a number of that column names its edition
abbrev pub meant : Edition → Bool → Cell → Cell
meant e false c = c
meant e true (Number n) = equip_said e n
meant e true (Text start len) = Text start len
meant e true Empty = Empty
meant e true (Equip21 n) = Equip21 n
meant e true (Flags23 n) = Flags23 n

-- the row asked for -----------------------------------------------------------------------------------------------------------------

-- the rows behind the header, and the line on which the first one starts
abbrev pub rows_behind : Edition → Bytes → List Bytes
rows_behind e s = row_lines (lines e s)

abbrev pub first_line : Edition → Bytes → ℕ
first_line e s = line_after e 1 (head_line (lines e s))

-- the row that starts on a line, cut, and the cell of column k in it
abbrev pub line_asked : Edition → ℕ → Bytes → Bytes
line_asked e line s = row_on e line (first_line e s) (rows_behind e s)

abbrev pub cut_at : Edition → ℕ → Bytes → Cut
cut_at e line s = cut e (line_asked e line s)

abbrev pub cell_at : Edition → Table → Bytes → ℕ → ℕ → Bytes
cell_at e t s line k = under k (header_of e t s) (cells_of (cut_at e line s))

-- "a 6 or 17 in a row above comes first": of the rows that start above a line, from the top; the first of these rows starts on line i
unfoldable pub first_above : Edition → ℕ → ℕ → ℕ → List Bytes → Verdict
first_above e table line i [] = Ok tt
first_above e table line i (l ∷ ls) = placed table i (line_check e l when ltb i line) before first_above e table line (line_after e i l) ls

-- 2.1: "Other rows and 5 do not matter."
abbrev pub above : Edition → Table → Bytes → ℕ → Verdict
above Dino21 t s line = Ok tt
above Dino23 t s line = first_above Dino23 (number t) line (first_line Dino23 s) (rows_behind Dino23 s)

-- the answer ------------------------------------------------------------------------------------------------------------------------

-- "15 for table or column, 1, header faults, 15 for the line (line 1 included), then 6 and 7 for that line and 8 for that cell." 17 is "first
-- among header and line checks"; 19, 20 and 21 "keep 8's place". "A cell asked on another line is 15, but a 6 or 17 in a row above comes first."
unfoldable pub cell_verdict : Edition → Table → Bytes → ℕ → ℕ → Verdict
cell_verdict e t s line k =
    nowhere (not_there when (eqb k 0 || ltb (length (columns_of e t)) k))
    before top_faults e t s
    before above e t s line
    before nowhere (not_there when not (starts_on e line (first_line e s) (rows_behind e s)))
    before placed (number t) line (cut_check e (header_of e t s) (line_asked e line s) ⊳ cell_check k (column_at e t (k - 1)).rules (content (cell_at e t s line k)))

-- where the cell begins in the text
abbrev pub cell_start : Edition → Table → Bytes → ℕ → ℕ → ℕ
cell_start e t s line k = line_start line s + offset k (header_of e t s) (cells_of (cut_at e line s))

unfoldable pub table_cell : Edition → Table → Bytes → ℕ → ℕ → CellAnswer
table_cell e t s line k =
    answered (cell_verdict e t s line k) (meant e (is_equip t k) (cell_said (column_at e t (k - 1)).rules.sort (cell_start e t s line k) (cell_at e t s line k)))

abbrev pub asked_of : Edition → Option Table → Bytes → ℕ → ℕ → CellAnswer
asked_of e (Some t) s line k = table_cell e t s line k
asked_of e None s line k = answered (nowhere not_there) Empty

-- "an unknown edition is 22, right after 16", and here there is no 16
abbrev pub asked_in : Option Edition → Bytes → ℕ → ℕ → ℕ → CellAnswer
asked_in (Some e) s table line k = asked_of e (numbered table) s line k
asked_in None s table line k = answered (nowhere unknown_edition) Empty

-- "Cell: one table's text, its number, a line, a column.", by the edition of a number
unfoldable pub cell_asked : ℕ → Bytes → ℕ → ℕ → ℕ → CellAnswer
cell_asked n s table line k = asked_in (choice n) s table line k

-- the stretch itself: "the caller's own bytes"; "Every answer but a text hands back an empty stretch"
abbrev pub stretch_of : Bytes → Cell → Bytes
stretch_of s (Number n) = []
stretch_of s (Text start len) = take len (drop start s)
stretch_of s Empty = []
stretch_of s (Equip21 n) = []
stretch_of s (Flags23 n) = []

-- what the contracts of `cell` and `stretch` permit: one answer, and one stretch
abbrev pub CellPermits : ℕ → Bytes → ℕ → ℕ → ℕ → CellAnswer → Type 0
CellPermits n s table line k a = a ≡ cell_asked n s table line k

abbrev pub StretchPermits : ℕ → Bytes → ℕ → ℕ → ℕ → Bytes → Type 0
StretchPermits n s table line k part = part ≡ stretch_of s (cell_asked n s table line k).cell
