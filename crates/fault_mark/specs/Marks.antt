-- Where a place of refusal stands in its table's text, for a person's eye: the line, and the cell on it.
use Rattle.std.specs.Prelude.{Bool, true, false, ◌≡◌, [], ◌∷◌, ℕ, suc, zero, ◌-◌, ◌+◌, drop, take, length, eqb, ltb, Option, Some, None}
use Rattle.words.specs.Words.{Bytes, whether◌then◌else◌}
use Rattle.refusals.specs.declared.Place.{Place}
use Rattle.lines.specs.Lines.{lines, head_line, starts_on, row_on, line_start}
use Rattle.cells.specs.declared.State.{State}
use Rattle.cells.specs.declared.State.TheVariants.{Fresh, Plain, Inside, Closed, Over, Fault}
use Rattle.cells.specs.Cells.{next, kind, cut, cells_of}
use Rattle.cells.specs.declared.Kind.{Kind}
use Rattle.editions.specs.declared.Edition.{Edition}
use Rattle.tables.specs.declared.Table.{Table}
use Rattle.tables.specs.Columns.{numbered}
use Rattle.header.specs.Header.{Header, header, place_from, most_cells}
use Rattle.fault_mark.specs.declared.Mark.{Mark}
use Rattle.fault_mark.specs.declared.Mark.TheVariants.{Line, Cell, Nothing}

-- the cells of a line that may have a fault -------------------------------------------------------------------------------

-- A byte that is a fault is passed over, so that a faulty cell goes as far as it could: it stays as it was before that byte, and one that had
-- just begun is a plain one
abbrev pub kept : State → State
kept Fresh = Plain
kept Plain = Plain
kept Inside = Inside
kept Closed = Closed
kept Over = Over
kept Fault = Fault

abbrev pub unless_fault : State → State → State
unless_fault s Fresh = Fresh
unless_fault s Plain = Plain
unless_fault s Inside = Inside
unless_fault s Closed = Closed
unless_fault s Over = Over
unless_fault s Fault = kept s

abbrev pub past : State → Kind → State
past s k = unless_fault s (next s k)

-- whether the cell is over
abbrev pub over : State → Bool
over Fresh = false
over Plain = false
over Inside = false
over Closed = false
over Over = true
over Fault = false

-- the next cell begins where one is over
abbrev pub resumed : State → State
resumed Fresh = Fresh
resumed Plain = Plain
resumed Inside = Inside
resumed Closed = Closed
resumed Over = Fresh
resumed Fault = Fault

-- how many bytes a cell has from a state on
unfoldable pub size_from : State → Bytes → ℕ
size_from s [] = 0
size_from s (b ∷ bs) = whether over (past s (kind b)) then 0 else suc (size_from (past s (kind b)) bs)

-- how many bytes stand before the cell that comes behind n others; the whole line where there are fewer
unfoldable pub begin_from : ℕ → State → Bytes → ℕ
begin_from n s [] = 0
begin_from zero s (b ∷ bs) = 0
begin_from (suc n) s (b ∷ bs) = suc (begin_from (whether over (past s (kind b)) then n else suc n) (resumed (past s (kind b))) bs)

-- where a cell begins on its line, counted from 1, and where it ends
abbrev pub cell_begin : ℕ → Bytes → ℕ
cell_begin n line = begin_from (n - 1) Fresh line

abbrev pub cell_end : ℕ → Bytes → ℕ
cell_end n line = cell_begin n line + size_from Fresh (drop (cell_begin n line) line)

-- the cell itself; 0 is no cell's number
abbrev pub numbered_cell : ℕ → Bytes → Bytes
numbered_cell n line = whether eqb n 0 then [] else take (cell_end n line - cell_begin n line) (drop (cell_begin n line) line)

-- the cell that a place names ----------------------------------------------------------------------------------------------

-- the columns that a header's cells name; "more than 32 header cells" are not looked at
abbrev pub columns_named : Edition → Table → Bytes → Header
columns_named e t head = whether ltb most_cells (length (header e t (cells_of (cut e head)))) then [] else header e t (cells_of (cut e head))

-- the second cell that names a column, 0 where there is none
abbrev pub second_place : ℕ → Header → ℕ
second_place k h = place_from (place_from 0 k h) k (drop (place_from 0 k h) h)

-- the cell, counted from 1, of a number of refusal and a column; 0 where it is of no cell. 2, a column that is missing, has none; 3, a column
-- that comes twice, is of the second one; 6 names the "cell counted from 1"; any other the column by its number
unfoldable pub cell_named : Edition → Table → Bytes → ℕ → ℕ → ℕ
cell_named e t head number k =
    whether eqb k 0 then 0
    else whether eqb number 2 then 0
    else whether eqb number 3 then second_place k (columns_named e t head)
    else whether eqb number 6 then k
    else place_from 0 k (columns_named e t head)

-- the mark -----------------------------------------------------------------------------------------------------------------

-- a line that begins and ends at these places of its text, and its cell of that number
abbrev pub marked_on : Bytes → ℕ → ℕ → ℕ → Mark
marked_on line start end cell =
    whether eqb cell 0 then Line start end
    else Cell start end (cell_begin cell line) (cell_end cell line)

-- the header or the row that starts on the place's line; nothing where the place names no line, or one on which none starts
unfoldable pub marked_of : Edition → Table → Bytes → Place → Mark
marked_of e t s p =
    let line = row_on e p.line 1 (lines e s) in
    whether starts_on e p.line 1 (lines e s)
    then marked_on line (line_start p.line s) (line_start p.line s + length line) (cell_named e t (head_line (lines e s)) p.number p.column)
    else Nothing

abbrev pub marked_by : Edition → Option Table → Bytes → Place → Mark
marked_by e (Some t) s p = marked_of e t s p
marked_by e None s p = Nothing

-- what is marked of a table's text, by its edition, for a place in it
unfoldable pub marked_in : Edition → Bytes → Place → Mark
marked_in e s p = marked_by e (numbered p.table) s p

-- what the contracts of `marked` and `cell_numbered` permit: one mark, and one cell
abbrev pub MarkPermits : Edition → Bytes → Place → Mark → Type 0
MarkPermits e s p m = m ≡ marked_in e s p

abbrev pub NumberedPermits : ℕ → Bytes → Bytes → Type 0
NumberedPermits n line part = part ≡ numbered_cell n line
