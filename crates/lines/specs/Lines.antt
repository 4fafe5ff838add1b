-- The lines of a text.
use Rattle.std.specs.Prelude.{List, [], ◌∷◌, Bool, false, not, ◌&&◌, ◌||◌, ℕ, zero, suc, ◌+◌, eqb, ltb, length}
use Rattle.words.specs.Words.{Bytes, whether◌then◌else◌}
use Rattle.editions.specs.declared.Edition.{Edition}
use Rattle.editions.specs.declared.Edition.TheVariants.{Dino21, Dino23}
use Rattle.cells.specs.Cells.{kind, next, inside, breakable}
use Rattle.cells.specs.declared.State.{State}
use Rattle.cells.specs.declared.State.TheVariants.{Fresh, Plain, Inside, Closed, Over, Fault}

-- a byte at the head of the first line
abbrev pub onto : ℕ → List Bytes → List Bytes
onto b [] = (b ∷ []) ∷ []
onto b (l ∷ ls) = (b ∷ l) ∷ ls

-- where a row ends --------------------------------------------------------------------------------------------------------------

-- the quotes of a row go on behind a cell that is over, and behind a fault, which opens none and closes none
abbrev pub resumed : State → State → State
resumed s Fresh = Fresh
resumed s Plain = Plain
resumed s Inside = Inside
resumed s Closed = Closed
resumed s Over = Fresh
resumed s Fault = whether inside s then Inside else Plain

-- how the quotes of a row stand behind one more byte
abbrev pub quoting : State → ℕ → State
quoting s b = resumed s (next s (kind b))

-- how the quotes of a row stand behind some bytes of it
unfoldable pub quoting_behind : State → Bytes → State
quoting_behind s [] = s
quoting_behind s (b ∷ bs) = quoting_behind (quoting s b) bs

-- what goes on from a state, which is found first
abbrev pub from {ℓ} : {A : Type ℓ} → State → (State → A) → A
from Fresh on = on Fresh
from Plain on = on Plain
from Inside on = on Inside
from Closed on = on Closed
from Over on = on Over
from Fault on = on Fault

-- whether a byte ends a row whose quotes stand so. 2.1: "A line feed ends a line"; 2.3: "A row ends at the first line feed outside a cell's
-- quotes"
abbrev pub ends_row : Edition → State → ℕ → Bool
ends_row e s b = eqb b 10 && not (breakable e s)

-- whether such a byte comes next
abbrev pub end_next : Edition → State → Bytes → Bool
end_next e s [] = false
end_next e s (b ∷ bs) = ends_row e s b

-- a table's lines, of which each is the header or a row: by 2.1 a line, by 2.3 with the breaks that stand in it. "one carriage return just before"
-- the line feed "is dropped. A last line may lack its line feed; after a final line feed no further line begins."; an unclosed quote "runs to the
-- text's end"
unfoldable pub lines_from : Edition → State → Bytes → List Bytes
lines_from e s [] = []
lines_from e s (b ∷ bs) =
    whether ends_row e s b then [] ∷ lines_from e Fresh bs
    else whether eqb b 13 && end_next e s bs then lines_from e s bs
    else from (quoting s b) (λ t. onto b (lines_from e t bs))

abbrev pub lines : Edition → Bytes → List Bytes
lines e s = lines_from e Fresh s

-- a slip's lines: "each ended by a line feed (the last may lack it)"; a carriage return is a byte as any other
unfoldable pub slip_lines : Bytes → List Bytes
slip_lines [] = []
slip_lines (b ∷ bs) = whether eqb b 10 then [] ∷ slip_lines bs else onto b (slip_lines bs)

-- "Line 1 is the header." "A text of length 0 counts as one header line with one empty cell."
abbrev pub head_line : List Bytes → Bytes
head_line [] = []
head_line (l ∷ ls) = l

-- the lines behind the header's
abbrev pub row_lines : List Bytes → List Bytes
row_lines [] = []
row_lines (l ∷ ls) = ls

-- the numbers of lines ------------------------------------------------------------------------------------------------------------

-- how many line feeds stand in a row
unfoldable pub feeds : Bytes → ℕ
feeds [] = 0
feeds (b ∷ bs) = whether eqb b 10 then suc (feeds bs) else feeds bs

-- how many breaks: by 2.1 none does
abbrev pub breaks : Edition → Bytes → ℕ
breaks Dino21 row = 0
breaks Dino23 row = feeds row

-- "its line is the one it starts on": the line on which the next row starts, behind one that starts on line i. Lines are counted by all line feeds
unfoldable pub line_after : Edition → ℕ → Bytes → ℕ
line_after e i row = suc (i + breaks e row)

-- whether one of these rows starts on that line, and the row; the first starts on line i
unfoldable pub starts_on : Edition → ℕ → ℕ → List Bytes → Bool
starts_on e line i [] = false
starts_on e line i (l ∷ ls) = eqb i line || starts_on e line (line_after e i l) ls

unfoldable pub row_on : Edition → ℕ → ℕ → List Bytes → Bytes
row_on e line i [] = []
row_on e line i (l ∷ ls) = whether eqb i line then l else row_on e line (line_after e i l) ls

-- where line i of a text begins, counted from 1: behind the line feed that ends the one before
unfoldable pub line_start : ℕ → Bytes → ℕ
line_start zero s = 0
line_start (suc zero) s = 0
line_start (suc (suc i)) [] = 0
line_start (suc (suc i)) (b ∷ bs) = suc (whether eqb b 10 then line_start (suc i) bs else line_start (suc (suc i)) bs)

-- sizes ---------------------------------------------------------------------------------------------------------------------------

-- 1: "text over 65,536 bytes"
abbrev pub most_bytes : ℕ
most_bytes = 65536

abbrev pub overlong : Bytes → Bool
overlong s = ltb most_bytes (length s)

-- 17: "a line of more than 2,048 bytes". "A line's length leaves its line end out."; in 2.3 "17 counts the row"
abbrev pub most_line : ℕ
most_line = 2048

abbrev pub long_line : Bytes → Bool
long_line line = ltb most_line (length line)
