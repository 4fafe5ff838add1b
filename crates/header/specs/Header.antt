-- The header, and the cell that stands under a column.
use Rattle.std.specs.Prelude.{List, map, [], ◌∷◌, Bool, false, ◌||◌, ◌&&◌, not, ℕ, suc, ◌+◌, eqb, ltb, length}
use Rattle.words.specs.Words.{Bytes, whether◌then◌else◌}
use Rattle.refusals.specs.Verdicts.{◌when◌, quote_fault, ◌⊳◌, cell_count, column_missing, column_twice, too_many_cells, ◌before◌, in_text, in_header, text_too_long, line_too_long, Check, Verdict}
use Rattle.lines.specs.Lines.{lines, head_line, overlong, long_line}
use Rattle.cells.specs.Cells.{content, Cut, faulty_cell, cells_of, cut}
use Rattle.editions.specs.declared.Edition.{Edition}
use Rattle.tables.specs.Columns.{column_number, Column, columns_of, number}
use Rattle.tables.specs.declared.Table.{Table}

-- a header is the column number of each of its cells, from left to right
abbrev pub Header : Type 0
Header = List ℕ

abbrev pub header : Edition → Table → List Bytes → Header
header e t cs = map (λ c. column_number e t (content c)) cs

unfoldable pub member : ℕ → List ℕ → Bool
member k [] = false
member k (x ∷ xs) = eqb k x || member k xs

-- the number of the known column "whose repeat is leftmost", 0 where none comes twice; `seen` are the columns to the left
unfoldable pub repeated : List ℕ → Header → ℕ
repeated seen [] = 0
repeated seen (k ∷ ks) = whether not (eqb k 0) && member k seen then k else repeated (k ∷ seen) ks

-- the lowest required column that the header lacks, 0 where it lacks none
unfoldable pub missing_from : ℕ → List Column → Header → ℕ
missing_from k [] h = 0
missing_from k (x ∷ xs) h = whether x.rules.required && not (member k h) then k else missing_from (suc k) xs h

abbrev pub missing : Edition → Table → Header → ℕ
missing e t h = missing_from 1 (columns_of e t) h

-- 6, of any line: "quote or byte fault", at the "cell counted from 1"
abbrev pub bad_cut : Cut → Check
bad_cut u = quote_fault (faulty_cell u) when ltb 0 (faulty_cell u)

-- 17, then 6, of any line of a table
abbrev pub line_check : Edition → Bytes → Check
line_check e line = line_too_long when long_line line ⊳ bad_cut (cut e line)

-- 17, 6, and 7, "cell count differs from header", of a line behind the header
abbrev pub cut_check : Edition → Header → Bytes → Check
cut_check e h line = line_check e line ⊳ cell_count when not (eqb (length (cells_of (cut e line))) (length h))

-- 4: "more than 32 header cells"
abbrev pub most_cells : ℕ
most_cells = 32

-- "header 6, 4, 3, 2", and 17 "first among header and line checks"
unfoldable pub header_check : Edition → Table → Bytes → Check
header_check e t line =
    let h = header e t (cells_of (cut e line)) in
    line_check e line
    ⊳ too_many_cells when ltb most_cells (length h)
    ⊳ column_twice (repeated [] h) when ltb 0 (repeated [] h)
    ⊳ column_missing (missing e t h) when ltb 0 (missing e t h)

-- the cell of column k; "Optional columns may be missing and then every cell of theirs is empty."
unfoldable pub under : ℕ → Header → List Bytes → Bytes
under k [] cs = []
under k (x ∷ xs) [] = []
under k (x ∷ xs) (c ∷ cs) = whether eqb k x then c else under k xs cs

-- where the cell of column k begins on its line
unfoldable pub offset : ℕ → Header → List Bytes → ℕ
offset k [] cs = 0
offset k (x ∷ xs) [] = 0
offset k (x ∷ xs) (c ∷ cs) = whether eqb k x then 0 else length c + 1 + offset k xs cs

-- the content of each column's cell, by column number
unfoldable pub contents_from : ℕ → List Column → Header → List Bytes → List Bytes
contents_from k [] h cs = []
contents_from k (x ∷ xs) h cs = content (under k h cs) ∷ contents_from (suc k) xs h cs

abbrev pub contents : Edition → Table → Header → List Bytes → List Bytes
contents e t h cs = contents_from 1 (columns_of e t) h cs

-- the header of a text
abbrev pub header_of : Edition → Table → Bytes → Header
header_of e t s = header e t (cells_of (cut e (head_line (lines e s))))

-- "in each 1; header", 17, "6, 4, 3, 2": what is judged before the rows
abbrev pub top_faults : Edition → Table → Bytes → Verdict
top_faults e t s =
    in_text (number t) (text_too_long when overlong s)
    before in_header (number t) (header_check e t (head_line (lines e s)))

-- the cell of column k, counted from 1, behind i cells; 0 where there is none
unfoldable pub place_from : ℕ → ℕ → Header → ℕ
place_from i k [] = 0
place_from i k (x ∷ xs) = whether eqb k x then suc i else place_from (suc i) k xs
