-- What the code finds on its way to the answer for a cell.
-- Inner: no promise and no contract of a public function speaks of it.
use Rattle.std.specs.Prelude.{◌≡◌, not, List, ◌∷◌, ℕ, ◌-◌, ◌+◌, ◌<◌, drop, length, Ok}
use Rattle.words.specs.Words.{Bytes}
use Rattle.refusals.specs.Verdicts.{placed, ◌⊳◌, ◌when◌, ◌before◌, nowhere, not_there, Check, Verdict}
use Rattle.lines.specs.Lines.{lines, starts_on, row_on, line_start}
use Rattle.cells.specs.Cells.{content, cut, cells_of}
use Rattle.editions.specs.declared.Edition.{Edition}
use Rattle.editions.specs.declared.Edition.TheVariants.{Dino21, Dino23}
use Rattle.tables.specs.Columns.{column_at, number}
use Rattle.tables.specs.declared.Table.{Table}
use Rattle.values.specs.Values.{cell_check}
use Rattle.header.specs.Header.{Header, line_check, cut_check, under, offset}
use Rattle.cell_question.specs.CellQuestion.{answered, cell_said, meant, is_equip, first_above}
use Rattle.cell_question.specs.declared.CellAnswer.{CellAnswer}
use Rattle.cell_question.specs.declared.Way.{Way}

-- 19, 20, 8 or 21, and what is said of a cell of column k that begins at this place of its text
unfoldable pub cell_judged : Edition → Table → ℕ → ℕ → ℕ → Bytes → CellAnswer
cell_judged e t line k at cell =
    answered (placed (number t) line (cell_check k (column_at e t (k - 1)).rules (content cell))) (meant e (is_equip t k) (cell_said (column_at e t (k - 1)).rules.sort at cell))

-- 17, 6, 7 and what is wrong with the cell, and what is said of the cell of column k, on a row that begins at this place of its text
unfoldable pub row_answer : Edition → Table → Header → ℕ → ℕ → ℕ → Bytes → CellAnswer
row_answer e t h line k at row =
    let cell = under k h (cells_of (cut e row)) in
    answered (placed (number t) line (cut_check e h row ⊳ cell_check k (column_at e t (k - 1)).rules (content cell))) (meant e (is_equip t k) (cell_said (column_at e t (k - 1)).rules.sort (at + offset k h (cells_of (cut e row))) cell))

-- the way to the row ----------------------------------------------------------------------------------------------------------------

-- what matters of a row above: nothing by 2.1
abbrev pub fault_above : Edition → Bytes → Check
fault_above Dino21 row = Ok tt
fault_above Dino23 row = line_check Dino23 row

-- the first fault in these rows, of which the first starts on line i
abbrev pub above_from : Edition → ℕ → ℕ → ℕ → List Bytes → Verdict
above_from Dino21 table line i ls = Ok tt
above_from Dino23 table line i ls = first_above Dino23 table line i ls

-- the row that starts on a line, of the rows that begin at a place and of which the first starts on line i: a 6 or 17 above it, 15 where there is
-- none, or where it begins
pub record WayOf (e : Edition) (table line i : ℕ) (s : Bytes) (at : ℕ) (w : Way) : Type 0 where
  pub is : w.verdict ≡ (above_from e table line i (lines e (drop at s)) before nowhere (not_there when not (starts_on e line i (lines e (drop at s)))))
  pub inside : w.verdict ≡ Ok tt → w.begin < length s
  pub start : w.verdict ≡ Ok tt → w.begin ≡ line_start line s
  pub row : w.verdict ≡ Ok tt → (ls : List Bytes) × (lines e (drop w.begin s) ≡ row_on e line i (lines e (drop at s)) ∷ ls)
