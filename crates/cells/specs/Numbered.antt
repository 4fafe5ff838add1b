-- The cell of a number on a line, as the code finds it.
-- Inner: no promise and no contract of a public function speaks of it.
use Rattle.std.specs.Prelude.{List, [], ◌≡◌, ℕ, ◌-◌, ◌<◌, eqb, ltb, get_or, length}
use Rattle.words.specs.Words.{Bytes, whether◌then◌else◌}
use Rattle.editions.specs.declared.Edition.{Edition}
use Rattle.cells.specs.Cells.{cells, cut, cells_of}
use Rattle.cells.specs.Marks.{BoundsOf}

-- the cell of a number, counted from 1; 0 is no cell's number
abbrev pub cell_numbered : ℕ → List Bytes → Bytes
cell_numbered n cs = whether eqb n 0 then [] else get_or cs (n - 1) []

-- where the cell of a number begins, by the bounds of so many cells; 0 where there is none
abbrev pub begin_at : List ℕ → ℕ → ℕ → ℕ
begin_at bounds count n = whether eqb n 0 then 0 else whether ltb count n then 0 else get_or bounds (n - 1) 0

-- a line has so many cells, and there is room for their bounds, which are kept
pub record MarksOf (e : Edition) (line : Bytes) (bounds : List ℕ) (count : ℕ) : Type 0 where
  pub parted : cut e line ≡ cells (cells_of (cut e line))
  pub counted : length (cells_of (cut e line)) ≡ count
  pub room : count < length bounds
  pub kept : BoundsOf (cells_of (cut e line)) (length bounds) bounds
