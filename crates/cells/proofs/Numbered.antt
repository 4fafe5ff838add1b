-- The cell of a number on a line: where its bounds are, and that there is none behind the last. Assumes nothing.
use mathlib.Core.Path.{◌≡◌}
use mathlib.Core.List.{List, []}
use Prim.Native.Nat.{ℕ, ◌-◌, ◌≤◌, ◌<◌, suc}
use native.Mathlib.Omega.{arith}
use lib.ListN.{length, get_or-eq_default, get_or}
use borrow.Author.Tests.{ne_eqb}
use Rattle.words.specs.Words.{Bytes}
use Rattle.editions.specs.declared.Edition.{Edition}
use Rattle.cells.specs.Numbered.{cell_numbered, MarksOf}
use Rattle.cells.specs.Cells.{cells, cut, cells_of}
use Rattle.cells.specs.Marks.{BoundsOf, answer_of}
use Rattle.std.specs.Prelude.{Result, Ok}
use Rattle.cells.proofs.Marking.{Stands, cell_stands, good_cells, good_count}

-- marks ----------------------------------------------------------------------------------------------------------------------

-- a number behind the last cell is no cell's
pub behind_last : (n : ℕ) (cs : List Bytes) → 1 ≤ n → length cs < n → cell_numbered n cs ≡ []
behind_last n cs h l = rw (ne_eqb n 0 (λ e. omega arith), get_or-eq_default cs [] {n = n - 1} (omega arith))

module _ (ed : Edition) (line : Bytes) (bounds : List ℕ) (count : ℕ) where
  -- a cell stands between its bounds
  pub cell_bounded : (n : ℕ) → MarksOf ed line bounds count → 1 ≤ n → n ≤ count → Stands line (get_or bounds (n - 1) 0) (get_or bounds n 0) (cell_numbered n (cells_of (cut ed line)))
  cell_bounded n m h l =
      let e : suc (n - 1) ≡ n = omega arith in
      rw (ne_eqb n 0 (λ z. omega arith)) (rw e at (cell_stands ed line (cells_of (cut ed line)) (length bounds) bounds (n - 1) m.parted m.kept (omega (arith, m.counted, m.room)) (omega (arith, m.counted))))

  -- the bounds of a line whose cells are counted
  pub marks_of : (r : Result ℕ ℕ) → r ≡ answer_of (cut ed line) → ((cs : List Bytes) → cut ed line ≡ cells cs → BoundsOf cs (length bounds) bounds) → r ≡ Ok count → count < length bounds → MarksOf ed line bounds count
  marks_of r e b g l =
      let p : cut ed line ≡ cells (cells_of (cut ed line)) = good_cells (cut ed line) r count e g in
      record { parted = p; counted = good_count (cut ed line) r count e g; room = l; kept = b (cells_of (cut ed line)) p }
