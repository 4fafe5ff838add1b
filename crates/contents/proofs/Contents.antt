-- What a cell holds: its stretch, its content, and their lengths. Assumes nothing.
use mathlib.Core.Path.{◌≡◌}
use mathlib.Core.Bool.{Bool, true, false}
use mathlib.Core.List.{[], ◌∷◌}
use Prim.Native.Nat.{ℕ, ◌+◌, ◌≤◌, ◌<◌, ◌-◌}
use native.Mathlib.Omega.{arith}
use lib.Dec.{eqb}
use lib.ListN.{length, drop, get_or, drop_of_length-le, take, length-take, length-drop}
use Rattle.words.specs.Words.{Bytes, whether◌then◌else◌}
use Rattle.words.proofs.Lists.{drop_step}
use Rattle.cells.specs.Cells.{once, quoted, stretch, content}

-- the length of what a quote counted once leaves, byte by byte
module _ (s : Bytes) (i : ℕ) where
  pub once_step : (doubled : Bool) → i < length s
      → length (once doubled (drop i s)) ≡ (whether doubled then 0 else 1) + length (once (whether doubled then false else eqb (get_or s i 0) 34) (drop (i + 1) s))
  unfolding once
  once_step true h = rw (drop_step 0 s i h) (omega arith)
  once_step false h = rw (drop_step 0 s i h) (omega arith)

  pub once_end : (doubled : Bool) → length s ≤ i → length (once doubled (drop i s)) ≡ 0
  unfolding once
  once_end true h = rw (drop_of_length-le s h)
  once_end false h = rw (drop_of_length-le s h)

pub counts_one : (doubled : Bool) → whether◌then◌else◌ {A = ℕ} doubled 0 1 ≤ 1
counts_one true = omega arith
counts_one false = omega arith

-- a content is no longer than its stretch, and that no longer than its cell
pub once_le : (doubled : Bool) (s : Bytes) → length (once doubled s) ≤ length s
unfolding once
once_le true [] = omega arith
once_le false [] = omega arith
once_le true (b ∷ bs) = omega (arith, once_le false bs)
once_le false (b ∷ bs) = omega (arith, once_le (eqb b 34) bs)

pub stretch_le : (cell : Bytes) → length (stretch cell) ≤ length cell
stretch_le cell = go (quoted cell)
  where
    go : (q : Bool) → length (whether q then take (length cell - 2) (drop 1 cell) else cell) ≤ length cell
    go true = simp (length-take, length-drop) (omega arith)
    go false = omega arith

pub content_le : (cell : Bytes) → length (content cell) ≤ length cell
content_le cell = go (quoted cell)
  where
    go : (q : Bool) → length (whether q then once false (stretch cell) else cell) ≤ length cell
    go true = omega (arith, once_le false (stretch cell), stretch_le cell)
    go false = omega arith
