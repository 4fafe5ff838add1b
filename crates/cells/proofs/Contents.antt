-- A quoted cell has a byte. Assumes nothing.
use mathlib.Core.Path.{◌≡◌}
use mathlib.Core.Bool.{true}
use mathlib.Core.List.{[], ◌∷◌}
use Prim.Native.Nat.{ℕ, ◌<◌}
use native.Mathlib.Omega.{arith}
use lib.ListN.{length}
use Rattle.words.specs.Words.{Bytes}
use Rattle.cells.specs.Cells.{quoted}

pub quoted_some : (cell : Bytes) → quoted cell ≡ true → 0 < length cell
quoted_some [] h = let z : ◌≡◌ {A = ℕ} 0 1 = cc in absurd (omega arith)
quoted_some (b ∷ bs) h = omega arith
