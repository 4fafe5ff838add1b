-- A check that is put on its place. Assumes nothing.
use mathlib.Core.Path.{◌≡◌, refl}
use Prim.Native.Nat.{ℕ}
use Rattle.refusals.specs.Verdicts.{placed, Check}
use Rattle.std.specs.Prelude.{Ok, Err}

-- the rows of a text --------------------------------------------------------------------------------------------------------------

pub placed_passes : (table n : ℕ) (c : Check) → placed table n c ≡ Ok tt → c ≡ Ok tt
placed_passes table n (Ok _) e = refl
placed_passes table n (Err f) e = cc
