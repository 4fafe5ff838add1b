-- A chain of checks passes if each does. Assumes nothing.
use mathlib.Core.Path.{◌≡◌, refl}
use Prim.Native.Nat.{ℕ}
use native.Mathlib.Omega.{arith}
use Rattle.refusals.specs.Verdicts.{◌⊳◌, Check}
use Rattle.std.specs.Prelude.{Ok, Err}

pub both : (c e : Check) → c ⊳ e ≡ Ok tt → (c ≡ Ok tt) × (e ≡ Ok tt)
both (Ok _) e h = (refl, h)
both (Err f) e h = let z : ◌≡◌ {A = ℕ} 0 1 = cc in let y : ⊥ = omega arith in absurd y
