-- What the calls count. Assumes nothing.
use mathlib.Core.Path.{◌≡◌, refl}
use mathlib.Core.Bool.{Bool, true, false}
use Prim.Native.Nat.{ℕ, suc, ◌+◌, ◌-◌, ◌<◌, ◌≤◌}
use native.Mathlib.Omega.{arith}
use borrow.Author.Tests.{ltb-true}
use lib.Dec.{ltb}
use Rattle.words.specs.Words.{whether◌then◌else◌}
use Rattle.lines.specs.Lines.{most_bytes}
use Rattle.radio.specs.Radio.{counted, most_counted}
use Rattle.radio.proofs.Counting.{counted_long}

module _ (n m : ℕ) where
  pub past_the_count : most_counted - n < m → counted (n + m) ≡ most_counted
  past_the_count h = counted_long (n + m) (omega arith)

  pub within_the_count : n + m ≤ most_counted → counted (n + m) ≡ n + m
  within_the_count h = go (ltb most_bytes (n + m)) refl
    where
      go : (q : Bool) → ltb most_bytes (n + m) ≡ q → (whether q then suc most_bytes else n + m) ≡ n + m
      go true e = let l : most_bytes < n + m = ltb-true most_bytes (n + m) e in omega arith
      go false e = refl
