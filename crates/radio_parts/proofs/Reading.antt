-- No more is read than was announced. Assumes nothing.
use mathlib.Core.Path.{◌≡◌, sym}
use Prim.Native.Nat.{ℕ, ◌-◌, ◌<◌, ◌≤◌}
use native.Mathlib.Omega.{arith}
use lib.ListN.{length, take, drop}
use lib.Seq.{take_all}
use Rattle.words.specs.Words.{Bytes}

module _ (a n : ℕ) (s : Bytes) where
  pub read_none : a ≤ n → take (0 - 0) (drop 0 s) ≡ take (a - n) s
  read_none h = let e : a - n ≡ 0 = omega arith in rw e

  pub read_all : length s < a - n → s ≡ take (a - n) s
  read_all h = sym (take_all (a - n) s (omega arith))

  pub read_some : take (a - n - 0) (drop 0 s) ≡ take (a - n) s
  read_some = let e : a - n - 0 ≡ a - n = omega arith in rw e
