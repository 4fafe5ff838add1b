-- The three slices, each as it is left. Assumes nothing.
use mathlib.Core.Path.{◌≡◌, ap, ◌∙◌}
use mathlib.Core.List.{List, [], ◌∷◌, ◌++◌}
use Prim.Native.Nat.{ℕ, zero, suc, ◌+◌}
use native.Mathlib.Omega.{arith}
use lib.ListN.{replicate}
use Rattle.words.specs.Words.{Bytes, Row}
use Rattle.lines.specs.Lines.{most_line}
use Rattle.radio.specs.Radio.{kept_line}
use Rattle.radio.specs.Room.{two_lines, radio_bytes}
use Rattle.radio_rule.specs.Lent.{slices}

-- what is laid out from its three slices
pub slices_are : (b c : List Row) (k m : List ℕ) (l n : Bytes) → b ≡ c → k ≡ m → l ≡ n → slices b k l ≡ slices c m n
slices_are b c k m l n p q r = ap (λ (x : List Row). slices x k l) p ∙ ap (λ (x : List ℕ). slices c x l) q ∙ ap (slices c m) r

-- no line at all: zeros
zeros_together : (n m : ℕ) → replicate {A = ℕ} (n + m) 0 ≡ replicate n 0 ++ replicate m 0
zeros_together zero m = let e : 0 + m ≡ m = omega arith in rw e
zeros_together (suc n) m = let e : suc n + m ≡ suc (n + m) = omega arith in rw e (ap (λ (l : Bytes). 0 ∷ l) (zeros_together n m))

pub no_lines : (n : ℕ) → n ≡ radio_bytes → replicate n 0 ≡ two_lines [] []
no_lines n e = ap (λ (k : ℕ). replicate k 0) e ∙ zeros_together most_line kept_line
