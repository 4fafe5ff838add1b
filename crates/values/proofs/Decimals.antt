-- A decimal in a cell, quoted or not. Assumes nothing.
use mathlib.Core.Path.{◌≡◌, refl, sym, ◌∙◌}
use mathlib.Core.List.{[], ◌∷◌}
use mathlib.Core.Bool.{Bool, true, false, ◌&&◌}
use Prim.Native.Nat.{◌≤◌, ℕ, ◌-◌}
use native.Mathlib.Omega.{arith}
use lib.Dec.{eqb, leb}
use lib.ListN.{length, take, drop}
use borrow.Author.Tests.{eqb-true, ne_eqb}
use Rattle.words.specs.Words.{Bytes}
use Rattle.cells.specs.Cells.{once, quoted, stretch, content}
use Rattle.numbers.specs.Numbers.{all_digits}
use Rattle.numbers.specs.Decimals.{decimal_of}
use Rattle.numbers.proofs.Decimals.{first_digit, no_decimal}

-- a doubled quote is no digit: a content and its stretch are the same number, or neither is one
once_digits : (s : Bytes) → all_digits (once false s) ≡ all_digits s
unfolding all_digits once
once_digits [] = refl
once_digits (b ∷ bs) = go (eqb b 34) refl (once_digits bs)
  where
    go : (t : Bool) → eqb b 34 ≡ t → all_digits (once false bs) ≡ all_digits bs → (leb 48 b && leb b 57 && all_digits (once (eqb b 34) bs)) ≡ (leb 48 b && leb b 57 && all_digits bs)
    go true q ih = rw (eqb-true b 34 q)
    go false q ih = rw (q, ih)

once_same : (s : Bytes) → all_digits s ≡ true → once false s ≡ s
unfolding once
once_same [] h = refl
once_same (b ∷ bs) h =
    let d : (48 ≤ b) × (b ≤ 57) × (all_digits bs ≡ true) = first_digit b bs h in
    rw (ne_eqb b 34 (λ e. omega arith), once_same bs d.2)

decimal_once : (width : ℕ) (s : Bytes) → decimal_of width (once false s) ≡ decimal_of width s
decimal_once width s = go (all_digits s) refl
  where
    go : (t : Bool) → all_digits s ≡ t → decimal_of width (once false s) ≡ decimal_of width s
    go true p = rw (once_same s p)
    go false p = no_decimal width (once false s) (once_digits s ∙ p) ∙ sym (no_decimal width s p)

pub decimal_content : (width : ℕ) (cell : Bytes) → decimal_of width (content cell) ≡ decimal_of width (stretch cell)
decimal_content width cell = go (quoted cell) refl
  where
    go : (q : Bool) → quoted cell ≡ q → decimal_of width (content cell) ≡ decimal_of width (stretch cell)
    go true e = rw e (decimal_once width (take (length cell - 2) (drop 1 cell)))
    go false e = rw e
