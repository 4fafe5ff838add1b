-- Digits by powers of ten that are taken away: the list of powers, a digit, and the digits behind it. Assumes nothing.
use mathlib.Core.Path.{◌≡◌, refl, ap, sym, ◌∙◌}
use mathlib.Core.Bool.{Bool, true, false}
use mathlib.Core.List.{[], ◌∷◌, ◌++◌}
use Prim.Native.Nat.{ℕ, zero, suc, ◌+◌, ◌-◌, ◌*◌, ◌/◌, ◌%◌, ◌^◌, ◌≤◌, ◌<◌}
use native.Mathlib.Nat.{pow-suc, mul_assoc}
use native.Mathlib.Numerals.{add-one}
use native.Mathlib.Omega.{arith}
use lib.ListN.{length, get_or, drop, take, set, length-set}
use lib.Seq.{take_all}
use lib.Dec.{leb}
use borrow.Author.Tests.{leb-true, leb-false}
use Rattle.words.specs.Words.{Bytes}
use Rattle.words.proofs.Lists.{drop_step}
use Rattle.numbers.specs.Numbers.{decimal}
use Rattle.numbers.specs.Powers.{powers_from, powers_of_ten}
use Rattle.numbers.specs.Putting.{put}
use Rattle.numbers.proofs.Writing.{by_digits_lem, decimal_one, decimal_more, decimal_one_length, decimal_more_length, decimal_width}
use Rattle.numbers.proofs.Putting.{put_next}

-- the powers by their places
power_from : (n p k : ℕ) → k < n → get_or (powers_from n p) k 0 ≡ p * 10 ^ k
unfolding powers_from
power_from zero p k h = absurd (omega arith)
power_from (suc n) p zero h = omega arith
power_from (suc n) p (suc k) h = power_from n (p * 10) k (omega arith) ∙ mul_assoc p 10 (10 ^ k) ∙ ap (λ (x : ℕ). p * x) (omega (arith, pow-suc 10 k))

pub power_at : (k : ℕ) → k < 19 → get_or powers_of_ten k 0 ≡ 10 ^ k
unfolding powers_of_ten
power_at k h = power_from 19 1 k h ∙ omega arith

pub power_next_left : (w i : ℕ) → i < w → 10 ^ (w - i) ≡ 10 * 10 ^ (w - 1 - i)
power_next_left w i h = let e : w - i ≡ suc (w - 1 - i) = omega arith in rw e (omega (arith, pow-suc 10 (w - 1 - i)))

-- the last digits of a number, so many that zeros may lead
unfoldable pub padded : ℕ → ℕ → Bytes
padded zero n = []
padded (suc w) n = padded w (n / 10) ++ ((48 + n % 10) ∷ [])

-- the first of them stands at its power of ten
padded_first : (w d r : ℕ) → d < 10 → r < 10 ^ w → padded (suc w) (d * 10 ^ w + r) ≡ (48 + d) ∷ padded w r
unfolding padded
padded_first zero d r hd hr =
    let e : (d * 10 ^ 0 + r) % 10 ≡ d = omega arith in
    rw e
padded_first (suc w) d r hd hr =
    let ten : d * 10 ^ suc w ≡ d * 10 ^ w * 10 = ap (λ (x : ℕ). d * x) (pow-suc 10 w) ∙ sym (mul_assoc d (10 ^ w) 10) in
    let rest : (d * 10 ^ suc w + r) / 10 ≡ d * 10 ^ w + r / 10 = omega arith in
    let last : (d * 10 ^ suc w + r) % 10 ≡ r % 10 = omega arith in
    rw (rest, last, padded_first w d (r / 10) hd (omega (arith, pow-suc 10 w)))

-- a number's own digits
decimal_padded : (n : ℕ) → decimal n ≡ padded (length (decimal n)) n
unfolding padded
decimal_padded =
    by_digits_lem (λ n. decimal n ≡ padded (length (decimal n)) n)
    (λ n h. let e : n % 10 ≡ n = omega arith in rw (decimal_one n h, e))
    (λ n h e. rw (decimal_more_length n h, add-one, decimal_more n h) (ap (λ (l : Bytes). l ++ ((48 + n % 10) ∷ [])) e))

decimal_below : (n : ℕ) → n < 10 ^ length (decimal n)
decimal_below =
    by_digits_lem (λ n. n < 10 ^ length (decimal n))
    (λ n h. rw (decimal_one_length n h) (omega arith))
    (λ n h e. rw (decimal_more_length n h, add-one, pow-suc) (omega arith))

-- the digit at a place, where what is left has the digits from there on; and what is left then
next_digit : (s : Bytes) (w i v p d r : ℕ) → w ≡ length s → i < w → padded (w - i) v ≡ drop i s → p ≡ 10 ^ (w - 1 - i) → d * p + r ≡ v → r < p → d < 10 → (48 + d ≡ get_or s i 0) × (r < 10 ^ (w - (i + 1))) × (padded (w - (i + 1)) r ≡ drop (i + 1) s)
next_digit s w i v p d r ew h e ep ev hr hd =
    let k = w - (i + 1) in
    let here : w - i ≡ suc k = omega arith in
    let behind : w - 1 - i ≡ k = omega arith in
    let power : p ≡ 10 ^ k = ep ∙ ap (λ (x : ℕ). 10 ^ x) behind in
    let below : r < 10 ^ k = omega arith in
    let whole : d * 10 ^ k + r ≡ v = ap (λ (x : ℕ). d * x + r) (sym power) ∙ ev in
    let first : (48 + d) ∷ padded k r ≡ get_or s i 0 ∷ drop (i + 1) s =
    sym (padded_first k d r hd below) ∙ ap (padded (suc k)) whole ∙ ap (λ (x : ℕ). padded x v) (sym here) ∙ e ∙ drop_step 0 s i (omega arith)
    in
    (cc, below, cc)

-- digits s, of which the first i are put at the head of an output, and what is left has the others
abbrev pub Written : Bytes → ℕ → Bytes → Bytes → ℕ → ℕ → Type 0
Written s w o out left i = (length out ≡ length o) × (out ≡ put (take i s) o) × (left < 10 ^ (w - i)) × (padded (w - i) left ≡ drop i s)

pub none_written : (n w : ℕ) (o : Bytes) → w ≡ length (decimal n) → Written (decimal n) w o o n 0
none_written n w o e =
    let f : w - 0 ≡ length (decimal n) = omega arith in
    (refl, refl, rw f (decimal_below n), rw f (sym (decimal_padded n)))

pub digit_written : (s : Bytes) (w : ℕ) (o out : Bytes) (v i p d r : ℕ) → w ≡ length s → w ≤ length o → i < w → Written s w o out v i → p ≡ 10 ^ (w - 1 - i) → d * p + r ≡ v → r < p → d < 10 → Written s w o (set out i (48 + d)) r (i + 1)
digit_written s w o out v i p d r ew room h t ep ev hr hd =
    let next = next_digit s w i v p d r ew h t.3 ep ev hr hd in (
      simp length-set t.0,
      rw next.0 (put_next s o out i (omega arith) (omega arith) t.1),
      next.1,
      next.2,
    )

-- the last digit is what is left
pub last_written : (s : Bytes) (w : ℕ) (o out : Bytes) (v i : ℕ) → w ≡ length s → w ≤ length o → w ≡ i + 1 → Written s w o out v i → set out i (48 + v) ≡ put s o
last_written s w o out v i ew room h t =
    let none : w - 1 - i ≡ 0 = omega arith in
    let one : w - i ≡ 1 = omega arith in
    let all = digit_written s w o out v i 1 v 0 ew room (omega arith) t (rw none) (omega arith) (omega arith) (rw one at t.2) in
    rw (take_all (i + 1) s (omega arith)) at all.1

-- of twenty digits the first is 1
pub twenty_reach : (n w : ℕ) → w ≡ length (decimal n) → w - 1 ≡ 19 → 10 ^ 19 ≤ n
twenty_reach n w e h = go (leb (10 ^ 19) n) refl
  where
    go : (b : Bool) → leb (10 ^ 19) n ≡ b → 10 ^ 19 ≤ n
    go true p = leb-true (10 ^ 19) n p
    go false p = let below : n < 10 ^ 19 = leb-false (10 ^ 19) n p in absurd (omega (arith, decimal_width 18 n below))

pub first_of_twenty : (n w : ℕ) (o : Bytes) → w ≡ length (decimal n) → w ≤ length o → w - 1 ≡ 19 → n < 2 ^ 64 → Written (decimal n) w o (set o 0 49) (n - 10 ^ 19) 1
first_of_twenty n w o e room h fits =
    let reach : 10 ^ 19 ≤ n = twenty_reach n w e h in
    let behind : w - 1 - 0 ≡ 19 = omega arith in
    digit_written (decimal n) w o o n 0 (10 ^ 19) 1 (n - 10 ^ 19) e room (omega arith) (none_written n w o e) (rw behind) (omega arith) (omega arith) (omega arith)
