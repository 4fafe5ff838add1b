-- A number that is written: its digits, its width, and that it is read back. Assumes nothing.
use mathlib.Core.Path.{◌≡◌, refl, ap}
use mathlib.Core.Bool.{Bool, true, false}
use mathlib.Core.List.{List, [], ◌∷◌, ◌++◌}
use Prim.Native.Nat.{ℕ, zero, suc, ◌+◌, ◌/◌, ◌%◌, ◌≤◌, ◌<◌, ◌^◌, ◌-◌, ◌*◌}
use native.Mathlib.Omega.{arith}
use native.Mathlib.Nat.{pow-suc}
use lib.Dec.{ltb}
use lib.ListN.{length, length-append}
use borrow.Author.Tests.{ltb-false, lt-ltb, le-ltb, ltb-true, le-leb}
use Rattle.words.specs.Words.{Bytes}
use Rattle.numbers.specs.Numbers.{digits, decimal, value_from, value, all_digits, is_decimal}

-- the digits of a number ---------------------------------------------------------------------------------------------------

same_digits : (j k n : ℕ) (b : Bool) → ltb n 10 ≡ b → n ≤ j → n ≤ k → digits j b n ≡ digits k b n
unfolding digits
same_digits zero zero n b e p q = refl
same_digits zero (suc k) n true e p q = refl
same_digits zero (suc k) n false e p q = absurd (omega (arith, ltb-false n 10 e))
same_digits (suc j) zero n true e p q = refl
same_digits (suc j) zero n false e p q = absurd (omega (arith, ltb-false n 10 e))
same_digits (suc j) (suc k) n true e p q = refl
same_digits (suc j) (suc k) n false e p q =
    let h = ltb-false n 10 e in
    ap (λ (l : List ℕ). l ++ ((48 + n % 10) ∷ [])) (same_digits j k (n / 10) (ltb (n / 10) 10) refl (omega arith) (omega arith))

pub decimal_one : (n : ℕ) → n < 10 → decimal n ≡ (48 + n) ∷ []
unfolding digits
decimal_one zero h = refl
decimal_one (suc k) h = rw (lt-ltb (suc k) 10 h)

pub decimal_more : (n : ℕ) → 10 ≤ n → decimal n ≡ decimal (n / 10) ++ ((48 + n % 10) ∷ [])
unfolding digits
decimal_more zero h = absurd (omega arith)
decimal_more (suc k) h =
    rw (le-ltb (suc k) 10 h)
    (ap (λ (l : List ℕ). l ++ ((48 + suc k % 10) ∷ []))
    (same_digits k (suc k / 10) (suc k / 10) (ltb (suc k / 10) 10) refl (omega arith) (omega arith)))

-- by the number of digits: what holds of one digit, and of one digit more, holds of every number
module _ (P : ℕ → Type 0) (one : (n : ℕ) → n < 10 → P n) (more : (n : ℕ) → 10 ≤ n → P (n / 10) → P n) where
  by_digits_at : (k n : ℕ) (b : Bool) → ltb n 10 ≡ b → n ≤ k → P n
  by_digits_at zero n true e p = one n (ltb-true n 10 e)
  by_digits_at zero n false e p = absurd (omega (arith, ltb-false n 10 e))
  by_digits_at (suc k) n true e p = one n (ltb-true n 10 e)
  by_digits_at (suc k) n false e p =
      let h = ltb-false n 10 e in
      more n h (by_digits_at k (n / 10) (ltb (n / 10) 10) refl (omega arith))

  pub by_digits_lem : (n : ℕ) → P n
  by_digits_lem n = by_digits_at n n (ltb n 10) refl (omega arith)

-- how many there are -------------------------------------------------------------------------------------------------------

pub decimal_one_length : (n : ℕ) → n < 10 → length (decimal n) ≡ 1
decimal_one_length n h = rw (decimal_one n h)

pub decimal_more_length : (n : ℕ) → 10 ≤ n → length (decimal n) ≡ length (decimal (n / 10)) + 1
decimal_more_length n h = rw (decimal_more n h, length-append)

pub decimal_some : (n : ℕ) → 1 ≤ length (decimal n)
decimal_some =
    by_digits_lem (λ n. 1 ≤ length (decimal n))
    (λ n h. omega (arith, decimal_one_length n h))
    (λ n h e. omega (arith, decimal_more_length n h))

-- one law for every width
pub decimal_width : (w n : ℕ) → n < 10 ^ suc w → length (decimal n) ≤ suc w
decimal_width w n h = go w n (ltb n 10) refl h
  where
    go : (w n : ℕ) (b : Bool) → ltb n 10 ≡ b → n < 10 ^ suc w → length (decimal n) ≤ suc w
    go zero n true e h = omega (arith, decimal_one_length n (ltb-true n 10 e))
    go zero n false e h = absurd (omega (arith, ltb-false n 10 e))
    go (suc w) n true e h = omega (arith, decimal_one_length n (ltb-true n 10 e))
    go (suc w) n false e h =
        let t = ltb-false n 10 e in
        let m : n / 10 < 10 ^ suc w = omega (arith, pow-suc 10 (suc w)) in
        omega (arith, decimal_more_length n t, go w (n / 10) (ltb (n / 10) 10) refl m)

-- a number of 64 bits has at most 20 digits
pub decimal_short : (n : ℕ) → n < 2 ^ 64 → length (decimal n) ≤ 20
decimal_short n h = decimal_width 19 n (omega (arith, h))

-- what they are read as ----------------------------------------------------------------------------------------------------

value_snoc : (a : ℕ) (ds : Bytes) (d : ℕ) → value_from a (ds ++ (d ∷ [])) ≡ value_from a ds * 10 + (d - 48)
unfolding value_from
value_snoc a [] d = refl
value_snoc a (x ∷ ds) d = value_snoc (a * 10 + (x - 48)) ds d

pub read_back : (n : ℕ) → value (decimal n) ≡ n
unfolding value_from
read_back =
    by_digits_lem (λ n. value (decimal n) ≡ n)
    (λ n h. rw (decimal_one n h) (omega arith))
    (λ n h e. rw (decimal_more n h, value_snoc) (omega arith))

unfoldable pub EachDigit : Bytes → Type 0
EachDigit [] = Unit {0}
EachDigit (b ∷ bs) = (48 ≤ b) × (b ≤ 57) × EachDigit bs

digits_snoc : (s : Bytes) (d : ℕ) → EachDigit s → 48 ≤ d → d ≤ 57 → EachDigit (s ++ (d ∷ []))
unfolding EachDigit
digits_snoc [] d h p q = (p, q, tt)
digits_snoc (b ∷ bs) d h p q = (h.0, h.1, digits_snoc bs d h.2 p q)

pub decimal_digits : (n : ℕ) → EachDigit (decimal n)
unfolding EachDigit
decimal_digits =
    by_digits_lem (λ n. EachDigit (decimal n))
    (λ n h. rw (decimal_one n h) (omega arith, omega arith, tt))
    (λ n h e. rw (decimal_more n h) (digits_snoc (decimal (n / 10)) (48 + n % 10) e (omega arith) (omega arith)))

pub digits_all : (s : Bytes) → EachDigit s → all_digits s ≡ true
unfolding all_digits EachDigit
digits_all [] h = refl
digits_all (b ∷ bs) h = rw (le-leb 48 b h.0, le-leb b 57 h.1, digits_all bs h.2)

-- a number below the next power is a decimal of that width
pub decimal_is : (w n : ℕ) → n < 10 ^ suc w → is_decimal (suc w) (decimal n) ≡ true
decimal_is w n h =
    let some : 1 ≤ length (decimal n) = decimal_some n in
    let short : length (decimal n) ≤ suc w = decimal_width w n h in
    rw (le-leb 1 (length (decimal n)) some, le-leb (length (decimal n)) (suc w) short, digits_all (decimal n) (decimal_digits n))
