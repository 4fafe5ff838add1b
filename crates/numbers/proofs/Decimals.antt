-- Decimals as they are read, digit by digit, for every width. Assumes nothing.
use mathlib.Core.Path.{◌≡◌, refl}
use mathlib.Core.Bool.{and-false, Bool, true, false, ◌&&◌}
use mathlib.Core.List.{◌∷◌}
use Prim.Native.Nat.{ℕ, ◌≤◌, ◌<◌, ◌+◌, ◌-◌, ◌*◌, ◌^◌}
use native.Mathlib.Omega.{arith}
use native.Mathlib.Numerals.{add-one}
use native.Mathlib.Nat.{pow-suc, pow-le-pow_right}
use lib.ListN.{length, drop, get_or, drop_of_length-le}
use lib.Dec.{lit<, leb}
use borrow.Author.Tests.{le-leb, lt-leb, leb-true}
use Rattle.std.specs.Prelude.{Option, Some, None}
use Rattle.std.specs.Char.{is_ascii_digit}
use Rattle.words.specs.Words.{Bytes, whether◌then◌else◌}
use Rattle.words.proofs.Lists.{drop_step}
use Rattle.numbers.specs.Numbers.{all_digits, value_from, is_decimal, value}
use Rattle.numbers.specs.Decimals.{decimal_of}

-- what is read of a number n with the rest of its digits behind it
abbrev pub read_from : ℕ → Bytes → Option ℕ
read_from n s = whether all_digits s then Some (value_from n s) else None

-- by the length alone
module _ (width : ℕ) (s : Bytes) where
  pub decimal_empty : length s ≡ 0 → decimal_of width s ≡ None
  unfolding decimal_of
  decimal_empty h = simp (lt-leb 1 (length s) (omega arith))

  pub decimal_long : width < length s → decimal_of width s ≡ None
  unfolding decimal_of
  decimal_long h = simp (lt-leb (length s) width h, and-false)

  pub decimal_read : (length s ≡ 0 → ⊥) → length s ≤ width → read_from 0 s ≡ decimal_of width s
  unfolding decimal_of
  decimal_read n h = simp (le-leb 1 (length s) (omega arith), le-leb (length s) width h)

-- one byte of a decimal
module _ (s : Bytes) (i n : ℕ) where
  pub read_end : length s ≤ i → read_from n (drop i s) ≡ Some n
  unfolding all_digits value_from
  read_end h = rw (drop_of_length-le s h)

  pub read_none : i < length s → is_ascii_digit (get_or s i 0) ≡ false → read_from n (drop i s) ≡ None
  unfolding all_digits
  read_none h e = rw (drop_step 0 s i h, e)

  pub read_digit : i < length s → is_ascii_digit (get_or s i 0) ≡ true → read_from n (drop i s) ≡ read_from (n * 10 + (get_or s i 0 - 48)) (drop (i + 1) s)
  unfolding all_digits value_from
  read_digit h e = rw (drop_step 0 s i h, e)

-- one digit more, and what the widest number comes to
pub digit_more : (n d i : ℕ) → n < 10 ^ i → d ≤ 9 → n * 10 + d < 10 ^ (i + 1)
digit_more n d i h k = rw (add-one, pow-suc) (omega arith)

pub power_le : (i width : ℕ) → i ≤ width → 10 ^ i ≤ 10 ^ width
power_le i width h = pow-le-pow_right (lit< tt) h

all_true : (x y z : Bool) → (x && y && z) ≡ true → (x ≡ true) × (y ≡ true) × (z ≡ true)
all_true true true true e = (refl, refl, refl)
all_true true true false e = (refl, refl, e)
all_true true false z e = let w : ◌≡◌ {A = ℕ} 0 1 = cc in absurd (omega arith)
all_true false y z e = let w : ◌≡◌ {A = ℕ} 0 1 = cc in absurd (omega arith)

pub first_digit : (b : ℕ) (bs : Bytes) → all_digits (b ∷ bs) ≡ true → (48 ≤ b) × (b ≤ 57) × (all_digits bs ≡ true)
unfolding all_digits
first_digit b bs h =
    let d : (leb 48 b ≡ true) × (leb b 57 ≡ true) × (all_digits bs ≡ true) = all_true (leb 48 b) (leb b 57) (all_digits bs) h in
    (leb-true 48 b d.0, leb-true b 57 d.1, d.2)

-- what a value that was read tells
pub decimal_value : (width : ℕ) (s : Bytes) (v : ℕ) → decimal_of width s ≡ Some v → (is_decimal width s ≡ true) × (value s ≡ v)
unfolding decimal_of
decimal_value width s v e = go (is_decimal width s) refl e
  where
    go : (t : Bool) → is_decimal width s ≡ t → (whether t then Some (value s) else None) ≡ Some v → (is_decimal width s ≡ true) × (value s ≡ v)
    go true p q = (p, cc)
    go false p q = let w : ◌≡◌ {A = ℕ} 0 1 = cc in absurd (omega arith)

pub no_decimal : (width : ℕ) (s : Bytes) → all_digits s ≡ false → decimal_of width s ≡ None
unfolding decimal_of
no_decimal width s h = simp (h, and-false)
