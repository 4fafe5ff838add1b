-- Decimal numbers, read and written.
use Rattle.std.specs.Prelude.{[], ◌∷◌, ◌++◌, Bool, true, ◌&&◌, false, ℕ, ◌+◌, ◌-◌, ◌*◌, zero, suc, ◌/◌, ◌%◌, leb, ltb, length}
use Rattle.words.specs.Words.{Bytes}

-- 48 to 57 are the digits
unfoldable pub all_digits : Bytes → Bool
all_digits [] = true
all_digits (b ∷ bs) = leb 48 b && leb b 57 && all_digits bs

-- "A d cell is 1 to N digits, leading zeros allowed, no sign"
abbrev pub is_decimal : ℕ → Bytes → Bool
is_decimal width s = leb 1 (length s) && leb (length s) width && all_digits s

-- the number n with these digits behind it
unfoldable pub value_from : ℕ → Bytes → ℕ
value_from n [] = n
value_from n (b ∷ bs) = value_from (n * 10 + (b - 48)) bs

-- the number that digits stand for
abbrev pub value : Bytes → ℕ
value s = value_from 0 s

-- the digits of n, "no leading zeros"; the flag says that n is one digit, and the first number is at least how many stand before the last
unfoldable pub digits : ℕ → Bool → ℕ → Bytes
digits zero one n = (48 + n) ∷ []
digits (suc k) true n = (48 + n) ∷ []
digits (suc k) false n = digits k (ltb (n / 10) 10) (n / 10) ++ ((48 + n % 10) ∷ [])

abbrev pub decimal : ℕ → Bytes
decimal n = digits n (ltb n 10) n
