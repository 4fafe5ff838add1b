-- Hours for the ledger: seconds as one binary64 number, and how near that number is to them.
use Rattle.std.specs.Prelude.{◌≡◌, List, [], ◌∷◌, false, ℕ, ◌+◌, ◌-◌, ◌*◌, ◌^◌, ◌≤◌, ℤ, pos, Float}
use Rattle.std.specs.Float.{fin, binary64}
use Rattle.std.specs.Float.Ieee.{up, down, of_int, add, div}

-- the seconds S of blocks together
unfoldable pub together : List ℕ → ℕ
together [] = 0
together (s ∷ ss) = s + together ss

-- the numbers handed out -----------------------------------------------------------------------------------------------------------------

-- "whole seconds S divided by 3,600 at the very end": one division, rounded once
abbrev pub hours_of : ℕ → Float
hours_of s = div binary64 (of_int binary64 (pos s)) (of_int binary64 (pos 3600))

-- "0 exactly": 0.0, and not -0.0
abbrev pub none : Float
none = fin false 0 (pos 0)

-- "each block's hours rounded, added" in order to what there is so far
unfoldable pub clerk_from : Float → List ℕ → Float
clerk_from x [] = x
clerk_from x (s ∷ ss) = clerk_from (add binary64 x (hours_of s)) ss

-- "sum as the ledger clerk does", of the seconds of each block
abbrev pub clerk : List ℕ → Float
clerk ss = clerk_from none ss

-- how near they are --------------------------------------------------------------------------------------------------------------------

-- the distance of two whole numbers
abbrev pub apart : ℕ → ℕ → ℕ
apart a b = a - b + (b - a)

-- "2 to the" p "times the distance between 3,600 times the handed-out number and S is at most" n times "S, the number taken as a whole number
-- times a power of two and everything multiplied out". x is the whole number m times 2 to the e, so it is finite, and not negative. 2 to the e is
-- the fraction up e / down e, one of the two being 1.
pub record Near (p n S : ℕ) (x : Float) : Type 0 where
  pub m : ℕ
  pub e : ℤ
  pub is : x ≡ fin false m e
  pub near : 2 ^ p * apart (3600 * (m * up e)) (S * down e) ≤ n * (S * down e)
