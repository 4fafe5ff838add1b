-- The powers of ten that the code takes digits by.
-- Inner: no promise and no contract of a public function speaks of it.
use Rattle.std.specs.Prelude.{List, [], ◌∷◌, ℕ, zero, suc, ◌*◌}

-- n powers from p on, each ten times the one before it
unfoldable pub powers_from : ℕ → ℕ → List ℕ
powers_from zero p = []
powers_from (suc n) p = p ∷ powers_from n (p * 10)

-- those below 10 to the 19, the last one in 64 bits
unfoldable pub powers_of_ten : List ℕ
powers_of_ten = powers_from 19 1
