-- What the book is asked.
use Rattle.std.specs.Prelude.{Bool, ◌&&◌, List, [], ◌∷◌, ℕ, ◌+◌, eqb}
use Rattle.words.specs.Words.{Row, whether◌then◌else◌}
use Rattle.rows.specs.Rows.{column}
use Rattle.rules.specs.Rules.{seconds}

-- a block of this type: its VEH_TYP_NR together with its VERSION
abbrev pub of_type : ℕ → ℕ → Row → Bool
of_type version type row = eqb (column 1 row) version && eqb (column 5 row) type

-- what the blocks of a type weigh together
unfoldable pub total : (Row → ℕ) → ℕ → ℕ → List Row → ℕ
total weight version type [] = 0
total weight version type (x ∷ xs) = (whether of_type version type x then weight x else 0) + total weight version type xs

-- "seconds and count of its blocks"
abbrev pub seconds_of : ℕ → ℕ → List Row → ℕ
seconds_of version type xs = total seconds version type xs

abbrev pub count_of : ℕ → ℕ → List Row → ℕ
count_of version type xs = total (λ x. 1) version type xs

-- columns 5 to 11: "its seven non-key numbers"
abbrev pub seven : Row → List ℕ
seven row = column 5 row ∷ column 6 row ∷ column 7 row ∷ column 8 row ∷ column 9 row ∷ column 10 row ∷ column 11 row ∷ []
