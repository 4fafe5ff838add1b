-- A table's rows in a lent slice: used rows first, "unused room zero".
use Rattle.std.specs.Prelude.{List, ◌++◌, [], ◌∷◌, Bool, true, false, ◌&&◌, ℕ, ◌-◌, replicate, length, eqb}
use Rattle.words.specs.Words.{Row, whether◌then◌else◌, same}
use Rattle.rows.specs.Rows.{column, row_numbers}

-- "There are at most 512 rows in each table."
abbrev pub most_rows : ℕ
most_rows = 512

abbrev pub zeros : Row
zeros = replicate row_numbers 0

-- rows, filled up with rows of zeros to the room that there is
abbrev pub filled : ℕ → List Row → List Row
filled room xs = xs ++ replicate (room - length xs) zeros

-- the used rows: VERSION is at least 1, so a row that begins with 0 is none
unfoldable pub used : List Row → List Row
used [] = []
used (x ∷ xs) = whether eqb (column 1 x) 0 then [] else x ∷ used xs

unfoldable pub same_rows : List Row → List Row → Bool
same_rows [] [] = true
same_rows [] (y ∷ ys) = false
same_rows (x ∷ xs) [] = false
same_rows (x ∷ xs) (y ∷ ys) = same x y && same_rows xs ys
