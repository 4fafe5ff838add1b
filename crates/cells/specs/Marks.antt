-- Where the cells of a line stand on it, as the code finds them. One byte parts a cell from the next, so that their bounds are where each begins and,
-- behind the last, where one more would begin.
-- Inner: no promise and no contract of a public function speaks of it.
use Rattle.std.specs.Prelude.{Result, Ok, Err, List, [], ◌∷◌, ◌≡◌, ℕ, ◌+◌, suc, ◌<◌, length, take}
use Rattle.words.specs.Words.{Bytes}
use Rattle.cells.specs.Cells.{Cut, faulty, cells}

-- the first cell begins at i
unfoldable pub bounds_from : ℕ → List Bytes → List ℕ
bounds_from i [] = i ∷ []
bounds_from i (c ∷ cs) = i ∷ bounds_from (i + length c + 1) cs

-- the bounds of a line's cells stand first in an array that has room for them
abbrev pub BoundsOf : List Bytes → ℕ → List ℕ → Type 0
BoundsOf cs room bounds = length cs < room → take (suc (length cs)) bounds ≡ bounds_from 0 cs

-- what the code answers for a line: its first faulty cell, or how many cells it has
abbrev pub answer_of : Cut → Result ℕ ℕ
answer_of (faulty n) = Err n
answer_of (cells cs) = Ok (length cs)
