-- The days of a span.
use Rattle.std.specs.Prelude.{List, [], ◌∷◌, Bool, ◌&&◌, ℕ, ◌+◌, leb, eqb}
use Rattle.words.specs.Words.{Row, whether◌then◌else◌}
use Rattle.rows.specs.Rows.{column}

-- a row of the calendar, which is a version, a day and a day type: of this version, on a day from the first to the last, "both included"
abbrev pub in_span : ℕ → ℕ → ℕ → Row → Bool
in_span first last version row = eqb (column 1 row) version && leb first (column 2 row) && leb (column 2 row) last

-- and of this day type
abbrev pub falls : ℕ → ℕ → ℕ → ℕ → Row → Bool
falls first last version kind row = in_span first last version row && eqb (column 3 row) kind

-- "the number of days in that span" with this version and day type
unfoldable pub days_of : ℕ → ℕ → ℕ → ℕ → List Row → ℕ
days_of first last version kind [] = 0
days_of first last version kind (x ∷ xs) = (whether falls first last version kind x then 1 else 0) + days_of first last version kind xs
