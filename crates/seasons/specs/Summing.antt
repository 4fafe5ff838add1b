-- A season, day by day.
-- Inner: no promise and no contract of a public function speaks of it.
use Rattle.std.specs.Prelude.{List, [], ◌∷◌, ℕ, ◌+◌}
use Rattle.words.specs.Words.{Row, whether◌then◌else◌}
use Rattle.rows.specs.Rows.{column}
use Rattle.day_tally.specs.Days.{in_span}
use Rattle.day_tally.specs.Tally.{held}

-- what the blocks of some shares run on the day of a row of the calendar
abbrev pub on_day : ℕ → ℕ → ℕ → List Row → Row → ℕ
on_day first last version shares day = whether in_span first last version day then held (column 3 day) shares else 0

unfoldable pub on_days : ℕ → ℕ → ℕ → List Row → List Row → ℕ
on_days first last version shares [] = 0
on_days first last version shares (x ∷ xs) = on_day first last version shares x + on_days first last version shares xs
