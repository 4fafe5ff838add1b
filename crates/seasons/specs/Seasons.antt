-- What a type's blocks run from a first day to a last one.
use Rattle.std.specs.Prelude.{List, ℕ, ◌*◌}
use Rattle.words.specs.Words.{Row}
use Rattle.rows.specs.Rows.{column}
use Rattle.rules.specs.Rules.{seconds}
use Rattle.questions.specs.Questions.{total}
use Rattle.day_tally.specs.Days.{days_of}

-- "seconds times the number of days in that span with the block's version and day type"
abbrev pub runs : ℕ → ℕ → List Row → Row → ℕ
runs first last days block = seconds block * days_of first last (column 1 block) (column 2 block) days

-- "per vehicle type the sum, over its blocks"
abbrev pub season : ℕ → ℕ → ℕ → ℕ → List Row → List Row → ℕ
season first last version type blocks days = total (runs first last days) version type blocks
