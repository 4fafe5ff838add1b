-- The Gregorian calendar. A day is the number YYYYMMDD.
use Rattle.std.specs.Prelude.{List, [], ◌∷◌, Bool, ◌&&◌, ℕ, ◌/◌, ◌%◌, leb, eqb, get_or}
use Rattle.words.specs.Words.{whether◌then◌else◌}

-- every fourth year has a 29 February; of the years that end a century, every fourth
unfoldable pub leap : ℕ → Bool
leap year = whether eqb (year % 100) 0 then eqb (year % 400) 0 else eqb (year % 4) 0

-- how long the months 1 to 12 are; there is no month 0, and none behind the last
abbrev pub month_days : List ℕ
month_days = 0 ∷ 31 ∷ 28 ∷ 31 ∷ 30 ∷ 31 ∷ 30 ∷ 31 ∷ 31 ∷ 30 ∷ 31 ∷ 30 ∷ 31 ∷ []

-- how long a month of a year is
unfoldable pub days_in : ℕ → ℕ → ℕ
days_in year month = whether eqb month 2 && leap year then 29 else get_or month_days month 0

-- a date of the years 1600 to 9999
unfoldable pub is_date : ℕ → Bool
is_date n =
    let year = n / 10000 in
    let month = n / 100 % 100 in
    let day = n % 100 in
    leb 1600 year && leb year 9999 && leb 1 day && leb day (days_in year month)
