-- What is claimed of the calendar. Each is a type; whoever has an element of it has a proof.
use Rattle.std.specs.Prelude.{◌≡◌, List, [], ◌∷◌, true, ◌&&◌, ◌||◌, not, ℕ, zero, suc, ◌+◌, ◌*◌, ◌/◌, ◌%◌, ◌<◌, leb, ltb, eqb}
use Rattle.words.specs.Words.{whether◌then◌else◌, all}
use Rattle.dates.specs.Calendar.{leap, days_in, is_date}

-- the edges of the calendar: these are dates, and those are none
abbrev pub dates : List ℕ
dates = 16000101 ∷ 16000229 ∷ 17000228 ∷ 20000229 ∷ 20240229 ∷ 20240430 ∷ 20241231 ∷ 99991231 ∷ []

abbrev pub no_dates : List ℕ
no_dates =
    17000229 ∷ 18000229 ∷ 19000229 ∷ 20230229 ∷ 20240230 ∷ 20240431  -- no 29, 30 or 31 in that month
    ∷ 20240001 ∷ 20241301 ∷ 20240100 ∷ 20240132  -- month 0 and 13, day 0 and 32
    ∷ 15991231 ∷ 100000101 ∷ 2024 ∷ 0  -- years 1599, 10000 and 0
    ∷ []

abbrev pub Edges : Type 0
Edges = (all is_date dates ≡ true) × (all (λ n. not (is_date n)) no_dates ≡ true)

-- YYYYMMDD of a year, a month and a day
abbrev pub written : ℕ → ℕ → ℕ → ℕ
written year month day = year * 10000 + month * 100 + day

-- every number is the one of its year, month and day
abbrev pub AllWritten : Type 0
AllWritten = (n : ℕ) → (written (n / 10000) (n / 100 % 100) (n % 100) ≡ n) × (n / 100 % 100 < 100) × (n % 100 < 100)

-- such a number is a date exactly if the year is one of 1600 to 9999 and the month has the day
abbrev pub DatesExactly : Type 0
DatesExactly = (year month day : ℕ) → month < 100 → day < 100 →
    is_date (written year month day) ≡ (leb 1600 year && leb year 9999 && leb 1 day && leb day (days_in year month))

-- the order of such numbers is the order of days: by year, then by month, then by day
abbrev pub DaysInOrder : Type 0
DaysInOrder = (year month day year' month' day' : ℕ) → month < 100 → day < 100 → month' < 100 → day' < 100 →
    ltb (written year month day) (written year' month' day')
    ≡ (ltb year year' || (eqb year year' && (ltb month month' || (eqb month month' && ltb day day'))))

-- the days of n months, from a month on
unfoldable pub months_long : ℕ → ℕ → ℕ → ℕ
months_long year month zero = 0
months_long year month (suc n) = days_in year month + months_long year (suc month) n

-- a year has 365 days or 366, and only its twelve months have days
abbrev pub YearsLong : Type 0
YearsLong = (year : ℕ) →
    (months_long year 1 12 ≡ (whether leap year then 366 else 365))
    × (days_in year 0 ≡ 0)
    × ((month : ℕ) → 12 < month → days_in year month ≡ 0)

-- the days of n years, from a year on
unfoldable pub years_long : ℕ → ℕ → ℕ
years_long year zero = 0
years_long year (suc n) = months_long year 1 12 + years_long (suc year) n

-- any 400 years that follow each other have 146,097 days
abbrev pub CyclesLong : Type 0
CyclesLong = (year : ℕ) → years_long year 400 ≡ 146097
