-- What is claimed of seasons. Each is a type; whoever has an element of it has a proof.
use Rattle.std.specs.Prelude.{◌≡◌, List, true, false, ◌||◌, not, ℕ, zero, suc, ◌+◌, ◌-◌, ◌*◌, ◌≤◌, ◌<◌, eqb, length}
use Rattle.words.specs.Words.{Row, all}
use Rattle.dates.specs.Calendar.{is_date}
use Rattle.rows.specs.Rows.{column}
use Rattle.book.specs.Room.{book_of}
use Rattle.keeping.specs.Keeping.{keeps_rule}
use Rattle.questions.specs.Questions.{seconds_of, of_type}
use Rattle.day_tally.specs.Days.{days_of}
use Rattle.seasons.specs.Seasons.{season}

-- "A span whose last day is before its first gives 0."
abbrev pub Backward : Type 0
Backward = (first last version type : ℕ) (blocks days : List Row) → last < first → season first last version type blocks days ≡ 0

-- a span is the sum of its two parts, split behind any day of it
abbrev pub Split : Type 0
Split = (first mid last version type : ℕ) (blocks days : List Row) → first ≤ suc mid → mid ≤ last →
    season first last version type blocks days ≡ season first mid version type blocks days + season (suc mid) last version type blocks days

-- the days of a book's calendar are dates
abbrev pub DaysDated : Type 0
DaysDated = (book : List Row) → keeps_rule book ≡ true → all (λ x. is_date (column 2 x)) (book_of book).days ≡ true

-- so a span is split between two dates that follow each other
abbrev pub SplitDates : Type 0
SplitDates = (first mid next last version type : ℕ) (blocks days : List Row) → all (λ x. is_date (column 2 x)) days ≡ true →
    first ≤ suc mid → mid < next → next ≤ suc last → ((day : ℕ) → mid < day → day < next → is_date day ≡ false) →
    season first last version type blocks days ≡ season first mid version type blocks days + season next last version type blocks days

-- what f is on n days from a day on, together
unfoldable pub over : (ℕ → ℕ) → ℕ → ℕ → ℕ
over f day zero = 0
over f day (suc n) = f day + over f (suc day) n

-- a season is the sum over its days
abbrev pub ByDays : Type 0
ByDays = (first last version type : ℕ) (blocks days : List Row) →
    season first last version type blocks days ≡ over (λ day. season day day version type blocks days) first (suc last - first)

-- of which those that are no dates have no seconds
abbrev pub NoDateNoSeconds : Type 0
NoDateNoSeconds = (day version type : ℕ) (blocks days : List Row) → all (λ x. is_date (column 2 x)) days ≡ true → is_date day ≡ false →
    season day day version type blocks days ≡ 0

-- where all blocks of a type are of one day type, its season is its seconds times that day type's days
abbrev pub OneDayType : Type 0
OneDayType = (first last version type kind : ℕ) (blocks days : List Row) → all (λ x. not (of_type version type x) || eqb (column 2 x) kind) blocks ≡ true →
    season first last version type blocks days ≡ seconds_of version type blocks * days_of first last version kind days

-- a season is at most the type's seconds on each day of the calendar
abbrev pub AtMost : Type 0
AtMost = (first last version type : ℕ) (blocks days : List Row) → season first last version type blocks days ≤ seconds_of version type blocks * length days
