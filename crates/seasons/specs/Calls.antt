-- What the question for a season answers. Nothing that is lent to it changes.
use Rattle.std.specs.Prelude.{◌≡◌, List, [], ◌∷◌, ◌&&◌, not, ℕ, Ok, Err}
use Rattle.words.specs.Words.{Row}
use Rattle.refusals.specs.Verdicts.{◌when◌, ◌before◌, nowhere, no_date, Verdict}
use Rattle.dates.specs.Calendar.{is_date}
use Rattle.tables.specs.declared.Table.TheVariants.{VehicleType}
use Rattle.book.specs.Book.{knows}
use Rattle.book.specs.Room.{book_of}
use Rattle.questions.specs.Calls.{asked_verdict}
use Rattle.seasons.specs.Seasons.{season}
use Rattle.seasons.specs.declared.SeasonAnswer.{SeasonAnswer}

-- "every refusal zeros for numbers"
abbrev pub season_answered : Verdict → ℕ → SeasonAnswer
season_answered (Ok _) seconds = record { verdict = Ok tt; seconds = seconds }
season_answered (Err p) seconds = record { verdict = Err p; seconds = 0 }

-- "Ask with a first and a last day, both included, and get per vehicle type the sum"; "a span end that is no such date is 23, after 16 and 15"
abbrev pub season_call : List Row → ℕ → ℕ → ℕ → ℕ → SeasonAnswer
season_call book version type first last =
    let b = book_of book in
    season_answered
    (asked_verdict book (knows VehicleType (version ∷ type ∷ []) b) before nowhere (no_date when not (is_date first && is_date last)))
    (season first last version type b.blocks b.days)

-- what the contract of `season_answer` permits: one answer
abbrev pub SeasonPermits : List Row → ℕ → ℕ → ℕ → ℕ → SeasonAnswer → Type 0
SeasonPermits book version type first last a = a ≡ season_call book version type first last
