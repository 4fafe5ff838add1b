-- What the questions for the ledger answer. Nothing that is lent to them changes.
use Rattle.std.specs.Prelude.{◌≡◌, List, [], ◌∷◌, ℕ, Float, Ok, Err}
use Rattle.words.specs.Words.{Row, whether◌then◌else◌}
use Rattle.refusals.specs.Verdicts.{Verdict}
use Rattle.book.specs.Room.{book_of}
use Rattle.rules.specs.Rules.{seconds}
use Rattle.questions.specs.Questions.{of_type, seconds_of}
use Rattle.questions.specs.Calls.{type_call}
use Rattle.seasons.specs.Seasons.{season}
use Rattle.seasons.specs.Calls.{season_call}
use Rattle.hour_numbers.specs.Hours.{hours_of, none, clerk}
use Rattle.hours.specs.declared.HoursAnswer.{HoursAnswer}
use Rattle.hours.specs.declared.SeasonHours.{SeasonHours}

-- the seconds of each block of a type, "in rising key order", which is the blocks' order in the book
unfoldable pub seconds_each : ℕ → ℕ → List Row → List ℕ
seconds_each version type [] = []
seconds_each version type (x ∷ xs) = whether of_type version type x then seconds x ∷ seconds_each version type xs else seconds_each version type xs

-- "No blocks gives 0 exactly, as do 16 and 15."
abbrev pub hours_answered : Verdict → Float → Float → HoursAnswer
hours_answered (Ok _) hours summed = record { verdict = Ok tt; hours = hours; summed = summed }
hours_answered (Err p) hours summed = record { verdict = Err p; hours = none; summed = none }

-- "Give it one type's whole seconds S divided by 3,600 at the very end." "Then sum as the ledger clerk does: each block's hours rounded, added in
-- rising key order."
abbrev pub hours_call : List Row → ℕ → ℕ → HoursAnswer
hours_call book version type =
    let blocks = (book_of book).blocks in
    hours_answered (type_call book version type).verdict (hours_of (seconds_of version type blocks)) (clerk (seconds_each version type blocks))

abbrev pub season_hours_answered : Verdict → Float → SeasonHours
season_hours_answered (Ok _) hours = record { verdict = Ok tt; hours = hours }
season_hours_answered (Err p) hours = record { verdict = Err p; hours = none }

-- "Calendar sums go by the first rule alone."
abbrev pub season_hours_call : List Row → ℕ → ℕ → ℕ → ℕ → SeasonHours
season_hours_call book version type first last =
    let b = book_of book in
    season_hours_answered (season_call book version type first last).verdict (hours_of (season first last version type b.blocks b.days))

-- what the contracts of `type_hours` and `season_hours` permit: one answer
abbrev pub HoursPermits : List Row → ℕ → ℕ → HoursAnswer → Type 0
HoursPermits book version type a = a ≡ hours_call book version type

abbrev pub SeasonHoursPermits : List Row → ℕ → ℕ → ℕ → ℕ → SeasonHours → Type 0
SeasonHoursPermits book version type first last a = a ≡ season_hours_call book version type first last
