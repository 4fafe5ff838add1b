-- What is claimed of the hours that are handed out, whatever slice is lent. Each is a type; whoever has an element of it has a proof.
use Rattle.std.specs.Prelude.{◌≡◌, List, ℕ, Err}
use Rattle.words.specs.Words.{Row}
use Rattle.refusals.specs.declared.Place.{Place}
use Rattle.questions.specs.Calls.{type_call}
use Rattle.seasons.specs.Calls.{season_call}
use Rattle.hour_numbers.specs.Hours.{none, Near}
use Rattle.hours.specs.Calls.{hours_call, season_hours_call}

-- "2 to the 53rd times the distance between 3,600 times the handed-out number and S is at most S"
abbrev pub HoursNear : Type 0
HoursNear = (book : List Row) (version type : ℕ) → Near 53 1 (type_call book version type).seconds (hours_call book version type).hours

-- "For n blocks of S seconds together, 2 to the 52nd times the distance between 3,600 times that sum and S is at most n times S."
abbrev pub ClerkNear : Type 0
ClerkNear = (book : List Row) (version type : ℕ) →
    Near 52 (type_call book version type).count (type_call book version type).seconds (hours_call book version type).summed

-- "Calendar sums go by the first rule alone."
abbrev pub SeasonHoursNear : Type 0
SeasonHoursNear = (book : List Row) (version type first last : ℕ) →
    Near 53 1 (season_call book version type first last).seconds (season_hours_call book version type first last).hours

-- "No blocks gives 0 exactly"
abbrev pub NoBlocksNone : Type 0
NoBlocksNone = (book : List Row) (version type : ℕ) → (type_call book version type).count ≡ 0 →
    ((hours_call book version type).hours ≡ none) × ((hours_call book version type).summed ≡ none)

-- and so does a season without seconds
abbrev pub NoSeasonNone : Type 0
NoSeasonNone = (book : List Row) (version type first last : ℕ) → (season_call book version type first last).seconds ≡ 0 →
    (season_hours_call book version type first last).hours ≡ none

-- "as do 16 and 15", and 23 of a season
abbrev pub RefusedNone : Type 0
RefusedNone = (book : List Row) (version type : ℕ) (p : Place) →
    ((hours_call book version type).verdict ≡ Err p → ((hours_call book version type).hours ≡ none) × ((hours_call book version type).summed ≡ none))
    × ((first last : ℕ) → (season_hours_call book version type first last).verdict ≡ Err p → (season_hours_call book version type first last).hours ≡ none)
