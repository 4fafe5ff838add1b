-- The answers for the ledger, of a type and of a season, where there is one and where it is refused. Assumes nothing.
use mathlib.Core.Path.{◌≡◌, refl, sym, ap, ◌∙◌}
use mathlib.Core.List.{List, [], ◌∷◌}
use mathlib.Core.Bool.{Bool, true, false, ◌&&◌, not}
use Prim.Native.Nat.{ℕ, ◌^◌, ◌<◌}
use native.Mathlib.Omega.{arith}
use lib.Dec.{lit<}
use lib.Ieee.{Float, of_bits, binary64}
use Rattle.words.specs.Words.{Row}
use Rattle.refusals.specs.Verdicts.{◌when◌, ◌before◌, nowhere, bad_loan, not_there, no_date, Verdict}
use Rattle.std.specs.Prelude.{Ok, Err}
use Rattle.refusals.specs.declared.Place.{Place}
use Rattle.dates.specs.Calendar.{is_date}
use Rattle.tables.specs.declared.Table.TheVariants.{VehicleType}
use Rattle.book.specs.Book.{knows}
use Rattle.book.specs.Room.{book_of}
use Rattle.keeping.specs.Keeping.{keeps_rule}
use Rattle.questions.specs.Questions.{seconds_of, count_of}
use Rattle.questions.specs.Calls.{asked_verdict, type_answered, type_call}
use Rattle.questions.specs.declared.TypeAnswer.{TypeAnswer}
use Rattle.seasons.specs.Seasons.{season}
use Rattle.seasons.specs.Calls.{season_answered, season_call}
use Rattle.seasons.specs.declared.SeasonAnswer.{SeasonAnswer}
use Rattle.hour_numbers.specs.Hours.{hours_of, clerk, none}
use Rattle.hour_numbers.proofs.Clerk.{hours_none}
use Rattle.hours.specs.Calls.{seconds_each, hours_answered, hours_call, season_hours_answered, season_hours_call}
use Rattle.hours.specs.declared.HoursAnswer.{HoursAnswer}
use Rattle.hours.specs.declared.SeasonHours.{SeasonHours}
use Rattle.hours.proofs.Each.{seconds_few, season_few}

-- the machine's 0.0
pub zero_bits : of_bits binary64 0 ≡ none
unfolding of_bits
zero_bits = refl

-- answers by their verdict -------------------------------------------------------------------------------------------------------------

type_most : (w : Verdict) (s n most : ℕ) → s < most → (type_answered w s n).seconds < most
type_most (Ok _) s n most h = h
type_most (Err p) s n most h = omega arith

season_most : (w : Verdict) (s most : ℕ) → s < most → (season_answered w s).seconds < most
season_most (Ok _) s most h = h
season_most (Err p) s most h = omega arith

type_verdict : (w : Verdict) (s n : ℕ) → (type_answered w s n).verdict ≡ w
type_verdict (Ok _) s n = refl
type_verdict (Err p) s n = refl

-- the hours are those of the seconds that are answered: a refusal has 0 seconds
pub hours_told : (w : Verdict) (s n : ℕ) (x : Float) → (hours_answered (type_answered w s n).verdict (hours_of s) x).hours ≡ hours_of (type_answered w s n).seconds
hours_told (Ok _) s n x = refl
hours_told (Err p) s n x = sym hours_none

pub season_hours_told : (w : Verdict) (s : ℕ)
    → ◌≡◌ {A = SeasonHours} (record { verdict = (season_answered w s).verdict; hours = hours_of (season_answered w s).seconds }) (season_hours_answered (season_answered w s).verdict (hours_of s))
season_hours_told (Ok _) s = refl
season_hours_told (Err p) s = ap (λ (x : Float). record { verdict = Err p; hours = x }) hours_none

keeps : (b there : Bool) → (nowhere (bad_loan when not b) before nowhere (not_there when not there)) ≡ Ok tt → b ≡ true
keeps true there e = refl
keeps false there e = cc

-- the verdict of the question for a season
abbrev pub season_asked : List Row → ℕ → ℕ → ℕ → ℕ → Verdict
season_asked xs version type first last = asked_verdict xs (knows VehicleType (version ∷ type ∷ []) (book_of xs)) before nowhere (no_date when not (is_date first && is_date last))

-- on the lent book ---------------------------------------------------------------------------------------------------------------------

module _ (xs : List Row) (version type : ℕ) where
  abbrev blocks : List Row
  blocks = (book_of xs).blocks

  abbrev asked : Verdict
  asked = asked_verdict xs (knows VehicleType (version ∷ type ∷ []) (book_of xs))

  abbrev S : ℕ
  S = seconds_of version type blocks

  abbrev n : ℕ
  n = count_of version type blocks

  pub keeps_asked : asked ≡ Ok tt → keeps_rule xs ≡ true
  keeps_asked e = keeps (keeps_rule xs) (knows VehicleType (version ∷ type ∷ []) (book_of xs)) e

  pub seconds_fit : (type_call xs version type).seconds < 2 ^ 53
  seconds_fit = go (keeps_rule xs) refl
    where
      go : (b : Bool) → keeps_rule xs ≡ b → (type_call xs version type).seconds < 2 ^ 53
      go true k = type_most asked S n (2 ^ 53) (seconds_few version type xs k)
      go false k = rw k (lit< tt)

  module _ (first last : ℕ) where
    pub season_fits : (season_call xs version type first last).seconds < 2 ^ 53
    season_fits = go (keeps_rule xs) refl
      where
        go : (b : Bool) → keeps_rule xs ≡ b → (season_call xs version type first last).seconds < 2 ^ 53
        go true k = season_most (season_asked xs version type first last) (season first last version type blocks (book_of xs).days) (2 ^ 53) (season_few version type xs k first last)
        go false k = rw k (lit< tt)

    pub season_there : (f : SeasonAnswer) (h : Float) → f ≡ season_call xs version type first last → h ≡ hours_of f.seconds
        → ◌≡◌ {A = SeasonHours} (record { verdict = f.verdict; hours = h }) (season_hours_call xs version type first last)
    season_there f h e i = rw (i, e) (season_hours_told (season_asked xs version type first last) (season first last version type blocks (book_of xs).days))

  module _ (f : TypeAnswer) (h : Float) (e : f ≡ type_call xs version type) (i : h ≡ hours_of f.seconds) where
    verdict_told : f.verdict ≡ asked
    verdict_told = ap (λ (g : TypeAnswer). g.verdict) e ∙ type_verdict asked S n

    seconds_told : (w : Verdict) → f.verdict ≡ w → h ≡ hours_of (type_answered w S n).seconds
    seconds_told w a = i ∙ ap (λ (g : TypeAnswer). hours_of g.seconds) e ∙ ap (λ (v : Verdict). hours_of (type_answered v S n).seconds) (sym verdict_told ∙ a)

    pub keeps_there : f.verdict ≡ Ok tt → keeps_rule xs ≡ true
    keeps_there a = keeps_asked (sym verdict_told ∙ a)

    pub hours_there : f.verdict ≡ Ok tt → (s : Float) → s ≡ clerk (seconds_each version type blocks)
        → ◌≡◌ {A = HoursAnswer} (record { verdict = f.verdict; hours = h; summed = s }) (hours_call xs version type)
    hours_there a s j = rw (seconds_told (Ok tt) a, j, a, sym verdict_told ∙ a)

    pub hours_refused : (p : Place) → f.verdict ≡ Err p → (s : Float) → s ≡ none
        → ◌≡◌ {A = HoursAnswer} (record { verdict = f.verdict; hours = h; summed = s }) (hours_call xs version type)
    hours_refused p a s j = rw (seconds_told (Err p) a, hours_none, j, a, sym verdict_told ∙ a)
