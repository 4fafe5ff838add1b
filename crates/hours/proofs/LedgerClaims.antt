-- What is claimed of the hours that are handed out. Assumes nothing.
use mathlib.Core.Path.{◌≡◌, refl, sym, ap, ◌∙◌, subst}
use mathlib.Core.List.{List, [], ◌∷◌}
use Prim.Native.Nat.{ℕ}
use native.Mathlib.Omega.{arith}
use lib.IntN.{pos}
use lib.Ieee.{Float}
use Rattle.words.specs.Words.{Row}
use Rattle.std.specs.Prelude.{Ok, Err}
use Rattle.refusals.specs.Verdicts.{Verdict}
use Rattle.refusals.specs.declared.Place.{Place}
use Rattle.tables.specs.declared.Table.TheVariants.{VehicleType}
use Rattle.book.specs.Book.{knows}
use Rattle.book.specs.Room.{book_of}
use Rattle.questions.specs.Questions.{seconds_of, count_of}
use Rattle.questions.specs.Calls.{asked_verdict, type_answered, type_call}
use Rattle.seasons.specs.Seasons.{season}
use Rattle.seasons.specs.Calls.{season_call}
use Rattle.hour_numbers.specs.Hours.{hours_of, clerk, none, Near}
use Rattle.hour_numbers.proofs.Clerk.{quotient_near, hours_none}
use Rattle.hours.specs.Calls.{seconds_each, hours_answered, hours_call, season_hours_answered, season_hours_call}
use Rattle.hours.specs.Claims.{HoursNear, ClerkNear, SeasonHoursNear, NoBlocksNone, NoSeasonNone, RefusedNone}
use Rattle.hours.specs.declared.SeasonHours.{SeasonHours}
use Rattle.hours.proofs.Each.{each_near, none_counted}
use Rattle.hours.proofs.Answers.{hours_told, season_hours_told, keeps_asked, season_asked, seconds_fit, season_fits}

-- the hours are those of the seconds that are answered
hours_of_lem : (book : List Row) (version type : ℕ) → (hours_call book version type).hours ≡ hours_of (type_call book version type).seconds
hours_of_lem book version type =
    hours_told (asked_verdict book (knows VehicleType (version ∷ type ∷ []) (book_of book))) (seconds_of version type (book_of book).blocks) (count_of version type (book_of book).blocks)
    (clerk (seconds_each version type (book_of book).blocks))

season_hours_of : (book : List Row) (version type first last : ℕ) → (season_hours_call book version type first last).hours ≡ hours_of (season_call book version type first last).seconds
season_hours_of book version type first last =
    sym (ap (λ (a : SeasonHours). a.hours) (season_hours_told (season_asked book version type first last) (season first last version type (book_of book).blocks (book_of book).days)))

pub hours_near : HoursNear
hours_near book version type =
    let S = (type_call book version type).seconds in
    subst (Near 53 1 S) (sym (hours_of_lem book version type)) (quotient_near S (seconds_fit book version type))

pub season_hours_near : SeasonHoursNear
season_hours_near book version type first last =
    let S = (season_call book version type first last).seconds in
    subst (Near 53 1 S) (sym (season_hours_of book version type first last)) (quotient_near S (season_fits book version type first last))

-- 0 is 0 seconds of no blocks
none_near : Near 52 0 0 none
none_near = record { m = 0; e = pos 0; is = refl; near = omega arith }

pub clerk_near : ClerkNear
clerk_near book version type = go (asked_verdict book (knows VehicleType (version ∷ type ∷ []) (book_of book))) refl
  where
    S : ℕ
    S = seconds_of version type (book_of book).blocks

    n : ℕ
    n = count_of version type (book_of book).blocks

    x : Float
    x = clerk (seconds_each version type (book_of book).blocks)

    go : (w : Verdict) → asked_verdict book (knows VehicleType (version ∷ type ∷ []) (book_of book)) ≡ w
        → Near 52 (type_answered w S n).count (type_answered w S n).seconds (hours_answered (type_answered w S n).verdict (hours_of S) x).summed
    go (Ok _) e = each_near version type book (keeps_asked book version type e)
    go (Err p) e = none_near

pub no_blocks_none : NoBlocksNone
no_blocks_none book version type e = go (asked_verdict book (knows VehicleType (version ∷ type ∷ []) (book_of book))) e
  where
    blocks : List Row
    blocks = (book_of book).blocks

    S : ℕ
    S = seconds_of version type blocks

    x : Float
    x = clerk (seconds_each version type blocks)

    go : (w : Verdict) → (type_answered w S (count_of version type blocks)).count ≡ 0
        → ((hours_answered (type_answered w S (count_of version type blocks)).verdict (hours_of S) x).hours ≡ none) × ((hours_answered (type_answered w S (count_of version type blocks)).verdict (hours_of S) x).summed ≡ none)
    go (Ok _) e = let z = none_counted version type blocks e in (ap hours_of z.0 ∙ hours_none, z.1)
    go (Err p) e = (refl, refl)

pub no_season_none : NoSeasonNone
no_season_none book version type first last e = season_hours_of book version type first last ∙ ap hours_of e ∙ hours_none

-- an answer that is a refusal has no hours
refused_none : (w : Verdict) (h x : Float) (p : Place) → (hours_answered w h x).verdict ≡ Err p
    → ((hours_answered w h x).hours ≡ none) × ((hours_answered w h x).summed ≡ none)
refused_none (Ok _) h x p e = (cc, cc)
refused_none (Err q) h x p e = (refl, refl)

season_refused_none : (w : Verdict) (h : Float) (p : Place) → (season_hours_answered w h).verdict ≡ Err p → (season_hours_answered w h).hours ≡ none
season_refused_none (Ok _) h p e = cc
season_refused_none (Err q) h p e = refl

pub refusals_none : RefusedNone
refusals_none book version type p = (
  λ e. refused_none (type_call book version type).verdict (hours_of (seconds_of version type (book_of book).blocks)) (clerk (seconds_each version type (book_of book).blocks)) p e,
  λ first last e. season_refused_none (season_call book version type first last).verdict (hours_of (season first last version type (book_of book).blocks (book_of book).days)) p e,
)
