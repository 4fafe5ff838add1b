-- The answer for a season: 16, 15, 23, or the seconds. Assumes nothing.
use mathlib.Core.Path.{◌≡◌, refl, sym, ◌∙◌}
use mathlib.Core.List.{List, [], ◌∷◌}
use mathlib.Core.Bool.{true, false, ◌&&◌}
use Prim.Native.Nat.{ℕ}
use Rattle.words.specs.Words.{Row}
use Rattle.refusals.specs.Verdicts.{nowhere, bad_loan, not_there, no_date, Verdict}
use Rattle.std.specs.Prelude.{Ok, Err}
use Rattle.dates.specs.Calendar.{is_date}
use Rattle.rows.specs.Rows.{wide}
use Rattle.tables.specs.declared.Table.TheVariants.{VehicleType}
use Rattle.book.specs.Book.{knows}
use Rattle.book.specs.Room.{book_of}
use Rattle.rules.proofs.Referring.{stands_wide}
use Rattle.keeping.specs.Keeping.{keeps_rule}
use Rattle.seasons.specs.Seasons.{season}
use Rattle.seasons.specs.Calls.{season_answered, season_call}
use Rattle.seasons.specs.declared.SeasonAnswer.{SeasonAnswer}

pub season_refused : (v : Verdict) → ◌≡◌ {A = SeasonAnswer} (record { verdict = v; seconds = 0 }) (season_answered v 0)
season_refused (Ok _) = refl
season_refused (Err p) = refl

module _ (xs : List Row) (version type first last : ℕ) where
  abbrev type_key : Row
  type_key = version ∷ type ∷ []

  pub season_bad : keeps_rule xs ≡ false → season_answered (nowhere bad_loan) 0 ≡ season_call xs version type first last
  season_bad e = rw e

  module _ (e : keeps_rule xs ≡ true) where
    pub season_missing : knows VehicleType (wide type_key) (book_of xs) ≡ false → season_answered (nowhere not_there) 0 ≡ season_call xs version type first last
    season_missing f = rw (e, sym (stands_wide 2 type_key (book_of xs).types) ∙ f)

    module _ (f : knows VehicleType (wide type_key) (book_of xs) ≡ true) where
      pub season_dateless : (is_date first && is_date last) ≡ false → season_answered (nowhere no_date) 0 ≡ season_call xs version type first last
      season_dateless d = rw (e, sym (stands_wide 2 type_key (book_of xs).types) ∙ f, d)

      pub season_there : (is_date first && is_date last) ≡ true
          → season_answered (Ok tt) (season first last version type (book_of xs).blocks (book_of xs).days) ≡ season_call xs version type first last
      season_there d = rw (e, sym (stands_wide 2 type_key (book_of xs).types) ∙ f, d)
