-- A season, day by day: a day adds what the type's blocks of its day type run. Assumes nothing.
use mathlib.Core.Path.{◌≡◌, refl, sym, ap, ◌∙◌}
use mathlib.Core.List.{List, [], ◌∷◌}
use mathlib.Core.Bool.{Bool, true, false, ◌&&◌}
use Prim.Native.Nat.{ℕ, ◌+◌, ◌*◌, ◌≤◌, ◌<◌}
use native.Mathlib.Omega.{arith}
use native.Mathlib.Numerals.{add-one}
use native.Mathlib.Nat.{mul-add, mul-one, mul-zero, mul-suc}
use lib.Dec.{eqb}
use lib.ListN.{length, get_or, drop, drop_of_length-le}
use borrow.Author.Tests.{eqb-true}
use Rattle.words.specs.Words.{Row, whether◌then◌else◌}
use Rattle.words.proofs.Lists.{drop_step, and_left}
use Rattle.rows.specs.Rows.{column}
use Rattle.rules.specs.Rules.{seconds}
use Rattle.questions.specs.Questions.{of_type, total}
use Rattle.day_tally.specs.Days.{in_span, falls, days_of}
use Rattle.day_tally.specs.Tally.{runs_on, seconds_on, held, shares, Tallied}
use Rattle.seasons.specs.Seasons.{runs, season}
use Rattle.seasons.specs.Summing.{on_day, on_days}

-- one day more ------------------------------------------------------------------------------------------------------------------------

-- what a block runs on a day of its day type
one_day : (s : ℕ) (span kind : Bool) → s * (whether span && kind then 1 else 0) ≡ (whether span then (whether kind then s else 0) else 0)
one_day s true true = mul-one s
one_day s true false = mul-zero s
one_day s false kind = mul-zero s

module _ (first last version type : ℕ) (day : Row) (days : List Row) where
  block_day : (x : Row) → of_type version type x ≡ true
      → runs first last (day ∷ days) x ≡ (whether in_span first last version day then runs_on (column 3 day) x else 0) + runs first last days x
  unfolding days_of
  block_day x t =
      let v : column 1 x ≡ version = eqb-true (column 1 x) version (and_left (eqb (column 1 x) version) (eqb (column 5 x) type) t) in
      ap (λ (w : ℕ). seconds x * days_of first last w (column 2 x) (day ∷ days)) v
      ∙ mul-add (seconds x) (whether falls first last version (column 2 x) day then 1 else 0) (days_of first last version (column 2 x) days)
      ∙ ap (λ (n : ℕ). n + seconds x * days_of first last version (column 2 x) days) (one_day (seconds x) (in_span first last version day) (eqb (column 3 day) (column 2 x)))
      ∙ ap (λ (w : ℕ). (whether in_span first last version day then runs_on (column 3 day) x else 0) + seconds x * days_of first last w (column 2 x) days) (sym v)

  add_blocks : (span here : Bool) (all own ran more rest on : ℕ) → all ≡ (whether span then own else 0) + ran → more ≡ (whether span then on else 0) + rest
      → (whether here then all else 0) + more ≡ (whether span then (whether here then own else 0) + on else 0) + ((whether here then ran else 0) + rest)
  add_blocks true true all own ran more rest on e f = omega arith
  add_blocks true false all own ran more rest on e f = omega arith
  add_blocks false true all own ran more rest on e f = omega arith
  add_blocks false false all own ran more rest on e f = omega arith

  pub season_day : (blocks : List Row)
      → season first last version type blocks (day ∷ days)
      ≡ (whether in_span first last version day then seconds_on version type (column 3 day) blocks else 0) + season first last version type blocks days
  unfolding total
  season_day [] = go (in_span first last version day)
    where
      go : (t : Bool) → ◌≡◌ {A = ℕ} 0 ((whether t then 0 else 0) + 0)
      go true = refl
      go false = refl
  season_day (x ∷ xs) = go (of_type version type x) refl (season_day xs)
    where
      span : Bool
      span = in_span first last version day

      go : (here : Bool) → of_type version type x ≡ here
          → season first last version type xs (day ∷ days) ≡ (whether span then seconds_on version type (column 3 day) xs else 0) + season first last version type xs days
          → (whether here then runs first last (day ∷ days) x else 0) + season first last version type xs (day ∷ days)
          ≡ (whether span then (whether here then runs_on (column 3 day) x else 0) + seconds_on version type (column 3 day) xs else 0)
          + ((whether here then runs first last days x else 0) + season first last version type xs days)
      go true e ih =
          add_blocks span true (runs first last (day ∷ days) x) (runs_on (column 3 day) x) (runs first last days x) (season first last version type xs (day ∷ days))
          (season first last version type xs days) (seconds_on version type (column 3 day) xs) (block_day x e) ih
      go false e ih =
          add_blocks span false (0) (0) (0) (season first last version type xs (day ∷ days))
          (season first last version type xs days) (seconds_on version type (column 3 day) xs) (nothing span) ih
        where
          nothing : (t : Bool) → ◌≡◌ {A = ℕ} 0 ((whether t then 0 else 0) + 0)
          nothing true = refl
          nothing false = refl

-- without days nothing runs
pub no_days : (first last version type : ℕ) (blocks : List Row) → season first last version type blocks [] ≡ 0
unfolding total days_of
no_days first last version type [] = refl
no_days first last version type (x ∷ xs) = go (of_type version type x) (no_days first last version type xs)
  where
    go : (here : Bool) → season first last version type xs [] ≡ 0 → (whether here then seconds x * 0 else 0) + season first last version type xs [] ≡ 0
    go true ih = omega (arith, mul-zero (seconds x), ih)
    go false ih = omega (arith, ih)

-- by a tally ------------------------------------------------------------------------------------------------------------------------

module _ (first last version type : ℕ) (blocks tally : List Row) (at : ℕ) (t : Tallied version type blocks tally at) where
  pub season_tallied : (days : List Row) → on_days first last version (shares tally at) days ≡ season first last version type blocks days
  unfolding on_days
  season_tallied [] = sym (no_days first last version type blocks)
  season_tallied (x ∷ xs) =
      let own : on_day first last version (shares tally at) x ≡ (whether in_span first last version x then seconds_on version type (column 3 x) blocks else 0) =
      ap (λ (s : ℕ). whether in_span first last version x then s else 0) (t.counts (column 3 x)) in
      omega (arith, own, season_tallied xs, season_day first last version type x xs blocks)

-- the first i days are summed up ------------------------------------------------------------------------------------------------------

pub record Sofar (first last version : ℕ) (shares days : List Row) (i sum : ℕ) : Type 0 where
  pub bound : sum ≤ 512 * 999999 * i
  pub whole : on_days first last version shares days ≡ sum + on_days first last version shares (drop i days)

module _ (first last version : ℕ) (shares days : List Row) where
  pub sofar_none : Sofar first last version shares days 0 0
  sofar_none = record { bound = omega arith; whole = omega arith }

  module _ (i sum : ℕ) (sofar : Sofar first last version shares days i sum) where
    pub sofar_next : i < length days → ((kind : ℕ) → held kind shares ≤ 512 * 999999)
        → (d : ℕ) → d ≡ on_day first last version shares (get_or days i []) → Sofar first last version shares days (i + 1) (sum + d)
    unfolding on_days
    sofar_next h most d g =
        let day : Row = get_or days i [] in
        let step : on_days first last version shares (drop i days) ≡ d + on_days first last version shares (drop (i + 1) days) = rw (drop_step [] days i h, g) in
        let l : d ≤ 512 * 999999 = rw g (few (in_span first last version day) (held (column 3 day) shares) (most (column 3 day))) in
        let p : 512 * 999999 * (i + 1) ≡ 512 * 999999 * i + 512 * 999999 = rw (add-one i) (mul-suc (512 * 999999) i) in
        record { bound = omega (arith, sofar.bound); whole = omega (arith, sofar.whole) }
      where
        few : (here : Bool) (w : ℕ) → w ≤ 512 * 999999 → (whether here then w else 0) ≤ 512 * 999999
        few true w h = h
        few false w h = omega arith

    pub sofar_all : length days ≤ i → sum ≡ on_days first last version shares days
    unfolding on_days
    sofar_all h =
        let z : on_days first last version shares (drop i days) ≡ 0 = rw (drop_of_length-le days h) in
        omega (arith, sofar.whole)
