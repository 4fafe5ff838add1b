-- The theorems on seasons. Assumes nothing.
use Prim.Native.Nat.{ℕ, zero, suc, ◌+◌, ◌-◌, ◌*◌, ◌≤◌, ◌<◌}
use native.Mathlib.Omega.{arith}
use native.Mathlib.Nat.{mul-add, add-mul, mul-zero, zero-mul, zero-add, mul-le-mul_left}
use mathlib.Core.Path.{◌≡◌, refl, ap, sym, ◌∙◌}
use mathlib.Core.List.{List, [], ◌∷◌}
use mathlib.Core.Bool.{Bool, true, false, ◌&&◌, ◌||◌, not}
use lib.Dec.{leb, eqb}
use lib.ListN.{length}
use borrow.Author.Tests.{eqb-true, leb-true, leb-false, le-leb, lt-leb}
use Rattle.words.specs.Words.{Row, whether◌then◌else◌, all}
use Rattle.words.proofs.Lists.{and_left, and_right}
use Rattle.dates.specs.Calendar.{is_date}
use Rattle.rows.specs.Rows.{column}
use Rattle.rules.specs.Rules.{seconds}
use Rattle.questions.specs.Questions.{of_type, total, seconds_of}
use Rattle.day_tally.specs.Days.{days_of}
use Rattle.day_tally.proofs.Spans.{days_few}
use Rattle.seasons.specs.Seasons.{runs, season}
use Rattle.seasons.specs.Claims.{Backward, Split, SplitDates, over, ByDays, NoDateNoSeconds, OneDayType, AtMost}

-- sums over a type's blocks -------------------------------------------------------------------------------------------------------------

module _ (version type : ℕ) where
  share_add : (here : Bool) (a b : ℕ) → (whether here then a + b else 0) ≡ (whether here then a else 0) + (whether here then b else 0)
  share_add true a b = refl
  share_add false a b = refl

  share_none : (here : Bool) → ◌≡◌ {A = ℕ} (whether here then 0 else 0) 0
  share_none true = refl
  share_none false = refl

  total_add : (w u v : Row → ℕ) → ((x : Row) → w x ≡ u x + v x) → (xs : List Row) → total w version type xs ≡ total u version type xs + total v version type xs
  unfolding total
  total_add w u v e [] = refl
  total_add w u v e (x ∷ xs) =
      rw (e x) (omega (arith, share_add (of_type version type x) (u x) (v x), total_add w u v e xs))

  total_none : (w : Row → ℕ) → ((x : Row) → w x ≡ 0) → (xs : List Row) → total w version type xs ≡ 0
  unfolding total
  total_none w e [] = refl
  total_none w e (x ∷ xs) = rw (e x) (omega (arith, share_none (of_type version type x), total_none w e xs))

-- days -----------------------------------------------------------------------------------------------------------------------------------

-- a row of the calendar: its version and its day type are asked, and its day d
abbrev asked : Bool → Bool → ℕ → ℕ → ℕ → ℕ
asked v k first last d = whether v && leb first d && leb d last && k then 1 else 0

asked_before : (v k : Bool) (first last d : ℕ) → d < first → asked v k first last d ≡ 0
asked_before true k first last d h = rw (lt-leb first d h)
asked_before false k first last d h = refl

asked_behind : (v k : Bool) (first last d : ℕ) → last < d → asked v k first last d ≡ 0
asked_behind v k first last d h = go v (leb first d)
  where
    go : (a b : Bool) → ◌≡◌ {A = ℕ} (whether a && b && leb d last && k then 1 else 0) 0
    go true true = rw (lt-leb d last h)
    go true false = refl
    go false b = refl

asked_from : (v k : Bool) (first last d : ℕ) → first ≤ d → asked v k first last d ≡ (whether v && leb d last && k then 1 else 0)
asked_from true k first last d h = rw (le-leb first d h)
asked_from false k first last d h = refl

asked_to : (v k : Bool) (first last d : ℕ) → d ≤ last → asked v k first last d ≡ (whether v && leb first d && k then 1 else 0)
asked_to v k first last d h = go v (leb first d)
  where
    go : (a b : Bool) → ◌≡◌ {A = ℕ} (whether a && b && leb d last && k then 1 else 0) (whether a && b && k then 1 else 0)
    go true true = rw (le-leb d last h)
    go true false = refl
    go false b = refl

-- a row falls in the span before a day, or in the one behind it
asked_split : (v k : Bool) (first mid last d : ℕ) → first ≤ suc mid → mid ≤ last → asked v k first last d ≡ asked v k first mid d + asked v k (suc mid) last d
asked_split v k first mid last d f l = go (leb d mid) refl
  where
    go : (t : Bool) → leb d mid ≡ t → asked v k first last d ≡ asked v k first mid d + asked v k (suc mid) last d
    go true e =
        let h : d ≤ mid = leb-true d mid e in
        omega (arith, asked_to v k first last d (omega arith), asked_to v k first mid d h, asked_before v k (suc mid) last d (omega arith))
    go false e =
        let h : mid < d = leb-false d mid e in
        omega (arith, asked_from v k first last d (omega arith), asked_from v k (suc mid) last d (omega arith), asked_behind v k first mid d h)

asked_never : (v k : Bool) (first last d : ℕ) → last < first → asked v k first last d ≡ 0
asked_never v k first last d h = go (leb d last) refl
  where
    go : (t : Bool) → leb d last ≡ t → asked v k first last d ≡ 0
    go true e = let l : d ≤ last = leb-true d last e in asked_before v k first last d (omega arith)
    go false e = asked_behind v k first last d (leb-false d last e)

module _ (version kind : ℕ) where
  abbrev of_version : Row → Bool
  of_version x = eqb (column 1 x) version

  abbrev of_kind : Row → Bool
  of_kind x = eqb (column 3 x) kind

  days_split : (first mid last : ℕ) → first ≤ suc mid → mid ≤ last → (xs : List Row)
      → days_of first last version kind xs ≡ days_of first mid version kind xs + days_of (suc mid) last version kind xs
  unfolding days_of
  days_split first mid last f l [] = refl
  days_split first mid last f l (x ∷ xs) =
      omega (arith, asked_split (of_version x) (of_kind x) first mid last (column 2 x) f l, days_split first mid last f l xs)

  days_never : (first last : ℕ) → last < first → (xs : List Row) → days_of first last version kind xs ≡ 0
  unfolding days_of
  days_never first last h [] = refl
  days_never first last h (x ∷ xs) = omega (arith, asked_never (of_version x) (of_kind x) first last (column 2 x) h, days_never first last h xs)

  -- a number that is no date is no day of a calendar of dates
  days_dateless : (day : ℕ) → is_date day ≡ false → (xs : List Row) → all (λ x. is_date (column 2 x)) xs ≡ true → days_of day day version kind xs ≡ 0
  unfolding days_of all
  days_dateless day n [] h = refl
  days_dateless day n (x ∷ xs) h =
      let here : is_date (column 2 x) ≡ true = and_left (is_date (column 2 x)) (all (λ y. is_date (column 2 y)) xs) h in
      let apart : column 2 x ≡ day → ⊥ = λ e. (let z : ◌≡◌ {A = Bool} true false = sym here ∙ ap is_date e ∙ n in let y : ◌≡◌ {A = ℕ} 0 1 = cc in omega arith) in
      let none : asked (of_version x) (of_kind x) day day (column 2 x) ≡ 0 = go (leb (column 2 x) day) refl apart in
      omega (arith, none, days_dateless day n xs (and_right (is_date (column 2 x)) (all (λ y. is_date (column 2 y)) xs) h))
    where
      go : (t : Bool) → leb (column 2 x) day ≡ t → (column 2 x ≡ day → ⊥) → asked (of_version x) (of_kind x) day day (column 2 x) ≡ 0
      go true e a =
          let l : column 2 x ≤ day = leb-true (column 2 x) day e in
          asked_before (of_version x) (of_kind x) day day (column 2 x) (omega (arith, a))
      go false e a = asked_behind (of_version x) (of_kind x) day day (column 2 x) (leb-false (column 2 x) day e)

-- the theorems -------------------------------------------------------------------------------------------------------------------------

pub backward : Backward
backward first last version type blocks days h =
    total_none version type (runs first last days) (λ x. ap (λ (n : ℕ). seconds x * n) (days_never (column 1 x) (column 2 x) first last h days) ∙ mul-zero (seconds x)) blocks

pub split : Split
split first mid last version type blocks days f l =
    total_add version type (runs first last days) (runs first mid days) (runs (suc mid) last days)
    (λ x. ap (λ (n : ℕ). seconds x * n) (days_split (column 1 x) (column 2 x) first mid last f l days)
    ∙ mul-add (seconds x) (days_of first mid (column 1 x) (column 2 x) days) (days_of (suc mid) last (column 1 x) (column 2 x) days))
    blocks

pub by_days : ByDays
unfolding over
by_days first last version type blocks days = go (suc last - first) first refl
  where
    go : (n first : ℕ) → suc last - first ≡ n → season first last version type blocks days ≡ over (λ day. season day day version type blocks days) first n
    go zero first e = backward first last version type blocks days (omega arith)
    go (suc n) first e =
        split first first last version type blocks days (omega arith) (omega arith)
        ∙ ap (λ (s : ℕ). season first first version type blocks days + s) (go n (suc first) (omega arith))

pub no_date_no_seconds : NoDateNoSeconds
no_date_no_seconds day version type blocks days h n =
    total_none version type (runs day day days) (λ x. ap (λ (m : ℕ). seconds x * m) (days_dateless (column 1 x) (column 2 x) day n days h) ∙ mul-zero (seconds x)) blocks

-- days that are all none
over_none : (f : ℕ → ℕ) (day n : ℕ) → ((d : ℕ) → day ≤ d → d < day + n → f d ≡ 0) → over f day n ≡ 0
unfolding over
over_none f day zero h = refl
over_none f day (suc n) h = omega (arith, h day (omega arith) (omega arith), over_none f (suc day) n (λ d a b. h d (omega arith) (omega arith)))

pub split_dates : SplitDates
split_dates first mid next last version type blocks days all-dates f m l none =
    let gap : season (suc mid) (next - 1) version type blocks days ≡ 0 =
    by_days (suc mid) (next - 1) version type blocks days
    ∙ over_none (λ day. season day day version type blocks days) (suc mid) (suc (next - 1) - suc mid)
    (λ d a b. no_date_no_seconds d version type blocks days all-dates (none d (omega arith) (omega arith))) in
    let e : suc (next - 1) ≡ next = omega arith in
    let behind : season (suc mid) last version type blocks days ≡ season next last version type blocks days =
    split (suc mid) (next - 1) last version type blocks days (omega arith) (omega arith)
    ∙ omega (arith, gap, ap (λ (d : ℕ). season d last version type blocks days) e) in
    split first mid last version type blocks days f (omega arith) ∙ ap (λ (s : ℕ). season first mid version type blocks days + s) behind

pub one_day_type : OneDayType
unfolding total all
one_day_type first last version type kind [] days h = sym (zero-mul (days_of first last version kind days))
one_day_type first last version type kind (x ∷ xs) days h =
    go (of_type version type x) refl (and_left (not (of_type version type x) || eqb (column 2 x) kind) (all (λ y. not (of_type version type y) || eqb (column 2 y) kind) xs) h)
    (one_day_type first last version type kind xs days (and_right (not (of_type version type x) || eqb (column 2 x) kind) (all (λ y. not (of_type version type y) || eqb (column 2 y) kind) xs) h))
  where
    often : ℕ
    often = days_of first last version kind days

    go : (here : Bool) → of_type version type x ≡ here → (not here || eqb (column 2 x) kind) ≡ true
        → total (runs first last days) version type xs ≡ seconds_of version type xs * often
        → (whether here then runs first last days x else 0) + total (runs first last days) version type xs ≡ ((whether here then seconds x else 0) + seconds_of version type xs) * often
    go true e k ih =
        let v : column 1 x ≡ version = eqb-true (column 1 x) version (and_left (eqb (column 1 x) version) (eqb (column 5 x) type) e) in
        let d : column 2 x ≡ kind = eqb-true (column 2 x) kind k in
        let own : runs first last days x ≡ seconds x * often = rw (v, d) in
        omega (arith, own, ih, add-mul (seconds x) (seconds_of version type xs) often)
    go false e k ih = rw (zero-add (total (runs first last days) version type xs), zero-add (seconds_of version type xs)) ih

pub at_most : AtMost
unfolding total
at_most first last version type [] days = omega arith
at_most first last version type (x ∷ xs) days = go (of_type version type x) (at_most first last version type xs days)
  where
    go : (here : Bool) → total (runs first last days) version type xs ≤ seconds_of version type xs * length days
        → (whether here then runs first last days x else 0) + total (runs first last days) version type xs ≤ ((whether here then seconds x else 0) + seconds_of version type xs) * length days
    go true ih = omega (arith, ih, add-mul (seconds x) (seconds_of version type xs) (length days), mul-le-mul_left (seconds x) (days_few first last (column 1 x) (column 2 x) days))
    go false ih = rw (zero-add (total (runs first last days) version type xs), zero-add (seconds_of version type xs)) ih
