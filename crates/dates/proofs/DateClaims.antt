-- The theorems on the calendar. Assumes nothing.
use Prim.Native.Nat.{ℕ, zero, suc, ◌+◌, ◌/◌, ◌%◌, ◌≤◌, ◌<◌}
use native.Mathlib.Omega.{arith}
use mathlib.Core.Path.{◌≡◌, refl, ap, sym, ◌∙◌}
use mathlib.Core.Bool.{Bool, true, false, ◌&&◌, ◌||◌}
use lib.Dec.{ltb, eqb}
use borrow.Author.Tests.{eqb-true, eqb-false, ltb-true, ltb-false, lt-ltb, le-ltb}
use Rattle.words.specs.Words.{whether◌then◌else◌, all}
use Rattle.dates.specs.Calendar.{leap, days_in, is_date}
use Rattle.dates.specs.Claims.{Edges, written, AllWritten, DatesExactly, DaysInOrder, months_long, YearsLong, years_long, CyclesLong}
use Rattle.dates.proofs.Dates.{no_month, not_february}

pub edges : Edges
unfolding all is_date days_in leap
edges = (refl, refl)

pub all_written : AllWritten
all_written n = (omega arith, omega arith, omega arith)

pub dates_exactly : DatesExactly
unfolding is_date
dates_exactly year month day m d =
    let n = written year month day in
    let y : n / 10000 ≡ year = omega arith in
    let k : n / 100 % 100 ≡ month = omega arith in
    let e : n % 100 ≡ day = omega arith in
    rw (y, k, e)

-- numbers in order by one part and, where that is the same, by what is told of the rest
by_part : (a b n k : ℕ) (rest : Bool) → (a < b → n < k) → (b < a → k ≤ n) → (a ≡ b → ltb n k ≡ rest) → ltb n k ≡ (ltb a b || (eqb a b && rest))
by_part a b n k rest below above same = go (ltb a b) refl (eqb a b) refl
  where
    go : (t : Bool) → ltb a b ≡ t → (u : Bool) → eqb a b ≡ u → ltb n k ≡ (t || (u && rest))
    go true e u f = lt-ltb n k (below (ltb-true a b e))
    go false e true f = same (eqb-true a b f)
    go false e false f =
        let h : b ≤ a = ltb-false a b e in
        let d : a ≡ b → ⊥ = eqb-false a b f in
        le-ltb n k (above (omega arith))

by_last : (a b n k : ℕ) → (a < b → n < k) → (b ≤ a → k ≤ n) → ltb n k ≡ ltb a b
by_last a b n k below above = go (ltb a b) refl
  where
    go : (t : Bool) → ltb a b ≡ t → ltb n k ≡ t
    go true e = lt-ltb n k (below (ltb-true a b e))
    go false e = le-ltb n k (above (ltb-false a b e))

pub days_in_order : DaysInOrder
days_in_order y m d y' m' d' hm hd hm' hd' =
    let n = written y m d in
    let k = written y' m' d' in
    by_part y y' n k _ (λ h. omega arith) (λ h. omega arith)
    (λ e. by_part m m' n k _ (λ h. omega arith) (λ h. omega arith)
    (λ f. by_last d d' n k (λ h. omega arith) (λ h. omega arith)))

pub years_long_lem : YearsLong
unfolding months_long days_in
years_long_lem year = (go (leap year), refl, λ month h. not_february year month (omega arith) ∙ no_month month (λ k. h))
  where
    go : (l : Bool) → 31 + ((whether l then 29 else 28) + (31 + (30 + (31 + (30 + (31 + (31 + (30 + (31 + (30 + (31 + 0))))))))))) ≡ (whether l then 366 else 365)
    go true = refl
    go false = refl

-- 400 years on, a year is as long
leap_again : (year : ℕ) → leap (year + 400) ≡ leap year
unfolding leap
leap_again year =
    let a : (year + 400) % 100 ≡ year % 100 = omega arith in
    let b : (year + 400) % 400 ≡ year % 400 = omega arith in
    let c : (year + 400) % 4 ≡ year % 4 = omega arith in
    rw (a, b, c)

long_again : (year : ℕ) → months_long (year + 400) 1 12 ≡ months_long year 1 12
long_again year =
    (years_long_lem (year + 400)).0 ∙ ap (λ (l : Bool). whether l then 366 else 365) (leap_again year) ∙ sym (years_long_lem year).0

-- one year more is the last one
one_more : (n year : ℕ) → years_long year (suc n) ≡ years_long year n + months_long (year + n) 1 12
unfolding years_long
one_more zero year = let e : year + 0 ≡ year = omega arith in rw e (omega arith)
one_more (suc n) year =
    let e : suc year + n ≡ year + suc n = omega arith in
    rw (one_more n (suc year), e) (omega arith)

one_on : (year : ℕ) → years_long (suc year) 400 ≡ years_long year 400
one_on year =
    let first : years_long year 401 ≡ months_long year 1 12 + years_long (suc year) 400 = unfold years_long in refl in
    omega (arith, one_more 400 year, long_again year)

from_0 : years_long 0 400 ≡ 146097
unfolding years_long months_long days_in leap
from_0 = refl

pub cycles_long : CyclesLong
cycles_long zero = from_0
cycles_long (suc year) = one_on year ∙ cycles_long year
