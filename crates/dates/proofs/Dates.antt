-- The tests by which a date is told. Assumes nothing.
use Prim.Native.Nat.{ℕ, zero, suc, ◌+◌, ◌*◌, ◌/◌, ◌%◌, ◌≤◌, ◌<◌}
use native.Mathlib.Omega.{arith}
use mathlib.Core.Path.{◌≡◌, refl, ◌∙◌}
use mathlib.Core.Bool.{Bool, true, false, ◌&&◌}
use lib.Dec.{leb, eqb}
use lib.ListN.{get_or, get_or-eq_default}
use borrow.Author.Tests.{eqb-true, eqb-false, eq-eqb, ne_eqb, le-leb, lt-leb}
use Rattle.dates.specs.Calendar.{leap, month_days, days_in, is_date}

hundreds_told : (n : ℕ) → eqb (n * 100) 0 ≡ eqb n 0
hundreds_told n = go (eqb n 0) refl
  where
    go : (b : Bool) → eqb n 0 ≡ b → eqb (n * 100) 0 ≡ b
    go true e = let h : n ≡ 0 = eqb-true n 0 e in eq-eqb (n * 100) 0 (omega arith)
    go false e = let h : n ≡ 0 → ⊥ = eqb-false n 0 e in ne_eqb (n * 100) 0 (λ k. h (omega arith))

-- a leap year, by its hundreds and its last two digits
pub leap_century : (century year : ℕ) → year ≡ 0 → leap (century * 100 + year) ≡ eqb (century % 4) 0
unfolding leap
leap_century century year z =
    let first : (century * 100 + year) % 100 ≡ 0 = omega arith in
    let fours : (century * 100 + year) % 400 ≡ century % 4 * 100 = omega arith in
    rw (eq-eqb ((century * 100 + year) % 100) 0 first, fours) (hundreds_told (century % 4))

pub leap_plain : (century year : ℕ) → year < 100 → (year ≡ 0 → ⊥) → leap (century * 100 + year) ≡ eqb (year % 4) 0
unfolding leap
leap_plain century year h n =
    let own : (century * 100 + year) % 100 ≡ year = omega arith in
    let fours : (century * 100 + year) % 4 ≡ year % 4 = omega arith in
    rw (own, ne_eqb year 0 n, fours)

-- a month
pub no_month : (month : ℕ) → (1 ≤ month → 12 < month) → get_or month_days month 0 ≡ 0
no_month zero h = refl
no_month (suc month) h = let behind : 12 < suc month = h (omega arith) in get_or-eq_default month_days 0 {n = suc month} (omega arith)

pub not_february : (year month : ℕ) → (month ≡ 2 → ⊥) → days_in year month ≡ get_or month_days month 0
unfolding days_in
not_february year month n = rw (ne_eqb month 2 n)

pub february_long : (year month : ℕ) → month ≡ 2 → leap year ≡ true → days_in year month ≡ 29
unfolding days_in
february_long year month e l = rw (eq-eqb month 2 e, l)

pub february_short : (year month : ℕ) → month ≡ 2 → leap year ≡ false → days_in year month ≡ get_or month_days month 0
unfolding days_in
february_short year month e l = rw (eq-eqb month 2 e, l)

-- a date
pub too_early : (n : ℕ) → n < 16000000 → is_date n ≡ false
unfolding is_date
too_early n h = rw (lt-leb 1600 (n / 10000) (omega arith))

pub too_late : (n : ℕ) → 99999999 < n → is_date n ≡ false
unfolding is_date
too_late n h = rw (le-leb 1600 (n / 10000) (omega arith), lt-leb (n / 10000) 9999 (omega arith))

-- a number of those years, parted by twos of its digits
abbrev pub Parted : ℕ → ℕ → ℕ → ℕ → ℕ → Type 0
Parted n century year month day =
    (16000000 ≤ n) × (n ≤ 99999999) × (n ≡ century * 1000000 + year * 10000 + month * 100 + day) × (year < 100) × (month < 100) × (day < 100)

by_parts : (n century year month day : ℕ) → Parted n century year month day → is_date n ≡ (leb 1 day && leb day (days_in (century * 100 + year) month))
unfolding is_date
by_parts n century year month day (from, to, whole, hy, hm, hd) =
    let y : n / 10000 ≡ century * 100 + year = omega arith in
    let m : n / 100 % 100 ≡ month = omega arith in
    let d : n % 100 ≡ day = omega arith in
    let first : 1600 ≤ century * 100 + year = omega arith in
    let last : century * 100 + year ≤ 9999 = omega arith in
    rw (y, m, d, le-leb 1600 (century * 100 + year) first, le-leb (century * 100 + year) 9999 last)

pub no_day : (n century year month day : ℕ) → Parted n century year month day → day < 1 → is_date n ≡ false
no_day n century year month day p h = by_parts n century year month day p ∙ rw (lt-leb 1 day h)

pub some_day : (n century year month day : ℕ) → Parted n century year month day → 1 ≤ day → is_date n ≡ leb day (days_in (century * 100 + year) month)
some_day n century year month day p h = by_parts n century year month day p ∙ rw (le-leb 1 day h)
