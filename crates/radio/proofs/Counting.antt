-- Bytes counted as they come. Assumes nothing.
use mathlib.Core.Path.{◌≡◌, refl, ap, sym, ◌∙◌}
use mathlib.Core.List.{[], ◌∷◌}
use mathlib.Core.Bool.{Bool, true, false}
use Prim.Native.Nat.{ℕ, suc, ◌+◌, ◌-◌, ◌≤◌, ◌<◌}
use native.Mathlib.Omega.{arith}
use lib.Dec.{eqb, ltb}
use lib.ListN.{length, take}
use lib.Seq.{take-nil}
use borrow.Author.Tests.{ltb-true, ltb-false, lt-ltb, le-ltb, eq-eqb, ne_eqb, eqb-true, eqb-false}
use Rattle.words.specs.Words.{Bytes, whether◌then◌else◌}
use Rattle.lines.specs.Lines.{most_bytes}
use Rattle.tables.specs.declared.Table.{Table}
use Rattle.radio.specs.Radio.{Course, hears, counted, byte_heard, part_taken, length_check}
use Rattle.radio.specs.Hearing.{bytes_heard}

pub counted_short : (n : ℕ) → n ≤ most_bytes → counted n ≡ n
counted_short n h = rw (le-ltb most_bytes n h)

pub counted_long : (n : ℕ) → most_bytes < n → counted n ≡ (suc most_bytes)
counted_long n h = rw (lt-ltb most_bytes n h)

-- either it is short, or not
pub record Counted (n c : ℕ) : Type 0 where
  pub least : c ≤ n
  pub most : c ≤ (suc most_bytes)
  pub exact : c < (suc most_bytes) → c ≡ n
  pub capped : most_bytes < n → c ≡ (suc most_bytes)

pub counts : (n : ℕ) → Counted n (counted n)
counts n = go (ltb most_bytes n) refl
  where
    go : (q : Bool) → ltb most_bytes n ≡ q → Counted n (whether q then (suc most_bytes) else n)
    go true e = let h : most_bytes < n = ltb-true most_bytes n e in record { least = omega arith; most = omega arith; exact = λ l. omega arith; capped = λ l. refl }
    go false e = let h : n ≤ most_bytes = ltb-false most_bytes n e in record { least = omega arith; most = omega arith; exact = λ l. refl; capped = λ l. omega arith }

pub counted_suc : (n : ℕ) → counted (suc (counted n)) ≡ counted (suc n)
counted_suc n = go (ltb most_bytes n) refl
  where
    go : (q : Bool) → ltb most_bytes n ≡ q → counted (suc (whether q then (suc most_bytes) else n)) ≡ counted (suc n)
    go true e = let h : most_bytes < n = ltb-true most_bytes n e in sym (counted_long (suc n) (omega arith))
    go false e = refl

-- below 65,537 there is no cap yet
pub counted_next : (n : ℕ) → n < (suc most_bytes) → counted (suc n) ≡ suc n
counted_next n h = go (ltb most_bytes (suc n)) refl
  where
    go : (q : Bool) → ltb most_bytes (suc n) ≡ q → (whether q then (suc most_bytes) else suc n) ≡ suc n
    go true e = omega (arith, ltb-true most_bytes (suc n) e)
    go false e = refl

pub counted_grows : (n : ℕ) → n ≤ (suc most_bytes) → n ≤ counted (suc n)
counted_grows n h = go (ltb most_bytes (suc n))
  where
    go : (q : Bool) → n ≤ (whether q then (suc most_bytes) else suc n)
    go true = h
    go false = omega arith

-- a part: so many bytes are counted, and those that were announced are read
read_on : (t : Table) (a n : ℕ) (x : ℕ) (s : Bytes) (c : Course) → a ≤ (suc most_bytes) → n ≤ (suc most_bytes) →
    bytes_heard t (take (a - counted (suc n)) s) (whether ltb n a then byte_heard t x c else c) ≡ bytes_heard t (take (a - n) (x ∷ s)) c
unfolding bytes_heard
read_on t a n x s c h k = go (ltb n a) refl
  where
    go : (q : Bool) → ltb n a ≡ q → bytes_heard t (take (a - counted (suc n)) s) (whether q then byte_heard t x c else c) ≡ bytes_heard t (take (a - n) (x ∷ s)) c
    go true e =
        let l : n < a = ltb-true n a e in
        let f : a - n ≡ suc (a - suc n) = omega arith in
        rw (counted_next n (omega arith), f)
    go false e =
        let l : a ≤ n = ltb-false n a e in
        let f : a - n ≡ 0 = omega arith in
        let z : a - counted (suc n) ≡ 0 = omega (arith, counted_grows n k) in
        rw (f, z)

pub part_taken_lem : (t : Table) (a : ℕ) (s : Bytes) (m : ℕ) (c : Course) → a ≤ (suc most_bytes) →
    part_taken s (hears t a (counted m) c) ≡ hears t a (counted (m + length s)) (bytes_heard t (take (a - counted m) s) c)
unfolding part_taken bytes_heard
part_taken_lem t a [] m c h = let z : m + 0 ≡ m = omega arith in rw (take-nil, z)
part_taken_lem t a (x ∷ s) m c h =
    let z : m + suc (length s) ≡ suc m + length s = omega arith in
    ap (λ (n : ℕ). part_taken s (hears t a n (whether ltb (counted m) a then byte_heard t x c else c))) (counted_suc m)
    ∙ part_taken_lem t a s (suc m) (whether ltb (counted m) a then byte_heard t x c else c) h
    ∙ ap (λ (n : ℕ). hears t a (counted (suc m + length s)) (bytes_heard t (take (a - n) s) (whether ltb (counted m) a then byte_heard t x c else c))) (sym (counted_suc m))
    ∙ ap (hears t a (counted (suc m + length s))) (read_on t a (counted m) x s c h (counts m).most)
    ∙ ap (λ (n : ℕ). hears t a (counted n) (bytes_heard t (take (a - counted m) (x ∷ s)) c)) (sym z)

pub part_whole : (t : Table) (a : ℕ) (s : Bytes) (c : Course) → a ≤ (suc most_bytes) → part_taken s (hears t a 0 c) ≡ hears t a (counted (length s)) (bytes_heard t (take a s) c)
part_whole t a s c h =
    let z : 0 + length s ≡ length s = omega arith in
    let f : a - 0 ≡ a = omega arith in
    part_taken_lem t a s 0 c h ∙ rw (z, f)

-- the check of lengths is that of the lengths themselves
pub check_counted : (a n : ℕ) → length_check (counted a) (counted n) ≡ length_check a n
check_counted a n = go (ltb most_bytes a) refl
  where
    same : (eqb a n ≡ true) → a ≤ most_bytes → eqb a (counted n) ≡ true
    same e h = let f : a ≡ n = eqb-true a n e in eq-eqb a (counted n) (omega (arith, counted_short n (omega arith)))

    apart : (eqb a n ≡ false) → a ≤ most_bytes → eqb a (counted n) ≡ false
    apart e h = let f : a ≡ n → ⊥ = eqb-false a n e in ne_eqb a (counted n) (λ g. f (g ∙ (counts n).exact (omega arith)))

    eq : (q : Bool) → eqb a n ≡ q → a ≤ most_bytes → eqb a (counted n) ≡ eqb a n
    eq true e h = same e h ∙ sym e
    eq false e h = apart e h ∙ sym e

    go : (q : Bool) → ltb most_bytes a ≡ q → length_check (whether q then (suc most_bytes) else a) (counted n) ≡ length_check a n
    go true e = rw e
    go false e = rw (eq (eqb a n) refl (ltb-false most_bytes a e))
