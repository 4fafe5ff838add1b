-- Rows by rising key, row by row and by places; and what changes keep of it. Assumes nothing.
use mathlib.Core.Path.{◌≡◌, refl, ◌∙◌}
use mathlib.Core.List.{List, [], ◌∷◌}
use mathlib.Core.Bool.{true, false, ◌&&◌, Bool}
use Prim.Native.Nat.{ℕ, zero, suc, ◌<◌, ◌-◌, ◌≤◌, ◌+◌}
use native.Mathlib.Omega.{arith}
use native.Mathlib.Nat.{not-suc-le-zero}
use lib.ListN.{length, get_or, drop, take}
use lib.Seq.{drop-cons, get_or-take, length-take-le}
use Rattle.words.specs.Words.{Row}
use Rattle.std.specs.declared.cmp.Ordering.TheVariants.{Less, Equal, Greater}
use Rattle.rows.specs.Rows.{key_order, by_order, rising, inserted, replaced, same_key, removed}
use Rattle.std.specs.declared.cmp.Ordering.{Ordering}
use Rattle.rows.proofs.Keys.{less_trans, more_less, same_left, same_right}

-- each of rows has a larger key than x
unfoldable pub Above : ℕ → Row → List Row → Type 0
Above k x [] = Unit {0}
Above k x (y ∷ ys) = (key_order k x y ≡ Less) × Above k x ys

-- each row's key is below that of each later row
unfoldable pub Rising : ℕ → List Row → Type 0
Rising k [] = Unit {0}
Rising k (x ∷ xs) = Above k x xs × Rising k xs

pub above_less : (k : ℕ) (x y : Row) (ys : List Row) → key_order k x y ≡ Less → Above k y ys → Above k x ys
unfolding Above
above_less k x y [] e a = tt
above_less k x y (z ∷ zs) e a = (less_trans k x y z e a.0, above_less k x y zs e a.1)

-- the test, and back
pub rising_true : (k : ℕ) (xs : List Row) → rising k xs ≡ true → Rising k xs
unfolding rising Above Rising
rising_true k [] e = tt
rising_true k (x ∷ []) e = (tt, tt)
rising_true k (x ∷ (y ∷ ys)) e = go (key_order k x y) refl e (rising_true k (y ∷ ys))
  where
    go : (o : Ordering) → key_order k x y ≡ o → (by_order o true false false && rising k (y ∷ ys)) ≡ true
        → (rising k (y ∷ ys) ≡ true → Rising k (y ∷ ys)) → Rising k (x ∷ (y ∷ ys))
    go Less f g ih = let r = ih g in ((f, above_less k x y ys f r.0), r)
    go Equal f g ih = let z : ◌≡◌ {A = ℕ} 0 1 = cc in absurd (omega arith)
    go Greater f g ih = let z : ◌≡◌ {A = ℕ} 0 1 = cc in absurd (omega arith)

pub true_rising : (k : ℕ) (xs : List Row) → Rising k xs → rising k xs ≡ true
unfolding rising Above Rising
true_rising k [] r = refl
true_rising k (x ∷ []) r = refl
true_rising k (x ∷ (y ∷ ys)) r = rw (r.0.0, true_rising k (y ∷ ys) r.1)

-- rising rows, by places
above_at : (k : ℕ) (x : Row) (ys : List Row) → Above k x ys → (q : ℕ) → q < length ys → key_order k x (get_or ys q []) ≡ Less
unfolding Above
above_at k x [] a q h = absurd (not-suc-le-zero h)
above_at k x (y ∷ ys) a zero h = a.0
above_at k x (y ∷ ys) a (suc q) h = above_at k x ys a.1 q (omega arith)

pub rising_at : (k : ℕ) (xs : List Row) → Rising k xs → (p q : ℕ) → p < q → q < length xs
    → key_order k (get_or xs p []) (get_or xs q []) ≡ Less
unfolding Rising
rising_at k [] r p q l h = absurd (not-suc-le-zero h)
rising_at k (x ∷ xs) r p zero l h = absurd (not-suc-le-zero l)
rising_at k (x ∷ xs) r zero (suc q) l h = above_at k x xs r.0 q (omega arith)
rising_at k (x ∷ xs) r (suc p) (suc q) l h = rising_at k xs r.1 p q (omega arith) (omega arith)

-- the test of it, from place i on
rising_step : (k : ℕ) (xs : List Row) (i : ℕ) → 0 < i → i < length xs
    → rising k (drop (i - 1) xs) ≡ (by_order (key_order k (get_or xs (i - 1) []) (get_or xs i [])) true false false && rising k (drop i xs))
unfolding rising
rising_step k xs zero p h = absurd (not-suc-le-zero p)
rising_step k xs (suc i) p h =
    let e : suc i - 1 ≡ i = omega arith in
    let h' : i < length xs = omega arith in
    rw (e, drop-cons xs i [] h', drop-cons xs (suc i) [] h)

rising_one : (k : ℕ) (xs : List Row) (i : ℕ) → length xs ≤ i → rising k (drop (i - 1) xs) ≡ true
unfolding rising
rising_one k [] zero h = refl
rising_one k [] (suc i) h = go (suc i - 1)
  where
    go : (j : ℕ) → rising k (drop j []) ≡ true
    go zero = refl
    go (suc j) = refl
rising_one k (x ∷ xs) zero h = absurd (not-suc-le-zero h)
rising_one k (x ∷ []) (suc zero) h = refl
rising_one k (x ∷ (y ∷ ys)) (suc zero) h = absurd (omega arith)
rising_one k (x ∷ xs) (suc (suc i)) h =
    let e : suc (suc i) - 1 ≡ suc (suc i - 1) = omega arith in
    rw e (rising_one k xs (suc i) (omega arith))

-- the same for the first n of rows, as the code walks them
module _ (k : ℕ) (xs : List Row) (n i : ℕ) (fits : n ≤ length xs) where
  rises_step : 0 < i → i < n
      → rising k (drop (i - 1) (take n xs)) ≡ (by_order (key_order k (get_or xs (i - 1) []) (get_or xs i [])) true false false && rising k (drop (i + 1 - 1) (take n xs)))
  rises_step some more =
      let e : i + 1 - 1 ≡ i = omega arith in
      let h : i < length (take n xs) = rw (length-take-le n xs fits) more in
      let l : i - 1 < n = omega arith in
      rw e (rw (get_or-take n xs (i - 1) [] l, get_or-take n xs i [] more) at (rising_step k (take n xs) i some h))

  pub rises_on : 0 < i → i < n → by_order (key_order k (get_or xs (i - 1) []) (get_or xs i [])) true false false ≡ true
      → rising k (drop (i - 1) (take n xs)) ≡ rising k (drop (i + 1 - 1) (take n xs))
  rises_on some more e = rises_step some more ∙ rw e

  pub rises_not : 0 < i → i < n → by_order (key_order k (get_or xs (i - 1) []) (get_or xs i [])) true false false ≡ false
      → rising k (drop (i - 1) (take n xs)) ≡ false
  rises_not some more e = rises_step some more ∙ rw e

  pub rises_end : n ≤ i → rising k (drop (i - 1) (take n xs)) ≡ true
  rises_end h = rising_one k (take n xs) i (rw (length-take-le n xs fits) h)

-- one row more
above_inserted : (k : ℕ) (x row : Row) (ys : List Row) → key_order k x row ≡ Less → Above k x ys → Above k x (inserted k row ys)
unfolding Above inserted
above_inserted k x row [] e a = (e, tt)
above_inserted k x row (y ∷ ys) e a = go (key_order k row y) refl (above_inserted k x row ys e a.1)
  where
    go : (o : Ordering) → key_order k row y ≡ o → Above k x (inserted k row ys) → Above k x (inserted k row (y ∷ ys))
    go Less f ih = rw f (e, a)
    go Equal f ih = rw f a
    go Greater f ih = rw f (a.0, ih)

inserted_rising : (k : ℕ) (row : Row) (xs : List Row) → Rising k xs → Rising k (inserted k row xs)
unfolding Above Rising inserted
inserted_rising k row [] r = (tt, tt)
inserted_rising k row (x ∷ xs) r = go (key_order k row x) refl (inserted_rising k row xs r.1)
  where
    go : (o : Ordering) → key_order k row x ≡ o → Rising k (inserted k row xs) → Rising k (inserted k row (x ∷ xs))
    go Less f ih = rw f ((f, above_less k row x xs f r.0), r)
    go Equal f ih = rw f r
    go Greater f ih = rw f (above_inserted k x row xs (more_less k row x f) r.0, ih)

-- one row replaced
above_same : (k : ℕ) (x y : Row) (zs : List Row) → key_order k x y ≡ Equal → Above k y zs → Above k x zs
unfolding Above
above_same k x y [] e a = tt
above_same k x y (z ∷ zs) e a = (same_left k x y z e ∙ a.0, above_same k x y zs e a.1)

above_replaced : (k : ℕ) (x row : Row) (ys : List Row) → Above k x ys → Above k x (replaced k row ys)
unfolding Above replaced
above_replaced k x row [] a = tt
above_replaced k x row (y ∷ ys) a = go (key_order k row y) refl (above_replaced k x row ys a.1)
  where
    go : (o : Ordering) → key_order k row y ≡ o → Above k x (replaced k row ys) → Above k x (replaced k row (y ∷ ys))
    go Less f ih = rw f (a.0, ih)
    go Equal f ih = rw f (same_right k x row y f ∙ a.0, a.1)
    go Greater f ih = rw f (a.0, ih)

replaced_rising : (k : ℕ) (row : Row) (xs : List Row) → Rising k xs → Rising k (replaced k row xs)
unfolding Above Rising replaced
replaced_rising k row [] r = tt
replaced_rising k row (x ∷ xs) r = go (key_order k row x) refl (replaced_rising k row xs r.1)
  where
    go : (o : Ordering) → key_order k row x ≡ o → Rising k (replaced k row xs) → Rising k (replaced k row (x ∷ xs))
    go Less f ih = rw f (above_replaced k x row xs r.0, ih)
    go Equal f ih = rw f (above_same k row x xs f r.0, r.1)
    go Greater f ih = rw f (above_replaced k x row xs r.0, ih)

-- one row gone
above_removed : (k : ℕ) (x row : Row) (ys : List Row) → Above k x ys → Above k x (removed k row ys)
unfolding Above removed
above_removed k x row [] a = tt
above_removed k x row (y ∷ ys) a = go (same_key k row y) refl (above_removed k x row ys a.1)
  where
    go : (b : Bool) → same_key k row y ≡ b → Above k x (removed k row ys) → Above k x (removed k row (y ∷ ys))
    go true f ih = rw f a.1
    go false f ih = rw f (a.0, ih)

removed_rising : (k : ℕ) (row : Row) (xs : List Row) → Rising k xs → Rising k (removed k row xs)
unfolding Above Rising removed
removed_rising k row [] r = tt
removed_rising k row (x ∷ xs) r = go (same_key k row x) refl (removed_rising k row xs r.1)
  where
    go : (b : Bool) → same_key k row x ≡ b → Rising k (removed k row xs) → Rising k (removed k row (x ∷ xs))
    go true f ih = rw f r.1
    go false f ih = rw f (above_removed k x row xs r.0, ih)

-- the same, by the test
module _ (k : ℕ) (row : Row) (xs : List Row) (rises : rising k xs ≡ true) where
  pub rising_inserted : rising k (inserted k row xs) ≡ true
  rising_inserted = true_rising k _ (inserted_rising k row xs (rising_true k xs rises))

  pub rising_replaced : rising k (replaced k row xs) ≡ true
  rising_replaced = true_rising k _ (replaced_rising k row xs (rising_true k xs rises))

  pub rising_removed : rising k (removed k row xs) ≡ true
  rising_removed = true_rising k _ (removed_rising k row xs (rising_true k xs rises))
