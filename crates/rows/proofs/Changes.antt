-- What stands, and which row is found, after a row is inserted, replaced or removed. Assumes nothing.
use mathlib.Core.Path.{◌≡◌, refl, ◌∙◌, sym, ap}
use mathlib.Core.List.{List, [], ◌∷◌}
use mathlib.Core.Bool.{true, Bool, false, ◌||◌}
use Prim.Native.Nat.{ℕ, ◌≤◌, suc}
use native.Mathlib.Omega.{arith}
use lib.ListN.{get_or, length}
use Rattle.words.specs.Words.{Row, whether◌then◌else◌}
use Rattle.rows.specs.Rows.{same_key, stands, found, removed, column, rising, by_order, key_order, inserted, replaced}
use Rattle.rows.specs.Spots.{row_of, spot}
use Rattle.std.specs.Prelude.{Ok, Err}
use Rattle.rows.specs.Room.{used, zeros}
use Rattle.std.specs.declared.cmp.Ordering.{Ordering}
use Rattle.std.specs.declared.cmp.Ordering.TheVariants.{Less, Equal, Greater}
use Rattle.rows.proofs.Keys.{same_key_left, order_refl, same_key_right, same_number, same_key_order}
use Rattle.rows.proofs.Room.{Versioned, row_of_row, used_versioned, used_row}
use Rattle.rows.proofs.Places.{at_within, at_stands, at_found, gap_missing}
use Rattle.rows.proofs.Rising.{Above, Rising, rising_true}

-- which of two rows of the same key is asked for makes no difference
module _ (k : ℕ) (key row : Row) (e : same_key k key row ≡ true) where
  pub stands_key : (xs : List Row) → stands k key xs ≡ stands k row xs
  unfolding stands
  stands_key [] = refl
  stands_key (x ∷ xs) = rw (same_key_left k key row x e, stands_key xs)

  pub found_key : (xs : List Row) → found k key xs ≡ found k row xs
  unfolding found
  found_key [] = refl
  found_key (x ∷ xs) = rw (same_key_left k key row x e, found_key xs)

  pub removed_key : (xs : List Row) → removed k key xs ≡ removed k row xs
  unfolding removed
  removed_key [] = refl
  removed_key (x ∷ xs) = rw (same_key_left k key row x e, removed_key xs)

-- a key that does not stand
pub found_missing : (k : ℕ) (row : Row) (xs : List Row) → stands k row xs ≡ false → found k row xs ≡ []
unfolding stands found
found_missing k row [] e = refl
found_missing k row (x ∷ xs) e = go (same_key k row x) refl e (found_missing k row xs)
  where
    go : (b : Bool) → same_key k row x ≡ b → (b || stands k row xs) ≡ false → (stands k row xs ≡ false → found k row xs ≡ []) → found k row (x ∷ xs) ≡ []
    go true f g ih = cc
    go false f g ih = rw f (ih g)

pub found_versioned : (k : ℕ) (row : Row) (xs : List Row) → Versioned xs → stands k row xs ≡ true → 1 ≤ column 1 (found k row xs)
unfolding stands found Versioned
found_versioned k row [] v e = let z : ◌≡◌ {A = ℕ} 0 1 = cc in absurd (omega arith)
found_versioned k row (x ∷ xs) v e = go (same_key k row x) refl e (found_versioned k row xs v.1)
  where
    go : (b : Bool) → same_key k row x ≡ b → (b || stands k row xs) ≡ true → (stands k row xs ≡ true → 1 ≤ column 1 (found k row xs))
        → 1 ≤ column 1 (whether b then x else found k row xs)
    go true f g ih = v.0
    go false f g ih = ih g

pub row_of_found : (k : ℕ) (row : Row) (xs : List Row) → Versioned xs → stands k row xs ≡ true → row_of (found k row xs) ≡ found k row xs
row_of_found k row xs v e = row_of_row (found k row xs) (found_versioned k row xs v e)

-- the row of a key, by its place
pub row_of_at : (k : ℕ) (row : Row) (xs : List Row) (i : ℕ) → spot k row (used xs) ≡ Ok i → row_of (found k row (used xs)) ≡ get_or xs i []
row_of_at k row xs i e =
    let f : found k row (used xs) ≡ get_or xs i [] = at_found k row (used xs) i e ∙ used_row xs i (at_within k row (used xs) i e) in
    row_of_found k row (used xs) (used_versioned xs) (at_stands k row (used xs) i e) ∙ f

pub row_of_gap : (k : ℕ) (row : Row) (xs : List Row) → rising k (used xs) ≡ true → (i : ℕ) → spot k row (used xs) ≡ Err i → row_of (found k row (used xs)) ≡ zeros
row_of_gap k row xs r i e = rw (found_missing k row (used xs) (gap_missing k row (used xs) i e r))

-- the key itself, afterwards
module _ (k : ℕ) (row : Row) where
  pub stands_inserted : (xs : List Row) → stands k row (inserted k row xs) ≡ true
  unfolding stands inserted
  stands_inserted [] = rw (order_refl k 0 row)
  stands_inserted (x ∷ xs) = go (key_order k row x) refl (stands_inserted xs)
    where
      go : (o : Ordering) → key_order k row x ≡ o → stands k row (inserted k row xs) ≡ true → stands k row (inserted k row (x ∷ xs)) ≡ true
      go Less f ih = rw (f, order_refl k 0 row)
      go Equal f ih = rw (f, f)
      go Greater f ih = rw (f, f) ih

  pub found_inserted : (xs : List Row) → stands k row xs ≡ false → found k row (inserted k row xs) ≡ row
  unfolding stands found inserted
  found_inserted [] e = rw (order_refl k 0 row)
  found_inserted (x ∷ xs) e = go (key_order k row x) refl e (found_inserted xs)
    where
      go : (o : Ordering) → key_order k row x ≡ o → (by_order o false true false || stands k row xs) ≡ false
          → (stands k row xs ≡ false → found k row (inserted k row xs) ≡ row) → found k row (inserted k row (x ∷ xs)) ≡ row
      go Less f g ih = rw (f, order_refl k 0 row)
      go Equal f g ih = cc
      go Greater f g ih = rw (f, f) (ih g)

  pub found_replaced : (xs : List Row) → stands k row xs ≡ true → found k row (replaced k row xs) ≡ row
  unfolding stands found replaced
  found_replaced [] e = cc
  found_replaced (x ∷ xs) e = go (same_key k row x) refl e (found_replaced xs)
    where
      go : (b : Bool) → same_key k row x ≡ b → (b || stands k row xs) ≡ true
          → (stands k row xs ≡ true → found k row (replaced k row xs) ≡ row) → found k row (replaced k row (x ∷ xs)) ≡ row
      go true f g ih = rw (f, order_refl k 0 row)
      go false f g ih = rw (f, f) (ih g)

  above_gone : (x : Row) (xs : List Row) → same_key k row x ≡ true → Above k x xs → stands k row xs ≡ false
  unfolding Above stands
  above_gone x [] e a = refl
  above_gone x (y ∷ ys) e a = rw (same_key_left k row x y e, a.0) (above_gone x ys e a.1)

  gone : (xs : List Row) → Rising k xs → stands k row (removed k row xs) ≡ false
  unfolding Rising stands removed
  gone [] r = refl
  gone (x ∷ xs) r = go (same_key k row x) refl (gone xs r.1)
    where
      go : (b : Bool) → same_key k row x ≡ b → stands k row (removed k row xs) ≡ false → stands k row (removed k row (x ∷ xs)) ≡ false
      go true f ih = rw f (above_gone x xs f r.0)
      go false f ih = rw (f, f) ih

  pub stands_removed : (xs : List Row) → rising k xs ≡ true → stands k row (removed k row xs) ≡ false
  stands_removed xs r = gone xs (rising_true k xs r)

-- which keys stand is not changed by a replaced row
pub stands_replaced : (k : ℕ) (key row : Row) (xs : List Row) → stands k key (replaced k row xs) ≡ stands k key xs
unfolding stands replaced
stands_replaced k key row [] = refl
stands_replaced k key row (x ∷ xs) = go (same_key k row x) refl (stands_replaced k key row xs)
  where
    go : (b : Bool) → same_key k row x ≡ b → stands k key (replaced k row xs) ≡ stands k key xs
        → stands k key (replaced k row (x ∷ xs)) ≡ stands k key (x ∷ xs)
    go true f ih = rw (f, same_key_right k key row x f)
    go false f ih = rw (f, ih)

-- any other key: what is not touched stays
module _ (k : ℕ) (key row : Row) (apart : same_key k key row ≡ false) where
  also_apart : (x : Row) → same_key k row x ≡ true → same_key k key x ≡ false
  also_apart x e = sym (same_key_right k key row x e) ∙ apart

  pub other_stands_inserted : (xs : List Row) → stands k key (inserted k row xs) ≡ stands k key xs
  unfolding stands inserted
  other_stands_inserted [] = rw apart
  other_stands_inserted (x ∷ xs) = go (key_order k row x) refl (other_stands_inserted xs)
    where
      go : (o : Ordering) → key_order k row x ≡ o → stands k key (inserted k row xs) ≡ stands k key xs → stands k key (inserted k row (x ∷ xs)) ≡ stands k key (x ∷ xs)
      go Less e ih = rw (e, apart)
      go Equal e ih = rw e
      go Greater e ih = rw (e, ih)

  pub other_stands_removed : (xs : List Row) → stands k key (removed k row xs) ≡ stands k key xs
  unfolding stands removed
  other_stands_removed [] = refl
  other_stands_removed (x ∷ xs) = go (same_key k row x) refl (other_stands_removed xs)
    where
      go : (b : Bool) → same_key k row x ≡ b → stands k key (removed k row xs) ≡ stands k key xs → stands k key (removed k row (x ∷ xs)) ≡ stands k key (x ∷ xs)
      go true e ih = rw (e, also_apart x e)
      go false e ih = rw (e, ih)

  pub other_found_inserted : (xs : List Row) → found k key (inserted k row xs) ≡ found k key xs
  unfolding found inserted
  other_found_inserted [] = rw apart
  other_found_inserted (x ∷ xs) = go (key_order k row x) refl (other_found_inserted xs)
    where
      go : (o : Ordering) → key_order k row x ≡ o → found k key (inserted k row xs) ≡ found k key xs → found k key (inserted k row (x ∷ xs)) ≡ found k key (x ∷ xs)
      go Less e ih = rw (e, apart)
      go Equal e ih = rw e
      go Greater e ih = rw (e, ih)

  pub other_found_replaced : (xs : List Row) → found k key (replaced k row xs) ≡ found k key xs
  unfolding found replaced
  other_found_replaced [] = refl
  other_found_replaced (x ∷ xs) = go (same_key k row x) refl (other_found_replaced xs)
    where
      go : (b : Bool) → same_key k row x ≡ b → found k key (replaced k row xs) ≡ found k key xs → found k key (replaced k row (x ∷ xs)) ≡ found k key (x ∷ xs)
      go true e ih = rw (e, apart, also_apart x e)
      go false e ih = rw (e, ih)

  pub other_found_removed : (xs : List Row) → found k key (removed k row xs) ≡ found k key xs
  unfolding found removed
  other_found_removed [] = refl
  other_found_removed (x ∷ xs) = go (same_key k row x) refl (other_found_removed xs)
    where
      go : (b : Bool) → same_key k row x ≡ b → found k key (removed k row xs) ≡ found k key xs → found k key (removed k row (x ∷ xs)) ≡ found k key (x ∷ xs)
      go true e ih = rw (e, also_apart x e)
      go false e ih = rw (e, ih)

-- how many rows there are
module _ (k : ℕ) (row : Row) where
  pub length_inserted : (xs : List Row) → stands k row xs ≡ false → length (inserted k row xs) ≡ suc (length xs)
  unfolding stands inserted
  length_inserted [] e = refl
  length_inserted (x ∷ xs) e = go (key_order k row x) refl e (length_inserted xs)
    where
      go : (o : Ordering) → key_order k row x ≡ o → (by_order o false true false || stands k row xs) ≡ false
          → (stands k row xs ≡ false → length (inserted k row xs) ≡ suc (length xs)) → length (inserted k row (x ∷ xs)) ≡ suc (length (x ∷ xs))
      go Less f g ih = rw f
      go Equal f g ih = let z : ◌≡◌ {A = ℕ} 0 1 = cc in absurd (omega arith)
      go Greater f g ih = rw f (ap suc (ih g))

  pub length_inserted_most : (xs : List Row) → length (inserted k row xs) ≤ suc (length xs)
  unfolding inserted
  length_inserted_most [] = omega arith
  length_inserted_most (x ∷ xs) = go (key_order k row x) refl (length_inserted_most xs)
    where
      go : (o : Ordering) → key_order k row x ≡ o → length (inserted k row xs) ≤ suc (length xs) → length (inserted k row (x ∷ xs)) ≤ suc (length (x ∷ xs))
      go Less f ih = rw f (omega arith)
      go Equal f ih = rw f (omega arith)
      go Greater f ih = rw f (omega arith)

  pub length_replaced : (xs : List Row) → length (replaced k row xs) ≡ length xs
  unfolding replaced
  length_replaced [] = refl
  length_replaced (x ∷ xs) = go (same_key k row x) refl (length_replaced xs)
    where
      go : (b : Bool) → same_key k row x ≡ b → length (replaced k row xs) ≡ length xs → length (replaced k row (x ∷ xs)) ≡ length (x ∷ xs)
      go true f ih = rw f
      go false f ih = rw f (ap suc ih)

  pub length_removed : (xs : List Row) → stands k row xs ≡ true → suc (length (removed k row xs)) ≡ length xs
  unfolding stands removed
  length_removed [] e = cc
  length_removed (x ∷ xs) e = go (same_key k row x) refl e (length_removed xs)
    where
      go : (b : Bool) → same_key k row x ≡ b → (b || stands k row xs) ≡ true
          → (stands k row xs ≡ true → suc (length (removed k row xs)) ≡ length xs) → suc (length (removed k row (x ∷ xs))) ≡ length (x ∷ xs)
      go true f g ih = rw f
      go false f g ih = rw f (ap suc (ih g))

  pub length_removed_most : (xs : List Row) → length (removed k row xs) ≤ length xs
  unfolding removed
  length_removed_most [] = omega arith
  length_removed_most (x ∷ xs) = go (same_key k row x) refl (length_removed_most xs)
    where
      go : (b : Bool) → same_key k row x ≡ b → length (removed k row xs) ≤ length xs → length (removed k row (x ∷ xs)) ≤ length (x ∷ xs)
      go true f ih = rw f (omega arith)
      go false f ih = rw f (omega arith)

-- each row's VERSION is still at least 1
module _ (k : ℕ) (row : Row) where
  pub versioned_inserted : (xs : List Row) → 1 ≤ column 1 row → Versioned xs → Versioned (inserted k row xs)
  unfolding Versioned inserted
  versioned_inserted [] h v = (h, tt)
  versioned_inserted (x ∷ xs) h v = go (key_order k row x) refl (versioned_inserted xs h v.1)
    where
      go : (o : Ordering) → key_order k row x ≡ o → Versioned (inserted k row xs) → Versioned (inserted k row (x ∷ xs))
      go Less f ih = rw f (h, v)
      go Equal f ih = rw f v
      go Greater f ih = rw f (v.0, ih)

  -- where the VERSION is part of the key, the row that is replaced vouches for it
  pub versioned_replaced : (xs : List Row) → 1 ≤ k → Versioned xs → Versioned (replaced k row xs)
  unfolding Versioned replaced
  versioned_replaced [] h v = tt
  versioned_replaced (x ∷ xs) h v = go (same_key k row x) refl (versioned_replaced xs h v.1)
    where
      go : (b : Bool) → same_key k row x ≡ b → Versioned (replaced k row xs) → Versioned (replaced k row (x ∷ xs))
      go true f ih =
          let e : get_or row 0 0 ≡ get_or x 0 0 = same_number k row x (same_key_order k row x f) 0 h in
          rw f ((omega (arith, v.0)), v.1)
      go false f ih = rw f (v.0, ih)

  pub versioned_removed : (xs : List Row) → Versioned xs → Versioned (removed k row xs)
  unfolding Versioned removed
  versioned_removed [] v = tt
  versioned_removed (x ∷ xs) v = go (same_key k row x) refl (versioned_removed xs v.1)
    where
      go : (b : Bool) → same_key k row x ≡ b → Versioned (removed k row xs) → Versioned (removed k row (x ∷ xs))
      go true f ih = rw f v.1
      go false f ih = rw f (v.0, ih)
