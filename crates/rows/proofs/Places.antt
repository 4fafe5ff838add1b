-- Where a key stands among rows: by halving, and in terms of the row that is found. Assumes nothing.
use mathlib.Core.Path.{◌≡◌, ap, ◌∙◌, sym, refl}
use mathlib.Core.List.{List, [], ◌∷◌, ◌++◌}
use mathlib.Core.Bool.{true, Bool, false}
use Prim.Native.Nat.{ℕ, zero, suc, ◌+◌, ◌≤◌, ◌<◌}
use native.Mathlib.Omega.{arith}
use native.Mathlib.Nat.{not-suc-le-zero}
use lib.ListN.{length, get_or, take, drop, set}
use lib.Dec.{eqb}
use borrow.Author.Tests.{eqb-true, eqb-false}
use Rattle.words.specs.Words.{Row, whether◌then◌else◌}
use Rattle.std.specs.declared.cmp.Ordering.TheVariants.{Less, Greater, Equal}
use Rattle.std.specs.Prelude.{Err, Ok, Result, is_ok}
use Rattle.rows.specs.Rows.{key_order, rising, column, stands, found, replaced, removed, inserted}
use Rattle.rows.specs.Spots.{spot_from, spot, Holds}
use Rattle.std.specs.declared.cmp.Ordering.{Ordering}
use Rattle.rows.specs.Room.{used}
use Rattle.rows.proofs.Keys.{Tri, lt, eq, gt, tri, less_trans, less_more, more_less, same_same, same_right}
use Rattle.rows.proofs.Rising.{rising_at, rising_true, Above, Rising, above_less}
use Rattle.rows.proofs.Room.{used_row, used_goes_on, used_stops}

-- a place, by what stands before it and at it
spot_gap : (k i : ℕ) (row : Row) (xs : List Row) (m : ℕ) → m ≤ length xs
    → ((j : ℕ) → j < m → key_order k row (get_or xs j []) ≡ Greater)
    → (m < length xs → key_order k row (get_or xs m []) ≡ Less)
    → spot_from k i row xs ≡ Err (i + m)
unfolding spot_from
spot_gap k i row [] zero h b a = ap Err (omega arith)
spot_gap k i row [] (suc m) h b a = absurd (not-suc-le-zero h)
spot_gap k i row (x ∷ xs) zero h b a = rw (a (omega arith)) (ap Err (omega arith))
spot_gap k i row (x ∷ xs) (suc m) h b a =
    rw (b 0 (omega arith))
    (spot_gap k (suc i) row xs m (omega arith) (λ j l. b (suc j) (omega arith)) (λ l. a (omega arith)) ∙ ap Err (omega arith))

spot_at : (k i : ℕ) (row : Row) (xs : List Row) (m : ℕ) → m < length xs
    → ((j : ℕ) → j < m → key_order k row (get_or xs j []) ≡ Greater)
    → key_order k row (get_or xs m []) ≡ Equal
    → spot_from k i row xs ≡ Ok (i + m)
unfolding spot_from
spot_at k i row [] m h b a = absurd (not-suc-le-zero h)
spot_at k i row (x ∷ xs) zero h b a = rw a (ap Ok (omega arith))
spot_at k i row (x ∷ xs) (suc m) h b a =
    rw (b 0 (omega arith))
    (spot_at k (suc i) row xs m (omega arith) (λ j l. b (suc j) (omega arith)) a ∙ ap Ok (omega arith))

-- low and high bracket the place of row among xs; high may lie in the room behind them
pub record Bracket (k : ℕ) (row : Row) (xs : List Row) (low high : ℕ) : Type 0 where
  pub reached : low ≤ length xs
  pub below : (j : ℕ) → j < low → key_order k row (get_or xs j []) ≡ Greater
  pub above : (j : ℕ) → high ≤ j → j < length xs → key_order k row (get_or xs j []) ≡ Less

pub bracket_start : (k : ℕ) (row : Row) (xs : List Row) (n : ℕ) → length xs ≤ n → Bracket k row xs 0 n
bracket_start k row xs n h = record {
  reached = omega arith;
  below = λ j l. absurd (not-suc-le-zero l);
  above = λ j l l'. absurd (omega arith);
}

module _ (k : ℕ) (row : Row) (xs : List Row) (low high : ℕ) (rises : rising k xs ≡ true) (b : Bracket k row xs low high) where
  rising_in : (p q : ℕ) → p < q → q < length xs → key_order k (get_or xs p []) (get_or xs q []) ≡ Less
  rising_in = rising_at k xs (rising_true k xs rises)

  bracket_room : (m : ℕ) → length xs ≤ m → Bracket k row xs low m
  bracket_room m h = record { reached = b.reached; below = b.below; above = λ j l l'. absurd (omega arith) }

  module _ (m : ℕ) (within : m < length xs) where
    pub bracket_up : key_order k row (get_or xs m []) ≡ Greater → Bracket k row xs (m + 1) high
    bracket_up e = record {
      reached = omega arith;
      below = λ j l. go j (tri j m) l;
      above = b.above;
    }
      where
        go : (j : ℕ) → Tri j m → j < m + 1 → key_order k row (get_or xs j []) ≡ Greater
        go j (lt h) l = less_more k _ _ (less_trans k _ _ _ (rising_in j m h within) (more_less k _ _ e))
        go j (eq h) l = rw h e
        go j (gt h) l = absurd (omega arith)

    pub bracket_down : key_order k row (get_or xs m []) ≡ Less → Bracket k row xs low m
    bracket_down e = record {
      reached = b.reached;
      below = b.below;
      above = λ j l h. go j (tri m j) l h;
    }
      where
        go : (j : ℕ) → Tri m j → m ≤ j → j < length xs → key_order k row (get_or xs j []) ≡ Less
        go j (lt g) l h = less_trans k _ _ _ e (rising_in m j g h)
        go j (eq g) l h = rw (← g) e
        go j (gt g) l h = absurd (omega arith)

    pub bracket_at : key_order k row (get_or xs m []) ≡ Equal → spot k row xs ≡ Ok m
    bracket_at e =
        spot_at k 0 row xs m within
        (λ j l. less_more k _ _ (sym (same_right k (get_or xs j []) _ _ (same_same k _ _ e)) ∙ rising_in j m l within))
        e
        ∙ ap Ok (omega arith)

  pub bracket_gap : high ≤ low → spot k row xs ≡ Err low
  bracket_gap d = spot_gap k 0 row xs low b.reached b.below (λ l. b.above low d l) ∙ ap Err (omega arith)

-- the same by the order to a row of the slice, where an unused row lies above every key
abbrev pub order_at : ℕ → Row → List Row → ℕ → Ordering
order_at k row slice m = whether eqb (column 1 (get_or slice m [])) 0 then Less else key_order k row (get_or slice m [])

module _ (k : ℕ) (row : Row) (slice : List Row) (low high : ℕ) (table : Holds k slice) (b : Bracket k row (used slice) low high) (m : ℕ) (h : m < length slice) where
  in_use : eqb (column 1 (get_or slice m [])) 0 ≡ false → m < length (used slice)
  in_use n = used_goes_on slice table.rest m h (eqb-false _ _ n)

  used_order : (n : eqb (column 1 (get_or slice m [])) 0 ≡ false) (o : Ordering) → order_at k row slice m ≡ o → key_order k row (get_or (used slice) m []) ≡ o
  used_order n o e = rw (used_row slice m (in_use n)) (rw n at e)

  pub slice_down : order_at k row slice m ≡ Less → Bracket k row (used slice) low m
  slice_down e = go (eqb (column 1 (get_or slice m [])) 0) refl
    where
      go : (u : Bool) → eqb (column 1 (get_or slice m [])) 0 ≡ u → Bracket k row (used slice) low m
      go true n = bracket_room k row (used slice) low high table.rises b m (used_stops slice m (eqb-true _ _ n))
      go false n = bracket_down k row (used slice) low high table.rises b m (in_use n) (used_order n Less e)

  pub slice_up : order_at k row slice m ≡ Greater → Bracket k row (used slice) (m + 1) high
  slice_up e = go (eqb (column 1 (get_or slice m [])) 0) refl
    where
      go : (u : Bool) → eqb (column 1 (get_or slice m [])) 0 ≡ u → Bracket k row (used slice) (m + 1) high
      go true n = let e' : Less ≡ Greater = rw n at e in let z : ◌≡◌ {A = ℕ} 0 1 = cc in absurd (omega arith)
      go false n = bracket_up k row (used slice) low high table.rises b m (in_use n) (used_order n Greater e)

  pub slice_at : order_at k row slice m ≡ Equal → spot k row (used slice) ≡ Ok m
  slice_at e = go (eqb (column 1 (get_or slice m [])) 0) refl
    where
      go : (u : Bool) → eqb (column 1 (get_or slice m [])) 0 ≡ u → spot k row (used slice) ≡ Ok m
      go true n = let e' : Less ≡ Equal = rw n at e in let z : ◌≡◌ {A = ℕ} 0 1 = cc in absurd (omega arith)
      go false n = bracket_at k row (used slice) low high table.rises b m (in_use n) (used_order n Equal e)

-- a key that stands at a place: what the changes make of the rows there
pub record StandsAt (k i : ℕ) (row : Row) (xs : List Row) (place : ℕ) : Type 0 where
  pub at : ℕ
  pub is : place ≡ i + at
  pub within : at < length xs
  pub stays : stands k row xs ≡ true
  pub there : found k row xs ≡ get_or xs at []
  pub changed : replaced k row xs ≡ set xs at row
  pub gone : removed k row xs ≡ take at xs ++ drop (suc at) xs

stands_at : (k i : ℕ) (row : Row) (xs : List Row) (place : ℕ) → spot_from k i row xs ≡ Ok place → StandsAt k i row xs place
unfolding spot_from stands found replaced removed
stands_at k i row [] place e = let z : ◌≡◌ {A = ℕ} 0 1 = cc in absurd (omega arith)
stands_at k i row (x ∷ xs) place e = go (key_order k row x) refl (stands_at k (suc i) row xs place)
  where
    go : (o : Ordering) → key_order k row x ≡ o → (spot_from k (suc i) row xs ≡ Ok place → StandsAt k (suc i) row xs place) → StandsAt k i row (x ∷ xs) place
    go Less f ih = let e' : Err i ≡ Ok place = rw f at e in let z : ◌≡◌ {A = ℕ} 0 1 = cc in absurd (omega arith)
    go Equal f ih =
        let e' : Ok i ≡ Ok place = rw f at e in
        let g : i ≡ place = cc in
        record { at = 0; is = omega arith; within = omega arith; stays = rw f; there = rw f; changed = rw f; gone = rw f }
    go Greater f ih =
        let p = ih (rw f at e) in
        record {
          at = suc p.at;
          is = omega (arith, p.is);
          within = omega (arith, p.within);
          stays = rw f p.stays;
          there = rw f p.there;
          changed = rw f (ap (λ (l : List Row). x ∷ l) p.changed);
          gone = rw f (ap (λ (l : List Row). x ∷ l) p.gone);
        }

-- the same, by the place itself
module _ (k : ℕ) (row : Row) (xs : List Row) (i : ℕ) (here : spot k row xs ≡ Ok i) where
  at_same : (stands_at k 0 row xs i here).at ≡ i
  at_same = omega (arith, (stands_at k 0 row xs i here).is)

  pub at_within : i < length xs
  at_within = rw at_same at (stands_at k 0 row xs i here).within

  pub at_stands : stands k row xs ≡ true
  at_stands = (stands_at k 0 row xs i here).stays

  pub at_found : found k row xs ≡ get_or xs i []
  at_found = rw at_same at (stands_at k 0 row xs i here).there

  pub at_replaced : replaced k row xs ≡ set xs i row
  at_replaced = rw at_same at (stands_at k 0 row xs i here).changed

  pub at_removed : removed k row xs ≡ take i xs ++ drop (suc i) xs
  at_removed = rw at_same at (stands_at k 0 row xs i here).gone

-- a key that has a gap: a row goes there
pub record GapAt (k i : ℕ) (row : Row) (xs : List Row) (place : ℕ) : Type 0 where
  pub at : ℕ
  pub is : place ≡ i + at
  pub within : at ≤ length xs
  pub put : inserted k row xs ≡ take at xs ++ (row ∷ drop at xs)

gap_at : (k i : ℕ) (row : Row) (xs : List Row) (place : ℕ) → spot_from k i row xs ≡ Err place → GapAt k i row xs place
unfolding spot_from inserted
gap_at k i row [] place e = let f : i ≡ place = cc in record { at = 0; is = omega arith; within = omega arith; put = refl }
gap_at k i row (x ∷ xs) place e = go (key_order k row x) refl (gap_at k (suc i) row xs place)
  where
    go : (o : Ordering) → key_order k row x ≡ o → (spot_from k (suc i) row xs ≡ Err place → GapAt k (suc i) row xs place) → GapAt k i row (x ∷ xs) place
    go Less f ih =
        let g : i ≡ place = (let e' : Err i ≡ Err place = rw f at e in cc) in
        record { at = 0; is = omega arith; within = omega arith; put = rw f }
    go Equal f ih = let e' : Ok i ≡ Err place = rw f at e in let z : ◌≡◌ {A = ℕ} 0 1 = cc in absurd (omega arith)
    go Greater f ih =
        let p = ih (rw f at e) in
        record { at = suc p.at; is = omega (arith, p.is); within = omega (arith, p.within); put = rw f (ap (λ (l : List Row). x ∷ l) p.put) }

above_missing : (k : ℕ) (row : Row) (xs : List Row) → Above k row xs → stands k row xs ≡ false
unfolding Above stands
above_missing k row [] a = refl
above_missing k row (x ∷ xs) a = rw a.0 (above_missing k row xs a.1)

gap_missing_from : (k i : ℕ) (row : Row) (xs : List Row) (place : ℕ) → Rising k xs → spot_from k i row xs ≡ Err place → stands k row xs ≡ false
unfolding spot_from stands Rising
gap_missing_from k i row [] place r e = refl
gap_missing_from k i row (x ∷ xs) place r e = go (key_order k row x) refl (gap_missing_from k (suc i) row xs place r.1)
  where
    go : (o : Ordering) → key_order k row x ≡ o → (spot_from k (suc i) row xs ≡ Err place → stands k row xs ≡ false) → stands k row (x ∷ xs) ≡ false
    go Less f ih = rw f (above_missing k row xs (above_less k row x xs f r.0))
    go Equal f ih = let e' : Ok i ≡ Err place = rw f at e in let z : ◌≡◌ {A = ℕ} 0 1 = cc in absurd (omega arith)
    go Greater f ih = rw f (ih (rw f at e))

module _ (k : ℕ) (row : Row) (xs : List Row) (i : ℕ) (here : spot k row xs ≡ Err i) where
  gap_same : (gap_at k 0 row xs i here).at ≡ i
  gap_same = omega (arith, (gap_at k 0 row xs i here).is)

  pub gap_within : i ≤ length xs
  gap_within = rw gap_same at (gap_at k 0 row xs i here).within

  pub gap_inserted : inserted k row xs ≡ take i xs ++ (row ∷ drop i xs)
  gap_inserted = rw gap_same at (gap_at k 0 row xs i here).put

  pub gap_missing : rising k xs ≡ true → stands k row xs ≡ false
  gap_missing r = gap_missing_from k 0 row xs i (rising_true k xs r) here

-- a key stands where its place is taken
pub stands_spot : (k : ℕ) (row : Row) (xs : List Row) → rising k xs ≡ true → stands k row xs ≡ is_ok (spot k row xs)
stands_spot k row xs r = go (spot k row xs) refl
  where
    go : (s : Result ℕ ℕ) → spot k row xs ≡ s → stands k row xs ≡ is_ok s
    go (Ok i) e = at_stands k row xs i e
    go (Err i) e = gap_missing k row xs i e r
