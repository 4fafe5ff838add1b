-- Laws of the used rows of a slice, of the room behind them, and of the test that a slice holds a table. Assumes nothing.
use mathlib.Core.List.{List, [], ◌∷◌, ◌++◌}
use mathlib.Core.Path.{◌≡◌, refl, ap, ◌∙◌, sym}
use mathlib.Core.Bool.{Bool, true, false, ◌&&◌}
use Prim.Native.Nat.{◌≤◌, ℕ, zero, suc, ◌<◌, ◌+◌, ◌-◌}
use native.Mathlib.Omega.{arith}
use native.Mathlib.Nat.{not-suc-le-zero}
use lib.Dec.{eqb, ltb}
use lib.ListN.{length, drop, length-append, take, get_or, drop_of_length-le, replicate, length-replicate, get_or-replicate}
use lib.Seq.{get_or-append-add, drop-drop, drop_at, ext_get_or}
use borrow.Author.Tests.{eqb-false, ne_eqb, eq-eqb, ltb-false}
use Rattle.std.specs.List.{list_all, position_or_len, position}
use Rattle.std.specs.Prelude.{Option}
use Rattle.std.specs.Option.{unwrap_or}
use Rattle.words.specs.Words.{Row, same}
use Rattle.words.proofs.Lists.{drop_step, same_refl, same_true}
use Rattle.rows.specs.Rows.{column, rising}
use Rattle.rows.specs.Room.{used, zeros, filled, same_rows}
use Rattle.rows.specs.Spots.{Holds, holds, row_of}
use Rattle.rows.proofs.Keys.{Tri, lt, eq, gt, tri}

-- each row's VERSION is at least 1
unfoldable pub Versioned : List Row → Type 0
Versioned [] = Unit {0}
Versioned (x ∷ xs) = (1 ≤ column 1 x) × Versioned xs

-- the used rows are the first ones
pub used_versioned : (xs : List Row) → Versioned (used xs)
unfolding used Versioned
used_versioned [] = tt
used_versioned (x ∷ xs) = go (eqb (column 1 x) 0) refl (used_versioned xs)
  where
    go : (b : Bool) → eqb (column 1 x) 0 ≡ b → Versioned (used xs) → Versioned (used (x ∷ xs))
    go true e ih = rw e tt
    go false e ih = rw e ((let n : column 1 x ≡ 0 → ⊥ = eqb-false (column 1 x) 0 e in omega arith), ih)

pub used_front : (xs : List Row) → used xs ++ drop (length (used xs)) xs ≡ xs
unfolding used
used_front [] = refl
used_front (x ∷ xs) = go (eqb (column 1 x) 0) refl (used_front xs)
  where
    go : (b : Bool) → eqb (column 1 x) 0 ≡ b → used xs ++ drop (length (used xs)) xs ≡ xs
        → used (x ∷ xs) ++ drop (length (used (x ∷ xs))) (x ∷ xs) ≡ x ∷ xs
    go true e ih = rw e
    go false e ih = rw e (ap (λ (l : List Row). x ∷ l) ih)

pub used_within : (xs : List Row) → length (used xs) ≤ length xs
used_within xs = omega (arith, simp length-append at (ap length (used_front xs)))

pub used_take : (xs : List Row) → take (length (used xs)) xs ≡ used xs
unfolding used
used_take [] = refl
used_take (x ∷ xs) = go (eqb (column 1 x) 0) refl (used_take xs)
  where
    go : (b : Bool) → eqb (column 1 x) 0 ≡ b → take (length (used xs)) xs ≡ used xs → take (length (used (x ∷ xs))) (x ∷ xs) ≡ used (x ∷ xs)
    go true e ih = rw e
    go false e ih = rw e (ap (λ (l : List Row). x ∷ l) ih)

pub used_row : (xs : List Row) (i : ℕ) → i < length (used xs) → get_or (used xs) i [] ≡ get_or xs i []
unfolding used
used_row [] i h = refl
used_row (x ∷ xs) i h = go (eqb (column 1 x) 0) refl i h (used_row xs)
  where
    go : (b : Bool) → eqb (column 1 x) 0 ≡ b → (i : ℕ) → i < length (used (x ∷ xs))
        → ((i : ℕ) → i < length (used xs) → get_or (used xs) i [] ≡ get_or xs i []) → get_or (used (x ∷ xs)) i [] ≡ get_or (x ∷ xs) i []
    go true e i h ih = let h' : i < 0 = rw e at h in absurd (not-suc-le-zero h')
    go false e zero h ih = rw e
    go false e (suc i) h ih = rw e (ih i (let h' : suc i < suc (length (used xs)) = rw e at h in omega arith))

-- rows whose VERSION is at least 1
versioned_at : (xs : List Row) → Versioned xs → (i : ℕ) → i < length xs → 1 ≤ get_or (get_or xs i []) 0 0
unfolding Versioned
versioned_at [] v i h = absurd (not-suc-le-zero h)
versioned_at (x ∷ xs) v zero h = v.0
versioned_at (x ∷ xs) v (suc i) h = versioned_at xs v.1 i (omega arith)

pub used_number : (xs : List Row) (i : ℕ) → i < length (used xs) → 1 ≤ get_or (get_or xs i []) 0 0
used_number xs i h = rw (used_row xs i h) at (versioned_at (used xs) (used_versioned xs) i h)

pub used_filled : (n : ℕ) (xs : List Row) → Versioned xs → used (filled n xs) ≡ xs
unfolding used Versioned
used_filled n xs v = go xs v (n - length xs)
  where
    go : (xs : List Row) → Versioned xs → (m : ℕ) → used (xs ++ replicate m zeros) ≡ xs
    go [] v zero = refl
    go [] v (suc m) = refl
    go (x ∷ xs) v m = let n : column 1 x ≡ 0 → ⊥ = λ e. absurd (omega (arith, v.0)) in rw (ne_eqb _ _ n, go xs v.1 m)

pub length_filled : (n : ℕ) (xs : List Row) → length xs ≤ n → length (filled n xs) ≡ n
length_filled n xs h = simp (length-append, length-replicate) (omega arith)

-- behind the used rows
pub rest_number : (xs : List Row) → xs ≡ filled (length xs) (used xs) → (i : ℕ) → length (used xs) ≤ i → i < length xs → get_or (get_or xs i []) 0 0 ≡ 0
rest_number xs e i l h =
    let j = i - length (used xs) in
    let f : length (used xs) + j ≡ i = omega arith in
    let g : get_or (filled (length xs) (used xs)) (length (used xs) + j) [] ≡ zeros =
    get_or-append-add (used xs) _ j [] ∙ get_or-replicate (length xs - length (used xs)) j zeros [] (omega arith) in
    let z : get_or xs i [] ≡ zeros = ap (λ (l : List Row). get_or l i []) e ∙ rw f at g in
    rw z

drop_copies : {A : Type 0} (z : A) (k m : ℕ) → drop k (replicate m z) ≡ replicate (m - k) z
drop_copies z zero m = let e : m - 0 ≡ m = omega arith in rw e
drop_copies z (suc k) zero = let e : 0 - suc k ≡ 0 = omega arith in rw e
drop_copies z (suc k) (suc m) = let e : suc m - suc k ≡ m - k = omega arith in rw e (drop_copies z k m)

-- from any place behind the used rows on
pub rest_zero : (xs : List Row) → xs ≡ filled (length xs) (used xs) → (i : ℕ) → length (used xs) ≤ i → drop i xs ≡ replicate (length xs - i) zeros
rest_zero xs e i h =
    let u = used xs in
    let m = length xs - length u in
    let k = i - length u in
    let f : i ≡ length u + k = omega arith in
    let g : m - k ≡ length xs - i = omega arith in
    ap (drop i) e
    ∙ ap (λ (j : ℕ). drop j (u ++ replicate m zeros)) f
    ∙ sym (drop-drop k (length u) (u ++ replicate m zeros))
    ∙ ap (drop k) (drop_at u (replicate m zeros) (length u) refl)
    ∙ drop_copies zeros k m
    ∙ ap (λ (j : ℕ). replicate j zeros) g

-- whether a row is used tells on which side of it the used rows end
pub used_goes_on : (xs : List Row) → xs ≡ filled (length xs) (used xs) → (i : ℕ) → i < length xs → (get_or (get_or xs i []) 0 0 ≡ 0 → ⊥) → i < length (used xs)
used_goes_on xs e i h n = go (tri i (length (used xs)))
  where
    go : Tri i (length (used xs)) → i < length (used xs)
    go (lt l) = l
    go (eq l) = absurd (n (rest_number xs e i (omega arith) h))
    go (gt l) = absurd (n (rest_number xs e i (omega arith) h))

pub used_stops : (xs : List Row) (i : ℕ) → get_or (get_or xs i []) 0 0 ≡ 0 → length (used xs) ≤ i
used_stops xs i z = go (tri i (length (used xs)))
  where
    go : Tri i (length (used xs)) → length (used xs) ≤ i
    go (lt l) = absurd (omega (arith, used_number xs i l))
    go (eq l) = omega arith
    go (gt l) = omega arith

-- a slice that holds a table
pub holds_filled : (k n : ℕ) (xs : List Row) → rising k xs ≡ true → Versioned xs → length xs ≤ n → Holds k (filled n xs)
holds_filled k n xs r v h =
    let u : used (filled n xs) ≡ xs = used_filled n xs v in
    let l : length (filled n xs) ≡ n = length_filled n xs h in
    record { rises = rw u r; rest = rw (u, l) }

-- the test of it
pub same_rows_refl : (xs : List Row) → same_rows xs xs ≡ true
unfolding same_rows
same_rows_refl [] = refl
same_rows_refl (x ∷ xs) = rw (same_refl x, same_rows_refl xs)

pub same_rows_true : (xs ys : List Row) → same_rows xs ys ≡ true → xs ≡ ys
unfolding same_rows
same_rows_true [] [] e = refl
same_rows_true [] (y ∷ ys) e = cc
same_rows_true (x ∷ xs) [] e = cc
same_rows_true (x ∷ xs) (y ∷ ys) e = go (same x y) refl e (same_rows_true xs ys)
  where
    go : (t : Bool) → same x y ≡ t → (t && same_rows xs ys) ≡ true → (same_rows xs ys ≡ true → xs ≡ ys) → x ∷ xs ≡ y ∷ ys
    go true q h ih = rw (same_true x y q, ih h)
    go false q h ih = cc

pub same_rows_front : (us xs ys : List Row) → same_rows (us ++ xs) (us ++ ys) ≡ same_rows xs ys
unfolding same_rows
same_rows_front [] xs ys = refl
same_rows_front (u ∷ us) xs ys = rw (same_refl u, same_rows_front us xs ys)

pub holds_true : (k : ℕ) (xs : List Row) → holds k xs ≡ true → Holds k xs
holds_true k xs e = go (rising k (used xs)) refl e
  where
    go : (b : Bool) → rising k (used xs) ≡ b → (b && same_rows xs (filled (length xs) (used xs))) ≡ true → Holds k xs
    go true f g = record { rises = f; rest = same_rows_true xs _ g }
    go false f g = let z : ◌≡◌ {A = ℕ} 0 1 = cc in absurd (omega arith)

pub true_holds : (k : ℕ) (xs : List Row) → Holds k xs → holds k xs ≡ true
true_holds k xs h =
    let e : same_rows xs (filled (length xs) (used xs)) ≡ true = ap (same_rows xs) (sym h.rest) ∙ same_rows_refl xs in
    rw (h.rises, e)

-- the test, as the code makes it: the used rows rise, and every row behind them is zero
abbrev pub blank_from : ℕ → List Row → Bool
blank_from i xs = same_rows (drop i xs) (replicate (length xs - i) zeros)

holds_parts : (k n : ℕ) (xs : List Row) → n ≡ length (used xs) → holds k xs ≡ (rising k (take n xs) && blank_from n xs)
holds_parts k n xs e =
    let f : same_rows xs (filled (length xs) (used xs)) ≡ blank_from (length (used xs)) xs =
    ap (λ (l : List Row). same_rows l (filled (length xs) (used xs))) (sym (used_front xs))
    ∙ same_rows_front (used xs) (drop (length (used xs)) xs) (replicate (length xs - length (used xs)) zeros) in
    rw (e, used_take xs) (ap (λ (b : Bool). rising k (used xs) && b) f)

pub holds_on : (k n : ℕ) (xs : List Row) → n ≡ length (used xs) → rising k (take n xs) ≡ true → holds k xs ≡ blank_from n xs
holds_on k n xs e r = holds_parts k n xs e ∙ rw r

pub holds_not : (k n : ℕ) (xs : List Row) → n ≡ length (used xs) → rising k (take n xs) ≡ false → holds k xs ≡ false
holds_not k n xs e r = holds_parts k n xs e ∙ rw r

-- whether the numbers of a row are zeros, and the rows of a list, one by one
pub all_zero : (row : Row) (n : ℕ) → length row ≡ n → list_all (λ x. eqb x 0) row ≡ same row (replicate n 0)
unfolding same
all_zero [] zero l = refl
all_zero [] (suc n) l = absurd (omega arith)
all_zero (x ∷ row) zero l = absurd (omega arith)
all_zero (x ∷ row) (suc n) l = ap (λ (b : Bool). eqb x 0 && b) (all_zero row n (omega arith))

pub all_blank : (xs : List Row) (m : ℕ) → length xs ≡ m → list_all (λ row. same row zeros) xs ≡ same_rows xs (replicate m zeros)
unfolding same_rows
all_blank [] zero l = refl
all_blank [] (suc m) l = absurd (omega arith)
all_blank (x ∷ xs) zero l = absurd (omega arith)
all_blank (x ∷ xs) (suc m) l = ap (λ (b : Bool). same x zeros && b) (all_blank xs m (omega arith))

-- the place of the first row that is not used
pub first_unused : (xs : List Row) → position_or_len (λ row. eqb (column 1 row) 0) xs ≡ length (used xs)
unfolding used
first_unused [] = refl
first_unused (x ∷ xs) = go (eqb (column 1 x) 0) refl (first_unused xs)
  where
    go : (b : Bool) → eqb (column 1 x) 0 ≡ b → position_or_len (λ row. eqb (column 1 row) 0) xs ≡ length (used xs)
        → position_or_len (λ row. eqb (column 1 row) 0) (x ∷ xs) ≡ length (used (x ∷ xs))
    go true e ih = rw e
    go false e ih = rw e (omega arith)

pub first_place : (xs : List Row) (r : Option ℕ) → r ≡ position (λ row. eqb (column 1 row) 0) xs → unwrap_or r (length xs) ≡ length (used xs)
first_place xs r e = go (ltb (position_or_len (λ row. eqb (column 1 row) 0) xs) (length xs)) refl
  where
    go : (b : Bool) → ltb (position_or_len (λ row. eqb (column 1 row) 0) xs) (length xs) ≡ b → unwrap_or r (length xs) ≡ length (used xs)
    go true f = rw (e, f) (first_unused xs)
    go false f = rw (e, f) (omega (arith, first_unused xs, used_within xs, ltb-false _ _ f))

-- a row that is none of zeros is its own
pub row_of_row : (row : Row) → 1 ≤ column 1 row → row_of row ≡ row
row_of_row [] h = absurd (not-suc-le-zero h)
row_of_row (x ∷ xs) h = refl
