-- Laws on lists that more than one crate cites. Assumes nothing.
use mathlib.Core.Path.{◌≡◌, refl, ap, ◌∙◌}
use mathlib.Core.List.{List, ◌∷◌, [], ◌++◌, append-nil, append_assoc, map, map-append}
use mathlib.Core.Bool.{true, Bool, false, ◌&&◌}
use Prim.Native.Nat.{ℕ, ◌+◌, ◌<◌, suc, zero, ◌-◌, ◌≤◌}
use native.Mathlib.Numerals.{add-one}
use native.Mathlib.Omega.{arith}
use lib.ListN.{length, drop, get_or, take, replicate, set, length-replicate, drop_of_length-le, length-map, length-take, length-drop}
use lib.Seq.{drop-cons, set_at, take-suc, length-take-le, take_all}
use lib.Dec.{eqb}
use borrow.Author.Tests.{eq-eqb, eqb-true, ne_eqb}
use Rattle.words.specs.Words.{same, Bytes}

-- one step along a list
pub drop_step : {A : Type 0} (d : A) (s : List A) (i : ℕ) → i < length s → drop i s ≡ get_or s i d ∷ drop (i + 1) s
drop_step d s i h = rw (add-one, drop-cons s i d)

-- where two lists meet
pub take_seam : {A : Type 0} (c r : List A) → take (length c) (c ++ r) ≡ c
take_seam [] r = refl
take_seam (x ∷ xs) r = ap (λ (l : List _). x ∷ l) (take_seam xs r)

-- `same` is equality
pub same_refl : (xs : List ℕ) → same xs xs ≡ true
unfolding same
same_refl [] = refl
same_refl (x ∷ xs) = rw (eq-eqb x x refl, same_refl xs)

pub same_true : (xs ys : List ℕ) → same xs ys ≡ true → xs ≡ ys
unfolding same
same_true [] [] e = refl
same_true [] (y ∷ ys) e = cc
same_true (x ∷ xs) [] e = cc
same_true (x ∷ xs) (y ∷ ys) e = go (eqb x y) refl e (same_true xs ys)
  where
    go : (t : Bool) → eqb x y ≡ t → (t && same xs ys) ≡ true → (same xs ys ≡ true → xs ≡ ys) → x ∷ xs ≡ y ∷ ys
    go true q h ih = rw (eqb-true x y q, ih h)
    go false q h ih = cc

-- of two tests
pub and_left : (a b : Bool) → (a && b) ≡ true → a ≡ true
and_left true b e = refl
and_left false b e = cc

pub and_right : (a b : Bool) → (a && b) ≡ true → b ≡ true
and_right true b e = e
and_right false b e = cc

-- `same` along two lists
and_false : (b : Bool) → (b && false) ≡ false
and_false true = refl
and_false false = refl

pub same_length : (a b : List ℕ) → (length a ≡ length b → ⊥) → same a b ≡ false
unfolding same
same_length [] [] h = absurd (h refl)
same_length [] (y ∷ b) h = refl
same_length (x ∷ a) [] h = refl
same_length (x ∷ a) (y ∷ b) h = rw (same_length a b (λ e. h (ap suc e)), and_false)

pub same_step : (a b : List ℕ) (i : ℕ) → i < length a → i < length b → get_or a i 0 ≡ get_or b i 0 → same (drop i a) (drop i b) ≡ same (drop (i + 1) a) (drop (i + 1) b)
unfolding same
same_step a b i ha hb e = rw (drop_step 0 a i ha, drop_step 0 b i hb, eq-eqb (get_or a i 0) (get_or b i 0) e)

pub differ_step : (a b : List ℕ) (i : ℕ) → i < length a → i < length b → (get_or a i 0 ≡ get_or b i 0 → ⊥) → same (drop i a) (drop i b) ≡ false
unfolding same
differ_step a b i ha hb e = rw (drop_step 0 a i ha, drop_step 0 b i hb, ne_eqb (get_or a i 0) (get_or b i 0) e)

-- a test that is passed by each element of a list is passed by the one at any place
abbrev pub every : {A : Type 0} → (A → Bool) → List A → Bool
every f [] = true
every f (x ∷ xs) = f x && every f xs

pub every_at : {A : Type 0} (f : A → Bool) (d : A) (xs : List A) → f d ≡ true → every f xs ≡ true → (i : ℕ) → f (get_or xs i d) ≡ true
every_at f d [] h e i = h
every_at f d (x ∷ xs) h e zero = and_left (f x) (every f xs) e
every_at f d (x ∷ xs) h e (suc i) = every_at f d xs h (and_right (f x) (every f xs) e) i

-- a list that is overwritten from its front: by one element, and from another list
replicate_snoc : {A : Type 0} (z : A) (i : ℕ) (ys : List A) → replicate i z ++ (z ∷ ys) ≡ z ∷ (replicate i z ++ ys)
replicate_snoc z zero ys = refl
replicate_snoc z (suc i) ys = ap (λ (l : List _). z ∷ l) (replicate_snoc z i ys)

pub replicate_set : {A : Type 0} (z : A) (xs : List A) (i : ℕ) → i < length xs
    → set (replicate i z ++ drop i xs) i z ≡ replicate (i + 1) z ++ drop (i + 1) xs
replicate_set z xs i h =
    rw (drop_step z xs i h, set_at (replicate i z) (get_or xs i z) (drop (i + 1) xs) z i (length-replicate i z), replicate_snoc z i (drop (i + 1) xs), add-one)

pub replicate_all : {A : Type 0} (z : A) (xs : List A) (i : ℕ) → i ≡ length xs → replicate i z ++ drop i xs ≡ replicate (length xs - 0) z
replicate_all z xs i h =
    let e : length xs - 0 ≡ i = omega arith in
    let g : length xs ≤ i = omega arith in
    rw (drop_of_length-le xs g, append-nil, e)

pub take_set : {A : Type 0} (d : A) (xs ys : List A) (i : ℕ) → i < length xs → i < length ys
    → set (take i xs ++ drop i ys) i (get_or xs i d) ≡ take (i + 1) xs ++ drop (i + 1) ys
take_set d xs ys i h g =
    let l : i ≤ length xs = omega arith in
    rw (drop_step d ys i g, set_at (take i xs) (get_or ys i d) (drop (i + 1) ys) (get_or xs i d) i (length-take-le i xs l), add-one, take-suc xs i d h, append_assoc)

pub take_over : {A : Type 0} (xs ys : List A) (i : ℕ) → i ≡ length xs → length xs ≡ length ys → take i xs ++ drop i ys ≡ xs
take_over xs ys i h l =
    let g : length ys ≤ i = omega arith in
    let f : length xs ≤ i = omega arith in
    rw (drop_of_length-le ys g, append-nil, take_all i xs f)

-- a list whose front is filled with the values of a function, one by one
pub map_set : {A B : Type 0} (f : A → B) (a : A) (z : B) (xs : List A) (m i : ℕ) → i < length xs → i < m
    → set (map f (take i xs) ++ replicate (m - i) z) i (f (get_or xs i a)) ≡ map f (take (i + 1) xs) ++ replicate (m - (i + 1)) z
map_set f a z xs m i h g =
    let l : i ≤ length xs = omega arith in
    let e : m - i ≡ suc (m - (i + 1)) = omega arith in
    let s : length (map f (take i xs)) ≡ i = length-map (take i xs) f ∙ length-take-le i xs l in
    rw (e, set_at (map f (take i xs)) z (replicate (m - (i + 1)) z) (f (get_or xs i a)) i s, add-one i, take-suc xs i a h, map-append f (take i xs) (get_or xs i a ∷ []), append_assoc)

-- cells, each with a byte behind it ----------------------------------------------------------------------------------------

unfoldable pub ended : ℕ → List Bytes → Bytes
ended sep [] = []
ended sep (c ∷ cs) = c ++ (sep ∷ ended sep cs)

-- zeros behind the numbers: past their end a list reads as 0 too
get_d_zeros : (n i : ℕ) → ◌≡◌ {A = ℕ} (get_or (replicate n 0) i 0) 0
get_d_zeros zero i = refl
get_d_zeros (suc n) zero = refl
get_d_zeros (suc n) (suc i) = get_d_zeros n i

pub get_d_padded : (xs : List ℕ) (n i : ℕ) → get_or (xs ++ replicate n 0) i 0 ≡ get_or xs i 0
get_d_padded [] n i = get_d_zeros n i
get_d_padded (x ∷ xs) n zero = refl
get_d_padded (x ∷ xs) n (suc i) = get_d_padded xs n i

pub part_length : (s : Bytes) (a e : ℕ) → e ≤ length s → length (take (e - a) (drop a s)) ≡ e - a
part_length s a e l = simp (length-take, length-drop) (omega arith)
