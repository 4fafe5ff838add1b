-- Lists whose elements move one on or one back. Assumes nothing.
use mathlib.Core.List.{List, ◌++◌, ◌∷◌, append_assoc}
use mathlib.Core.Path.{◌≡◌, sym, ap, ◌∙◌}
use Prim.Native.Nat.{ℕ, suc, ◌-◌, zero, ◌≤◌, ◌<◌, ◌+◌}
use native.Mathlib.Omega.{arith}
use native.Mathlib.Nat.{not-suc-le-zero, add-zero, add-suc}
use native.Mathlib.Numerals.{add-one}
use lib.ListN.{take, drop, length, get_or, set, take-append-drop, length-take, get_or-append, length-drop, length-append}
use lib.Seq.{take-suc, drop-cons, set_at, length-take-le, get_or-take, get_or-append-add, get_or-drop}

-- a list that is opened from i up to n: its elements i .. n one further on, and element i still in its place
abbrev pub opened : {A : Type 0} → List A → ℕ → ℕ → List A
opened xs n i = take (suc i) xs ++ (take (n - i) (drop i xs) ++ drop (suc n) xs)

module _ {A : Type 0} (d : A) (xs : List A) (n : ℕ) (room : n < length xs) where
  pub opened_start : xs ≡ opened xs n n
  opened_start =
      let e : n - n ≡ 0 = omega arith in
      rw e (sym (take-append-drop (suc n) xs))

  -- element i is overwritten
  pub opened_set : (i : ℕ) (v : A) → i ≤ n → set (opened xs n i) i v ≡ take i xs ++ (v ∷ (take (n - i) (drop i xs) ++ drop (suc n) xs))
  opened_set i v h =
      let l : i < length xs = omega arith in
      let l' : i ≤ length xs = omega arith in
      rw (take-suc xs i d, append_assoc) (set_at (take i xs) _ _ v i (length-take-le i xs l'))

  opened_get : (i : ℕ) → suc i ≤ n → get_or (opened xs n (suc i)) i d ≡ get_or xs i d
  opened_get i h =
      let l : i < length (take (suc (suc i)) xs) = rw length-take (omega arith) in
      let m : i < suc (suc i) = omega arith in
      rw (get_or-append, get_or-take)

  opened_suc : (i : ℕ) → suc i ≤ n → set (opened xs n (suc i)) (suc i) (get_or (opened xs n (suc i)) i d) ≡ opened xs n i
  opened_suc i h =
      let l : i < length xs = omega arith in
      let e : n - i ≡ suc (n - suc i) = omega arith in
      ap (λ (v : A). set (opened xs n (suc i)) (suc i) v) (opened_get i h) ∙ opened_set (suc i) (get_or xs i d) h ∙ rw (e, drop-cons xs i d)

  pub opened_next : (i : ℕ) → 0 < i → i ≤ n → set (opened xs n i) i (get_or (opened xs n i) (i - 1) d) ≡ opened xs n (i - 1)
  opened_next zero p h = absurd (not-suc-le-zero p)
  opened_next (suc i) p h =
      let e : suc i - 1 ≡ i = omega arith in
      rw e (opened_suc i h)

-- a list that is closed at an element: the m elements after it one back
abbrev pub closed : {A : Type 0} → List A → ℕ → ℕ → List A
closed xs at m = take at xs ++ (take m (drop (suc at) xs) ++ drop (at + m) xs)

get_d_after : {A : Type 0} (d : A) (p : List A) (y : A) (z : List A) (n : ℕ) → length p ≡ n → get_or (p ++ (y ∷ z)) (suc n) d ≡ get_or z 0 d
get_d_after d p y z n e = rw (← e, ← add-one (length p)) (get_or-append-add p (y ∷ z) 1 d)

module _ {A : Type 0} (d : A) (xs : List A) (at : ℕ) where
  pub closed_start : xs ≡ closed xs at 0
  closed_start = rw add-zero (sym (take-append-drop at xs))

  module _ (m : ℕ) (h : at + m < length xs) where
    closed_split : closed xs at m ≡ (take at xs ++ take m (drop (suc at) xs)) ++ (get_or xs (at + m) d ∷ drop (suc (at + m)) xs)
    closed_split = rw (drop-cons xs (at + m) d, append_assoc)

    closed_length : length (take at xs ++ take m (drop (suc at) xs)) ≡ at + m
    closed_length = simp (length-append, length-take, length-drop) (omega arith)

    -- element at + m is overwritten
    pub closed_set : (v : A) → set (closed xs at m) (at + m) v ≡ take at xs ++ (take m (drop (suc at) xs) ++ (v ∷ drop (suc (at + m)) xs))
    closed_set v = let e = closed_length in rw (closed_split, set_at, append_assoc)

    closed_get : get_or (closed xs at m) (suc (at + m)) d ≡ get_or xs (suc (at + m)) d
    closed_get = let e = closed_length in rw (closed_split, get_d_after, get_or-drop, add-zero)

  pub closed_next : (m : ℕ) → suc (at + m) < length xs
      → set (closed xs at m) (at + m) (get_or (closed xs at m) (suc (at + m)) d) ≡ closed xs at (suc m)
  closed_next m h =
      let h' : at + m < length xs = omega arith in
      let l : m < length (drop (suc at) xs) = rw length-drop (omega arith) in
      let e : suc at + m ≡ suc (at + m) = omega arith in
      ap (λ (v : A). set (closed xs at m) (at + m) v) (closed_get m h') ∙ closed_set m h' _
      ∙ rw (take-suc (drop (suc at) xs) m d l, get_or-drop, append_assoc, add-suc, e)

-- what the code leaves: an element put at place i among the first n, and the element at place i taken out of them
abbrev pub put_in : {A : Type 0} → ℕ → ℕ → A → List A → List A
put_in n i v xs = take i xs ++ (v ∷ (take (n - i) (drop i xs) ++ drop (suc n) xs))

abbrev pub taken_out : {A : Type 0} → ℕ → ℕ → A → List A → List A
taken_out n i v xs = take i xs ++ (take (n - suc i) (drop (suc i) xs) ++ (v ∷ drop n xs))
