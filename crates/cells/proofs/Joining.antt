-- Cells put together, each with what ends it. Assumes nothing.
use mathlib.Core.Path.{◌≡◌, refl, ap, sym, ◌∙◌}
use mathlib.Core.List.{List, [], ◌∷◌, ◌++◌, append_assoc, map, map-append}
use Prim.Native.Nat.{ℕ, suc, ◌+◌, ◌*◌, ◌≤◌, ◌<◌}
use native.Mathlib.Numerals.{add-one}
use native.Mathlib.Omega.{arith}
use lib.ListN.{length, take, drop, get_or, length-append, take-append-drop}
use lib.Seq.{take-suc, take_all, take-take}
use Rattle.words.specs.Words.{Bytes}
use Rattle.words.proofs.Lists.{ended}
use Rattle.cells.specs.Cells.{parted}

ended_append : (sep : ℕ) (cs ds : List Bytes) → ended sep (cs ++ ds) ≡ ended sep cs ++ ended sep ds
unfolding ended
ended_append sep [] ds = refl
ended_append sep (c ∷ cs) ds = rw (ended_append sep cs ds, append_assoc)

-- cells that are parted: the last has nothing behind it
parted_last : (sep : ℕ) (cs : List Bytes) (c : Bytes) → parted sep (cs ++ (c ∷ [])) ≡ ended sep cs ++ c
unfolding parted ended
parted_last sep [] c = refl
parted_last sep (b ∷ []) c = rw append_assoc
parted_last sep (b ∷ (e ∷ es)) c = ap (λ (l : Bytes). b ++ (sep ∷ l)) (parted_last sep (e ∷ es) c) ∙ sym (append_assoc b (sep ∷ ended sep (e ∷ es)) c)

-- the cells that are made of the first of a list: of a row's numbers, of rows, of columns
module _ {A : Type 0} (cell : A → Bytes) (d : A) (sep : ℕ) where
  -- one more
  pub ended_more : (xs : List A) (i : ℕ) → i < length xs → ended sep (map cell (take (i + 1) xs)) ≡ ended sep (map cell (take i xs)) ++ (cell (get_or xs i d) ++ (sep ∷ []))
  unfolding ended
  ended_more xs i h = rw (add-one, take-suc xs i d h, map-append, ended_append)

  pub ended_more_length : (xs : List A) (i : ℕ) → i < length xs → length (ended sep (map cell (take (i + 1) xs))) ≡ length (ended sep (map cell (take i xs))) + (length (cell (get_or xs i d)) + 1)
  ended_more_length xs i h = rw (ended_more xs i h) (simp length-append)

  ended_part : (xs : List A) (i n : ℕ) → i ≤ n → length (ended sep (map cell (take i xs))) ≤ length (ended sep (map cell (take n xs)))
  ended_part xs i n h =
      let e : take i xs ++ drop i (take n xs) ≡ take n xs = ap (λ (l : List A). l ++ drop i (take n xs)) (sym (take-take i n xs h)) ∙ take-append-drop i (take n xs) in
      omega (arith, simp (map-append, ended_append, length-append) at (ap (λ (l : List A). length (ended sep (map cell l))) e))

  -- where all have room there is room for the one at i
  pub ended_room : (xs : List A) (i n : ℕ) → i < n → n ≤ length xs → length (ended sep (map cell (take i xs))) + (length (cell (get_or xs i d)) + 1) ≤ length (ended sep (map cell (take n xs)))
  ended_room xs i n h l = omega (arith, ended_more_length xs i (omega arith), ended_part xs (i + 1) n (omega arith))

  -- one law for every width
  pub ended_short : (w : ℕ) (xs : List A) → ((i : ℕ) → i < length xs → length (cell (get_or xs i d)) ≤ w) → length (ended sep (map cell xs)) ≤ length xs * suc w
  unfolding ended
  ended_short w [] f = omega arith
  ended_short w (x ∷ xs) f = simp length-append (omega (arith, f 0 (omega arith), ended_short w xs (λ i h. f (suc i) (omega arith))))

  -- all but the last, each with the byte behind it, and the last with another: these are the parted ones, and a byte
  pub parted_closed : (end : ℕ) (xs : List A) (n : ℕ) → length xs ≡ n + 1 → ended sep (map cell (take n xs)) ++ (cell (get_or xs n d) ++ (end ∷ [])) ≡ parted sep (map cell xs) ++ (end ∷ [])
  parted_closed end xs n h =
      let all : xs ≡ take n xs ++ (get_or xs n d ∷ []) = sym (take_all (suc n) xs (omega arith)) ∙ take-suc xs n d (omega arith) in
      sym (append_assoc (ended sep (map cell (take n xs))) (cell (get_or xs n d)) (end ∷ []))
      ∙ ap (λ (l : Bytes). l ++ (end ∷ []))
      (sym (parted_last sep (map cell (take n xs)) (cell (get_or xs n d)))
      ∙ ap (λ (l : List Bytes). parted sep l) (sym (map-append cell (take n xs) (get_or xs n d ∷ [])) ∙ ap (λ (l : List A). map cell l) (sym all)))

  pub parted_length : (xs : List A) (n : ℕ) → length xs ≡ n + 1 → length (ended sep (map cell (take (n + 1) xs))) ≡ length (parted sep (map cell xs)) + 1
  parted_length xs n h =
      let e : length (ended sep (map cell (take n xs))) + (length (cell (get_or xs n d)) + 1) ≡ length (parted sep (map cell xs)) + 1 = simp length-append at (ap length (parted_closed 0 xs n h)) in
      ended_more_length xs n (omega arith) ∙ e
