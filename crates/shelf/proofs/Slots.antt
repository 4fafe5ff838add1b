-- The slots of a shelf on which nothing has moved, written one by one; and its rows laid out at the front of a list. Assumes nothing.
use mathlib.Core.Path.{◌≡◌, ap, refl, ◌∙◌}
use mathlib.Core.List.{List, [], ◌∷◌, ◌++◌, append-nil}
use Prim.Native.Nat.{ℕ, zero, suc, ◌+◌, ◌<◌, ◌≤◌, ◌-◌}
use native.Mathlib.Omega.{arith}
use native.Mathlib.Nat.{not-suc-le-zero, add-zero}
use native.Mathlib.Numerals.{add-one}
use lib.ListN.{length, drop, set, drop_of_length-le, take, replicate, length-drop, replicate-append-replicate}
use lib.Seq.{take_all, take_at, drop_at, drop-drop, length-take-le}
use Rattle.words.specs.Words.{Row}
use Rattle.rows.specs.Room.{zeros, filled, used}
use Rattle.rows.proofs.Room.{rest_zero, used_within}
use Rattle.shelf.specs.Shelf.{up_from}

numbered_suc : (a i : ℕ) (xs : List ℕ) → i < length xs → set (up_from a i ++ drop i xs) i (a + i) ≡ up_from a (suc i) ++ drop (suc i) xs
unfolding up_from
numbered_suc a i [] h = absurd (not-suc-le-zero h)
numbered_suc a zero (x ∷ xs) h = rw add-zero
numbered_suc a (suc i) (x ∷ xs) h =
    let e : a + suc i ≡ suc a + i = omega arith in
    rw e (ap (λ (l : List ℕ). a ∷ l) (numbered_suc (suc a) i xs (omega arith)))

pub numbered_start : (xs : List ℕ) → xs ≡ up_from 0 0 ++ xs
unfolding up_from
numbered_start xs = refl

pub numbered_set : (xs : List ℕ) (i : ℕ) → i < length xs → set (up_from 0 i ++ drop i xs) i i ≡ up_from 0 (i + 1) ++ drop (i + 1) xs
numbered_set xs i h = let e : 0 + i ≡ i = omega arith in rw add-one (rw e at (numbered_suc 0 i xs h))

pub numbered_all : (xs : List ℕ) (i : ℕ) → i ≡ length xs → up_from 0 i ++ drop i xs ≡ up_from 0 (length xs)
numbered_all xs i h = let l : length xs ≤ i = omega arith in rw (drop_of_length-le xs l, append-nil, h)

-- the rows of a shelf laid out over the first n of a list; the rows that the list had behind them are cleared, and behind these are zeros
module _ (xs room list : List Row) (n : ℕ) (long : length xs ≡ n) (h : n ≤ length room) (same : length list ≡ length room) (e : list ≡ take n xs ++ drop n room)
    (zeroed : room ≡ filled (length room) (used room)) where
  front : list ≡ xs ++ drop n room
  front = let l : length xs ≤ n = omega arith in rw take_all at e

  behind : (m : ℕ) → n ≤ m → drop (m - n) (drop n list) ≡ drop m room
  behind m l =
      let f : n + (m - n) ≡ m = omega arith in
      ap (λ (ys : List Row). drop (m - n) (drop n ys)) front ∙ ap (drop (m - n)) (drop_at xs (drop n room) n long) ∙ drop-drop (m - n) n room ∙ ap (λ (j : ℕ). drop j room) f

  pub laid_over : length (used room) ≤ n → list ≡ filled (length room) xs
  laid_over l =
      let f : length room - n ≡ length room - length xs = omega arith in
      front ∙ ap (λ (ys : List Row). xs ++ ys) (rest_zero room zeroed n l ∙ ap (λ (m : ℕ). replicate m zeros) f)

  -- the part that was lent to be cleared, and is back
  pub laid_cleared : (was : ℕ) → was ≡ length (used room) → n < was → (rest : List Row) → rest ≡ filled (length (take (was - n) (drop n list))) []
      → take n list ++ (rest ++ drop (was - n) (drop n list)) ≡ filled (length room) xs
  laid_cleared was w l rest r =
      let within : was ≤ length room = omega (arith, used_within room) in
      let d : length (drop n list) ≡ length list - n = length-drop n list in
      let k : length (take (was - n) (drop n list)) ≡ was - n = length-take-le (was - n) (drop n list) (omega arith) in
      let z : was - n - 0 ≡ was - n = omega arith in
      let rest' : rest ≡ replicate (was - n) zeros = r ∙ rw (k, z) in
      let c : take n list ≡ xs = ap (take n) front ∙ take_at xs (drop n room) n long in
      let b : drop (was - n) (drop n list) ≡ replicate (length room - was) zeros = behind was (omega arith) ∙ rest_zero room zeroed was (omega arith) in
      let s : was - n + (length room - was) ≡ length room - length xs = omega arith in
      rw (c, rest', b, replicate-append-replicate, s)
