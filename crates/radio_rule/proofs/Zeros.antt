-- Zeros: in a slice, place by place; behind the lines that are kept; and in a book without rows. Assumes nothing.
use mathlib.Core.Path.{◌≡◌, refl, sym, ap, ◌∙◌}
use mathlib.Core.List.{List, [], ◌∷◌, ◌++◌, append_assoc}
use mathlib.Core.Bool.{Bool, true, false, ◌&&◌}
use Prim.Native.Nat.{ℕ, ◌+◌, ◌-◌, ◌<◌, ◌≤◌}
use native.Mathlib.Omega.{arith}
use lib.Dec.{eqb}
use lib.ListN.{length, get_or, take, drop, replicate, length-append, length-drop, length-replicate, take-append-drop, drop_of_length-le}
use lib.Seq.{length-take-le, take-append_seam, take_all, take-length, drop-append_seam, drop_at, drop-drop}
use borrow.Author.Tests.{eq-eqb, ne_eqb}
use Rattle.std.specs.List.{list_all}
use Rattle.words.specs.Words.{Bytes, Row, same}
use Rattle.words.proofs.Lists.{drop_step, same_refl, same_true, part_length}
use Rattle.rows.specs.Rows.{rising, column}
use Rattle.rows.specs.Room.{same_rows, used, filled}
use Rattle.rows.specs.Spots.{holds}
use Rattle.rows.proofs.Room.{same_rows_true, all_zero}
use Rattle.tables.specs.Parts.{book_rows}
use Rattle.book.specs.Book.{empty}
use Rattle.book.specs.Room.{laid}
use Rattle.book.proofs.Laying.{laid_empty}
use Rattle.radio.specs.Room.{padded}
use Rattle.radio_rule.specs.Testing.{stretch, zeros}

-- number by number, as the code tests them
pub all_zeros : (xs : List ℕ) → list_all (λ x. eqb x 0) xs ≡ zeros xs
unfolding zeros
all_zeros xs = all_zero xs (length xs) refl

pub zeros_true : (xs : List ℕ) (n : ℕ) → length xs ≡ n → zeros xs ≡ true → xs ≡ replicate n 0
unfolding zeros
zeros_true xs n l e = same_true xs (replicate (length xs) 0) e ∙ ap (λ (k : ℕ). replicate k 0) l

pub zeros_all : (n : ℕ) → zeros (replicate n 0) ≡ true
unfolding zeros
zeros_all n = ap (λ (k : ℕ). same (replicate n 0) (replicate k 0)) (length-replicate n 0) ∙ same_refl (replicate n 0)

-- behind the two lines, in rooms of h and r bytes ---------------------------------------------------------------------------------

zeros_long : (n : ℕ) → length (replicate {A = ℕ} n 0) ≡ n
zeros_long n = length-replicate n 0

padded_long : (n : ℕ) (s : Bytes) → length s ≤ n → length (padded n s) ≡ n
padded_long n s h = length-append s (replicate (n - length s) 0) ∙ omega (arith, zeros_long (n - length s))

module _ (h r : ℕ) (head rest : Bytes) where
  abbrev pub two : Bytes
  two = padded h head ++ padded r rest

  -- who has no more room than there is has no longer lines
  pub head_within : length two ≡ h + r → length head ≤ h
  head_within e =
      let k : length (padded h head) + length (padded r rest) ≡ h + r = sym (length-append (padded h head) (padded r rest)) ∙ e in
      let a : length (padded h head) ≡ length head + length (replicate {A = ℕ} (h - length head) 0) = length-append head (replicate (h - length head) 0) in
      let b : length (padded r rest) ≡ length rest + length (replicate {A = ℕ} (r - length rest) 0) = length-append rest (replicate (r - length rest) 0) in
      omega (arith, zeros_long (h - length head), zeros_long (r - length rest))

  module _ (short : length head ≤ h) where
    pub head_back : take (length head) two ≡ head
    head_back = ap (take (length head)) (append_assoc head (replicate (h - length head) 0) (padded r rest)) ∙ take-append_seam head (replicate (h - length head) 0 ++ padded r rest)

    pub head_zeros : zeros (stretch (length head) h two) ≡ true
    head_zeros =
        let z : Bytes = replicate (h - length head) 0 in
        let l : length z ≡ h - length head = length-replicate (h - length head) 0 in
        let e : drop (length head) two ≡ z ++ padded r rest = ap (drop (length head)) (append_assoc head z (padded r rest)) ∙ drop-append_seam head (z ++ padded r rest) in
        let f : stretch (length head) h two ≡ z = ap (take (h - length head)) e ∙ ap (λ (k : ℕ). take k (z ++ padded r rest)) (sym l) ∙ take-append_seam z (padded r rest) in
        ap zeros f ∙ zeros_all (h - length head)

    pub rest_zeros : length rest ≤ r → zeros (stretch (h + length rest) (h + r) two) ≡ true
    rest_zeros fits =
        let z : Bytes = replicate (r - length rest) 0 in
        let l : length z ≡ r - length rest = length-replicate (r - length rest) 0 in
        let m : (h + r) - (h + length rest) ≡ length z = omega arith in
        let e : drop (h + length rest) two ≡ z = sym (drop-drop (length rest) h two) ∙ ap (drop (length rest)) (drop_at (padded h head) (padded r rest) h (padded_long h head short)) ∙ drop-append_seam rest z in
        let f : stretch (h + length rest) (h + r) two ≡ z = ap (take ((h + r) - (h + length rest))) e ∙ ap (λ (k : ℕ). take k z) m ∙ take-length z in
        ap zeros f ∙ zeros_all (r - length rest)

-- and back: what has zeros there is two lines laid out
module _ (h r a b : ℕ) (l : Bytes) (long : length l ≡ h + r) (inHead : a ≤ h) (inRest : b ≤ r) where
  pub head_long : length (take a l) ≡ a
  head_long = length-take-le a l (omega arith)

  pub rest_long : length (take b (drop h l)) ≡ b
  rest_long = length-take-le b (drop h l) (omega (arith, length-drop h l))

  pub two_lines_lem : zeros (stretch a h l) ≡ true → zeros (stretch (h + b) (h + r) l) ≡ true → l ≡ two h r (take a l) (take b (drop h l))
  two_lines_lem e f =
      let p : stretch a h l ≡ replicate (h - a) 0 = zeros_true (stretch a h l) (h - a) (part_length l a h (omega arith)) e in
      let q : stretch (h + b) (h + r) l ≡ replicate (r - b) 0 = zeros_true (stretch (h + b) (h + r) l) (r - b) (part_length l (h + b) (h + r) (omega arith) ∙ omega arith) f in
      let d : length (drop (h + b) l) ≤ (h + r) - (h + b) = omega (arith, length-drop (h + b) l) in
      let u : drop b (drop h l) ≡ replicate (r - b) 0 = drop-drop b h l ∙ sym (take_all ((h + r) - (h + b)) (drop (h + b) l) d) ∙ q in
      let v : drop h l ≡ padded r (take b (drop h l)) =
      sym (take-append-drop b (drop h l)) ∙ ap (λ (x : Bytes). take b (drop h l) ++ x) (u ∙ ap (λ (k : ℕ). replicate (r - k) 0) (sym rest_long)) in
      let m : a + (h - a) ≡ h = omega arith in
      let w : drop a l ≡ replicate (h - a) 0 ++ drop h l =
      sym (take-append-drop (h - a) (drop a l)) ∙ ap (λ (x : Bytes). x ++ drop (h - a) (drop a l)) p ∙ ap (λ (x : Bytes). replicate (h - a) 0 ++ x) (drop-drop (h - a) a l ∙ ap (λ (k : ℕ). drop k l) m) in
      sym (take-append-drop a l) ∙ ap (λ (x : Bytes). take a l ++ x) w
      ∙ sym (append_assoc (take a l) (replicate (h - a) 0) (drop h l))
      ∙ ap (λ (k : ℕ). (take a l ++ replicate (h - k) 0) ++ drop h l) (sym head_long)
      ∙ ap (λ (x : Bytes). padded h (take a l) ++ x) v

-- a book without rows -----------------------------------------------------------------------------------------------------------

module _ (xs : List Row) (long : length xs ≡ book_rows) where
  pub no_rows : column 1 (get_or xs 0 []) ≡ 0 → holds 1 xs ≡ same_rows xs (laid empty)
  unfolding used rising
  no_rows e = go xs e ∙ ap (same_rows xs) (laid_empty (length xs) long)
    where
      go : (ys : List Row) → column 1 (get_or ys 0 []) ≡ 0 → holds 1 ys ≡ same_rows ys (filled (length ys) [])
      go [] f = refl
      go (y ∷ ys) f = rw (eq-eqb (column 1 y) 0 f)

  pub some_rows : (column 1 (get_or xs 0 []) ≡ 0 → ⊥) → same_rows xs (laid empty) ≡ false
  some_rows n = go (same_rows xs (laid empty)) refl
    where
      go : (b : Bool) → same_rows xs (laid empty) ≡ b → b ≡ false
      go true e = absurd (n (ap (λ (ys : List Row). column 1 (get_or ys 0 [])) (same_rows_true xs (laid empty) e)))
      go false e = refl
