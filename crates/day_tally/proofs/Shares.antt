-- The shares of a tally: what is added to one, and how one is found. Assumes nothing.
use mathlib.Core.Path.{◌≡◌, refl, sym, ap, ◌∙◌}
use mathlib.Core.List.{List, [], ◌∷◌, ◌++◌}
use mathlib.Core.Bool.{Bool, true, false}
use Prim.Native.Nat.{ℕ, zero, suc, ◌+◌, ◌≤◌, ◌<◌}
use native.Mathlib.Omega.{arith}
use native.Mathlib.Numerals.{add-one}
use native.Mathlib.Nat.{not-suc-le-zero}
use lib.Dec.{eqb, ltb}
use lib.ListN.{length, get_or, take, set}
use lib.Seq.{length-take-le, take-suc, take-suc-set, get_or-take, get_or-set_same, get_or-set_other}
use borrow.Author.Tests.{eqb-true, eqb-false, eq-eqb, ne_eqb, ltb-true, ltb-false}
use Rattle.words.specs.Words.{Row, whether◌then◌else◌}
use Rattle.rows.specs.Rows.{column}
use Rattle.day_tally.specs.Tally.{kind_at, seconds_at, held, shares, Rises}

-- seconds of a day type ---------------------------------------------------------------------------------------------------------------

module _ (kind : ℕ) where
  abbrev share : Row → ℕ
  share x = whether eqb kind (column 1 x) then column 2 x else 0

  held_behind : (xs : List Row) (x : Row) → held kind (xs ++ (x ∷ [])) ≡ held kind xs + share x
  unfolding held
  held_behind [] x = omega arith
  held_behind (y ∷ ys) x = omega (arith, held_behind ys x)

  pub held_last : (tally : List Row) (at : ℕ) → at < length tally → held kind (shares tally at) ≡ held kind (take at tally) + share (get_or tally at [])
  held_last tally at h = ap (held kind) (take-suc tally at [] h) ∙ held_behind (take at tally) (get_or tally at [])

  held_none : (xs : List Row) → ((j : ℕ) → j < length xs → kind_at xs j ≡ kind → ⊥) → held kind xs ≡ 0
  unfolding held
  held_none [] n = refl
  held_none (x ∷ xs) n =
      let e : eqb kind (column 1 x) ≡ false = ne_eqb kind (column 1 x) (λ q. n 0 (omega arith) (sym q)) in
      let rest : held kind xs ≡ 0 = held_none xs (λ j h q. n (suc j) (omega arith) q) in
      rw (e) (omega (arith, rest))

  held_at : (xs : List Row) (i : ℕ) → i < length xs → kind_at xs i ≡ kind → ((j : ℕ) → j < length xs → kind_at xs j ≡ kind → j ≡ i) → held kind xs ≡ seconds_at xs i
  unfolding held
  held_at [] i h e only = absurd (not-suc-le-zero h)
  held_at (x ∷ xs) zero h e only =
      let q : eqb kind (column 1 x) ≡ true = eq-eqb kind (column 1 x) (sym e) in
      let rest : held kind xs ≡ 0 = held_none xs (λ j l r. (let z : suc j ≡ 0 = only (suc j) (omega arith) r in omega arith)) in
      rw (q) (omega (arith, rest))
  held_at (x ∷ xs) (suc i) h e only =
      let q : eqb kind (column 1 x) ≡ false = ne_eqb kind (column 1 x) (λ r. (let z : 0 ≡ suc i = only 0 (omega arith) (sym r) in omega arith)) in
      let rest : held kind xs ≡ seconds_at xs i = held_at xs i (omega arith) e (λ j l r. (let z : suc j ≡ suc i = only (suc j) (omega arith) r in omega arith)) in
      rw (q) (omega (arith, rest))

-- seconds are added -------------------------------------------------------------------------------------------------------------------

module _ (tally : List Row) (at kind more : ℕ) where
  abbrev same : List Row
  same = set tally at (kind ∷ (seconds_at tally at + more) ∷ [])

  abbrev new : List Row
  new = set tally (at + 1) (kind ∷ more ∷ [])

  module _ (h : at < length tally) (e : kind_at tally at ≡ kind) where
    pub same_held : (k : ℕ) → held k (shares same at) ≡ held k (shares tally at) + (whether eqb k kind then more else 0)
    same_held k =
        ap (held k) (take-suc-set tally at (kind ∷ (seconds_at tally at + more) ∷ []) h)
        ∙ held_behind k (take at tally) (kind ∷ (seconds_at tally at + more) ∷ [])
        ∙ go (eqb k kind) (held_last k tally at h ∙ ap (λ (z : ℕ). held k (take at tally) + (whether eqb k z then seconds_at tally at else 0)) e)
      where
        go : (t : Bool) → held k (shares tally at) ≡ held k (take at tally) + (whether t then seconds_at tally at else 0)
            → held k (take at tally) + (whether t then seconds_at tally at + more else 0) ≡ held k (shares tally at) + (whether t then more else 0)
        go true q = omega arith
        go false q = omega arith

    pub same_kind : (p : ℕ) → kind_at same p ≡ kind_at tally p
    same_kind p = go (eqb p at) refl
      where
        go : (t : Bool) → eqb p at ≡ t → kind_at same p ≡ kind_at tally p
        go true q = let z : p ≡ at = eqb-true p at q in rw (z, get_or-set_same tally at (kind ∷ (seconds_at tally at + more) ∷ []) [] h) (sym e)
        go false q = ap (λ (r : Row). get_or r 0 0) (get_or-set_other tally at p (kind ∷ (seconds_at tally at + more) ∷ []) [] (eqb-false p at q))

    pub same_rises : Rises tally at → Rises same at
    same_rises r p q l m = rw (same_kind p, same_kind q) (r p q l m)

  module _ (h : at + 1 < length tally) where
    pub new_held : (k : ℕ) → held k (shares new (at + 1)) ≡ held k (shares tally at) + (whether eqb k kind then more else 0)
    new_held k =
        ap (held k) (take-suc-set tally (at + 1) (kind ∷ more ∷ []) h)
        ∙ held_behind k (take (at + 1) tally) (kind ∷ more ∷ [])
        ∙ ap (λ (n : ℕ). held k (take n tally) + (whether eqb k kind then more else 0)) (add-one at)

    pub new_kind : kind_at new (at + 1) ≡ kind
    new_kind = ap (λ (r : Row). get_or r 0 0) (get_or-set_same tally (at + 1) (kind ∷ more ∷ []) [] h)

    old_kind : (p : ℕ) → p ≤ at → kind_at new p ≡ kind_at tally p
    old_kind p l = ap (λ (r : Row). get_or r 0 0) (get_or-set_other tally (at + 1) p (kind ∷ more ∷ []) [] (λ z. omega arith))

    pub new_rises : kind_at tally at < kind → Rises tally at → Rises new (at + 1)
    new_rises b r p q l m = go (ltb at q) refl
      where
        up : (t : Bool) → ltb p at ≡ t → p ≤ at → kind_at tally p < kind
        up true e d = let z : kind_at tally p < kind_at tally at = r p at (ltb-true p at e) (omega arith) in omega arith
        up false e d = let z : at ≤ p = ltb-false p at e in let s : p ≡ at = omega arith in rw s b

        go : (t : Bool) → ltb at q ≡ t → kind_at new p < kind_at new q
        go true e =
            let z : at < q = ltb-true at q e in
            let s : q ≡ at + 1 = omega arith in
            let d : p ≤ at = omega arith in
            rw (s, new_kind, old_kind p d) (up (ltb p at) refl d)
        go false e =
            let z : q ≤ at = ltb-false at q e in
            let d : p ≤ at = omega arith in
            rw (old_kind p d, old_kind q z) (r p q l z)

-- a share is found ----------------------------------------------------------------------------------------------------------------------

-- the shares before place low are of lower day types, those from place high on of higher ones
pub record Between (tally : List Row) (at kind low high : ℕ) : Type 0 where
  pub reach : high ≤ at + 1
  pub below : (j : ℕ) → j < low → kind_at tally j < kind
  pub above : (j : ℕ) → high ≤ j → j ≤ at → kind < kind_at tally j

module _ (tally : List Row) (at kind : ℕ) (rises : Rises tally at) (h : at < length tally) where
  pub between_all : Between tally at kind 0 (at + 1)
  between_all = record { reach = omega arith; below = λ j l. absurd (not-suc-le-zero l); above = λ j l m. absurd (omega arith) }

  own_kind : (j : ℕ) → j ≤ at → kind_at (shares tally at) j ≡ kind_at tally j
  own_kind j l = ap (λ (r : Row). get_or r 0 0) (get_or-take (suc at) tally j [] (omega arith))

  long : length (shares tally at) ≡ suc at
  long = length-take-le (suc at) tally (omega arith)

  pub found_share : (i : ℕ) → i ≤ at → kind_at tally i ≡ kind → seconds_at tally i ≡ held kind (shares tally at)
  found_share i l e =
      let s : seconds_at (shares tally at) i ≡ seconds_at tally i = ap (λ (r : Row). get_or r 1 0) (get_or-take (suc at) tally i [] (omega arith)) in
      sym (held_at kind (shares tally at) i (omega (arith, long)) (own_kind i l ∙ e) only ∙ s)
    where
      apart : (j : ℕ) → j ≤ at → kind_at tally j ≡ kind → (a b : Bool) → ltb j i ≡ a → ltb i j ≡ b → j ≡ i
      apart j m q true b p r = let z : kind_at tally j < kind_at tally i = rises j i (ltb-true j i p) l in absurd (omega arith)
      apart j m q false true p r = let z : kind_at tally i < kind_at tally j = rises i j (ltb-true i j r) m in absurd (omega arith)
      apart j m q false false p r = omega (arith, ltb-false j i p, ltb-false i j r)

      only : (j : ℕ) → j < length (shares tally at) → kind_at (shares tally at) j ≡ kind → j ≡ i
      only j m q =
          let n : j ≤ at = omega (arith, long) in
          apart j n (sym (own_kind j n) ∙ q) (ltb j i) (ltb i j) refl refl

  module _ (low high : ℕ) (b : Between tally at kind low high) where
    pub between_up : (i : ℕ) → i < high → kind_at tally i < kind → Between tally at kind (i + 1) high
    between_up i l k = record {
      reach = b.reach;
      below = λ j m. up j (ltb j i) refl m;
      above = b.above;
    }
      where
        up : (j : ℕ) (t : Bool) → ltb j i ≡ t → j < i + 1 → kind_at tally j < kind
        up j true e m = let z : kind_at tally j < kind_at tally i = rises j i (ltb-true j i e) (omega (arith, b.reach)) in omega arith
        up j false e m = let z : i ≤ j = ltb-false j i e in let s : j ≡ i = omega arith in rw s k

    pub between_down : (i : ℕ) → i < high → (kind_at tally i ≡ kind → ⊥) → kind ≤ kind_at tally i → Between tally at kind low i
    between_down i l n k = record {
      reach = omega (arith, b.reach);
      below = b.below;
      above = λ j m d. down j (ltb i j) refl m d;
    }
      where
        down : (j : ℕ) (t : Bool) → ltb i j ≡ t → i ≤ j → j ≤ at → kind < kind_at tally j
        down j true e m d = let z : kind_at tally i < kind_at tally j = rises i j (ltb-true i j e) d in omega arith
        down j false e m d = let z : j ≤ i = ltb-false i j e in let s : j ≡ i = omega arith in rw s (omega (arith, n))

    pub no_share : high ≤ low → 0 ≡ held kind (shares tally at)
    no_share l = sym (held_none kind (shares tally at) none)
      where
        go : (j : ℕ) → j ≤ at → kind_at tally j ≡ kind → (t : Bool) → ltb j low ≡ t → ⊥
        go j m q true e = let z : kind_at tally j < kind = b.below j (ltb-true j low e) in omega arith
        go j m q false e = let n : low ≤ j = ltb-false j low e in let z : kind < kind_at tally j = b.above j (omega arith) m in omega arith

        none : (j : ℕ) → j < length (shares tally at) → kind_at (shares tally at) j ≡ kind → ⊥
        none j m q =
            let n : j ≤ at = omega (arith, long) in
            go j n (sym (own_kind j n) ∙ q) (ltb j low) refl
