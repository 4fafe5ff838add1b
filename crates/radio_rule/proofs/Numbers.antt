-- The tests of the numbers that are kept: what they show, and what passes them. Assumes nothing.
use mathlib.Core.Path.{◌≡◌, refl, sym, ap, subst, ◌∙◌}
use mathlib.Core.List.{List, [], ◌∷◌}
use mathlib.Core.Bool.{Bool, true, false, ◌&&◌}
use Prim.Native.Nat.{ℕ, zero, suc, ◌+◌, ◌<◌, ◌≤◌}
use native.Mathlib.Omega.{arith}
use lib.Dec.{eqb, ltb, leb}
use lib.ListN.{length, get_or, drop, replicate, drop_of_length-le}
use borrow.Author.Tests.{lt-ltb, le-ltb, le-leb, lt-leb, eq-eqb, ne_eqb, leb-true, ltb-true, ltb-false, eqb-true, eqb-false}
use Rattle.words.specs.Words.{whether◌then◌else◌}
use Rattle.words.proofs.Lists.{drop_step, and_left, and_right}
use Rattle.radio.specs.Room.{first_heard, last_heard}
use Rattle.radio_rule.specs.Testing.{stretch, zeros, turn, announced, come, line, head_length, rest_length, fault, fault_keeps, course_keeps, heard_keeps, numbers_keep}
use Rattle.radio_rule.proofs.Zeros.{zeros_true}

pub and_both : (p q : Bool) → p ≡ true → q ≡ true → (p && q) ≡ true
and_both p q h k = rw (h, k)

pub and_three : (p q r : Bool) → (p && q && r) ≡ true → (p ≡ true) × (q ≡ true) × (r ≡ true)
and_three p q r h = let k : (p && q) ≡ true = and_left (p && q) r h in (and_left p q k, and_right p q k, and_right (p && q) r h)

-- eleven numbers ----------------------------------------------------------------------------------------------------------------

-- n numbers from place i on
unfoldable numbers_from : ℕ → ℕ → List ℕ → List ℕ
numbers_from zero i ns = []
numbers_from (suc n) i ns = get_or ns i 0 ∷ numbers_from n (i + 1) ns

numbers_from_lem : (n i : ℕ) (ns : List ℕ) → length ns ≡ i + n → drop i ns ≡ numbers_from n i ns
unfolding numbers_from
numbers_from_lem zero i ns e = drop_of_length-le ns {i = i} (omega arith)
numbers_from_lem (suc n) i ns e = drop_step 0 ns i (omega arith) ∙ ap (λ (l : List ℕ). get_or ns i 0 ∷ l) (numbers_from_lem n (i + 1) ns (omega arith))

-- what holds of any eleven numbers holds of a list of that length
pub of_eleven : (P : List ℕ → Type 0) → ((a b c d e f g h i j k : ℕ) → P (a ∷ b ∷ c ∷ d ∷ e ∷ f ∷ g ∷ h ∷ i ∷ j ∷ k ∷ []))
    → (ns : List ℕ) → length ns ≡ 11 → P ns
unfolding numbers_from
of_eleven P p ns e = subst P (sym (numbers_from_lem 11 0 ns e)) (p _ _ _ _ _ _ _ _ _ _ _)

-- what the tests show ---------------------------------------------------------------------------------------------------------------

pub record Course (ns : List ℕ) : Type 0 where
  pub some : 1 ≤ line ns
  pub rest : rest_length ns ≤ 2049
  pub came : line ns + rest_length ns ≤ suc (come ns)
  pub head : head_length ns ≤ 2048
  pub first : (whether eqb (line ns) 1 then eqb (head_length ns) 0 else true) ≡ true

pub course : (ns : List ℕ) → course_keeps ns ≡ true → Course ns
course ns e =
    let a = leb 1 (line ns) in
    let b = leb (rest_length ns) 2049 in
    let c = leb (line ns + rest_length ns) (suc (come ns)) in
    let d = leb (head_length ns) 2048 in
    let f = whether eqb (line ns) 1 then eqb (head_length ns) 0 else true in
    let k = and_three (a && b && c) d f e in
    let l = and_three a b c k.0 in
    record { some = leb-true 1 (line ns) l.0; rest = leb-true (rest_length ns) 2049 l.1; came = leb-true (line ns + rest_length ns) (suc (come ns)) l.2; head = leb-true (head_length ns) 2048 k.1; first = k.2 }

pub record Heard (ns : List ℕ) : Type 0 where
  pub announced : leb (announced ns) 65537 ≡ true
  pub came : leb (come ns) 65537 ≡ true
  pub going : fault ns ≡ 0 → Course ns
  pub stopped : (fault ns ≡ 0 → ⊥) → zeros (stretch 3 6 ns) ≡ true

pub heard : (ns : List ℕ) → heard_keeps ns ≡ true → Heard ns
heard ns e =
    let f = whether eqb (fault ns) 0 then course_keeps ns else zeros (stretch 3 6 ns) in
    let k = and_three (leb (announced ns) 65537) (leb (come ns) 65537) f e in
    record { announced = k.0; came = k.1; going = λ z. course ns (rw (eq-eqb (fault ns) 0 z) at k.2); stopped = λ n. rw (ne_eqb (fault ns) 0 n) at k.2 }

pub record Numbers (ns : List ℕ) : Type 0 where
  pub turns : turn ns ≤ last_heard
  pub faults : fault_keeps ns ≡ true
  pub between : turn ns < first_heard → zeros (stretch 1 6 ns) ≡ true
  pub hears : first_heard ≤ turn ns → Heard ns

pub numbers : (ns : List ℕ) → numbers_keep ns ≡ true → Numbers ns
unfolding numbers_keep
numbers ns e =
    let f = whether ltb (turn ns) first_heard then zeros (stretch 1 6 ns) else heard_keeps ns in
    let k = and_three (leb (turn ns) last_heard) (fault_keeps ns) f e in
    record { turns = leb-true (turn ns) last_heard k.0; faults = k.1; between = λ h. rw (lt-ltb (turn ns) first_heard h) at k.2; hears = λ h. heard ns (rw (le-ltb (turn ns) first_heard h) at k.2) }

-- both lines have room, and there is a header line only where a table is heard
pub record Lengths (ns : List ℕ) : Type 0 where
  pub head : head_length ns ≤ 2048
  pub rest : rest_length ns ≤ 2049
  pub table : 1 < line ns → first_heard ≤ turn ns

pub lengths : (ns : List ℕ) → length ns ≡ 11 → numbers_keep ns ≡ true → Lengths ns
lengths ns l e = of_eleven (λ ms. Numbers ms → Lengths ms) all ns l (numbers ns e)
  where
    at : (i : ℕ) (xs ys : List ℕ) → xs ≡ ys → get_or xs i 0 ≡ get_or ys i 0
    at i xs ys p = ap (λ (x : List ℕ). get_or x i 0) p

    all : (a b c d f g h i j k m : ℕ) → Numbers (a ∷ b ∷ c ∷ d ∷ f ∷ g ∷ h ∷ i ∷ j ∷ k ∷ m ∷ []) → Lengths (a ∷ b ∷ c ∷ d ∷ f ∷ g ∷ h ∷ i ∷ j ∷ k ∷ m ∷ [])
    all a b c d f g h i j k m n = go (ltb a first_heard) refl (eqb h 0) refl
      where
        ms : List ℕ
        ms = a ∷ b ∷ c ∷ d ∷ f ∷ g ∷ h ∷ i ∷ j ∷ k ∷ m ∷ []

        go : (q : Bool) → ltb a first_heard ≡ q → (r : Bool) → eqb h 0 ≡ r → Lengths ms
        go true p r o =
            let z : (b ∷ c ∷ d ∷ f ∷ g ∷ []) ≡ replicate 5 0 = zeros_true (b ∷ c ∷ d ∷ f ∷ g ∷ []) 5 refl (n.between (ltb-true a first_heard p)) in
            let x : d ≡ 0 = at 2 (b ∷ c ∷ d ∷ f ∷ g ∷ []) (replicate 5 0) z in
            let y : f ≡ 0 = at 3 (b ∷ c ∷ d ∷ f ∷ g ∷ []) (replicate 5 0) z in
            let w : g ≡ 0 = at 4 (b ∷ c ∷ d ∷ f ∷ g ∷ []) (replicate 5 0) z in
            record { head = omega arith; rest = omega arith; table = λ s. absurd (omega arith) }
        go false p true o =
            let u : Course ms = (n.hears (ltb-false a first_heard p)).going (eqb-true h 0 o) in
            record { head = u.head; rest = u.rest; table = λ s. ltb-false a first_heard p }
        go false p false o =
            let z : (d ∷ f ∷ g ∷ []) ≡ replicate 3 0 = zeros_true (d ∷ f ∷ g ∷ []) 3 refl ((n.hears (ltb-false a first_heard p)).stopped (eqb-false h 0 o)) in
            let y : f ≡ 0 = at 1 (d ∷ f ∷ g ∷ []) (replicate 3 0) z in
            let w : g ≡ 0 = at 2 (d ∷ f ∷ g ∷ []) (replicate 3 0) z in
            record { head = omega arith; rest = omega arith; table = λ s. ltb-false a first_heard p }
