-- Laws of the order of keys: number by number, turned round, passed on. Assumes nothing.
use mathlib.Core.Path.{◌≡◌, refl, sym, ◌∙◌, ap}
use mathlib.Core.Bool.{Bool, true, false}
use Prim.Native.Nat.{ℕ, ◌<◌, suc, ◌≤◌, ◌+◌, ◌-◌, zero}
use native.Mathlib.Omega.{arith}
use native.Mathlib.Numerals.{add-one}
use native.Mathlib.Nat.{not-suc-le-zero}
use lib.Dec.{ltb}
use lib.ListN.{get_or, length, get_or-eq_default}
use borrow.Author.Tests.{ltb-true, ltb-false, lt-ltb, le-ltb}
use Rattle.words.specs.Words.{Row}
use Rattle.std.specs.declared.cmp.Ordering.TheVariants.{Less, Greater, Equal}
use Rattle.rows.specs.Rows.{order_from, key_order, same_key, by_order}
use Rattle.std.specs.declared.cmp.Ordering.{Ordering}

pub data Tri (x y : ℕ) : Type 0 where
  lt : x < y → Tri x y
  eq : x ≡ y → Tri x y
  gt : y < x → Tri x y

pub tri : (x y : ℕ) → Tri x y
tri x y = go (ltb x y) refl (ltb y x) refl
  where
    go : (p : Bool) → ltb x y ≡ p → (q : Bool) → ltb y x ≡ q → Tri x y
    go true e q f = lt (ltb-true x y e)
    go false e true f = gt (ltb-true y x f)
    go false e false f = eq (omega (arith, ltb-false x y e, ltb-false y x f))

-- one number of two keys
module _ (n i : ℕ) (x y : Row) where
  pub step_lt : get_or x i 0 < get_or y i 0 → order_from (suc n) i x y ≡ Less
  unfolding order_from
  step_lt h = simp (lt-ltb _ _ h)

  pub step_gt : get_or y i 0 < get_or x i 0 → order_from (suc n) i x y ≡ Greater
  unfolding order_from
  step_gt h = let g : get_or y i 0 ≤ get_or x i 0 = omega arith in simp (le-ltb _ _ g, lt-ltb _ _ h)

  pub step_eq : get_or x i 0 ≡ get_or y i 0 → order_from (suc n) i x y ≡ order_from n (suc i) x y
  unfolding order_from
  step_eq h =
      let a : get_or y i 0 ≤ get_or x i 0 = omega arith in
      let b : get_or x i 0 ≤ get_or y i 0 = omega arith in
      simp (le-ltb _ _ a, le-ltb _ _ b)

-- the same where k - i numbers are left, as the code counts
module _ (k i : ℕ) (x y : Row) (more : i < k) where
  left_suc : k - i ≡ suc (k - (i + 1))
  left_suc = omega arith

  pub next_lt : get_or x i 0 < get_or y i 0 → order_from (k - i) i x y ≡ Less
  next_lt h = rw left_suc (step_lt _ i x y h)

  pub next_gt : get_or y i 0 < get_or x i 0 → order_from (k - i) i x y ≡ Greater
  next_gt h = rw left_suc (step_gt _ i x y h)

  pub next_eq : get_or x i 0 ≡ get_or y i 0 → order_from (k - i) i x y ≡ order_from (k - (i + 1)) (i + 1) x y
  next_eq h = rw left_suc (rw (add-one i) (step_eq _ i x y h))

-- no number is left, or both rows are at their end
pub order_none : (k i : ℕ) (x y : Row) → k ≤ i → order_from (k - i) i x y ≡ Equal
unfolding order_from
order_none k i x y h = let e : k - i ≡ 0 = omega arith in rw e

pub order_end : (n i : ℕ) (x y : Row) → length x ≤ i → length y ≤ i → order_from n i x y ≡ Equal
unfolding order_from
order_end zero i x y h g = refl
order_end (suc n) i x y h g =
    step_eq n i x y (get_or-eq_default x 0 h ∙ sym (get_or-eq_default y 0 g)) ∙ order_end n (suc i) x y (omega arith) (omega arith)

flip : Ordering → Ordering
flip Less = Greater
flip Equal = Equal
flip Greater = Less

order_flip : (n i : ℕ) (x y : Row) → order_from n i y x ≡ flip (order_from n i x y)
unfolding flip order_from
order_flip zero i x y = refl
order_flip (suc n) i x y = go (tri (get_or x i 0) (get_or y i 0)) (order_flip n (suc i) x y)
  where
    go : Tri (get_or x i 0) (get_or y i 0) → order_from n (suc i) y x ≡ flip (order_from n (suc i) x y) → order_from (suc n) i y x ≡ flip (order_from (suc n) i x y)
    go (lt h) ih = step_gt n i y x h ∙ sym (ap flip (step_lt n i x y h))
    go (eq h) ih = step_eq n i y x (sym h) ∙ ih ∙ sym (ap flip (step_eq n i x y h))
    go (gt h) ih = step_lt n i y x h ∙ sym (ap flip (step_gt n i x y h))

pub order_trans : (n i : ℕ) (x y z : Row) → order_from n i x y ≡ Less → order_from n i y z ≡ Less → order_from n i x z ≡ Less
unfolding order_from
order_trans zero i x y z p q = p
order_trans (suc n) i x y z p q = go (tri (get_or x i 0) (get_or y i 0)) (tri (get_or y i 0) (get_or z i 0)) (order_trans n (suc i) x y z)
  where
    go : Tri (get_or x i 0) (get_or y i 0) → Tri (get_or y i 0) (get_or z i 0)
        → (order_from n (suc i) x y ≡ Less → order_from n (suc i) y z ≡ Less → order_from n (suc i) x z ≡ Less)
        → order_from (suc n) i x z ≡ Less
    go (lt a) (lt b) ih = step_lt n i x z (omega arith)
    go (lt a) (eq b) ih = step_lt n i x z (omega arith)
    go (lt a) (gt b) ih = cc (step_gt n i y z b)
    go (eq a) (lt b) ih = step_lt n i x z (omega arith)
    go (eq a) (eq b) ih = step_eq n i x z (a ∙ b) ∙ ih (sym (step_eq n i x y a) ∙ p) (sym (step_eq n i y z b) ∙ q)
    go (eq a) (gt b) ih = cc (step_gt n i y z b)
    go (gt a) u ih = cc (step_gt n i x y a)

pub order_right : (n i : ℕ) (x y z : Row) → order_from n i y z ≡ Equal → order_from n i x y ≡ order_from n i x z
unfolding order_from
order_right zero i x y z q = refl
order_right (suc n) i x y z q = go (tri (get_or y i 0) (get_or z i 0)) (tri (get_or x i 0) (get_or y i 0)) (order_right n (suc i) x y z)
  where
    go : Tri (get_or y i 0) (get_or z i 0) → Tri (get_or x i 0) (get_or y i 0)
        → (order_from n (suc i) y z ≡ Equal → order_from n (suc i) x y ≡ order_from n (suc i) x z)
        → order_from (suc n) i x y ≡ order_from (suc n) i x z
    go (lt a) u ih = cc (step_lt n i y z a)
    go (gt a) u ih = cc (step_gt n i y z a)
    go (eq a) (lt b) ih = step_lt n i x y b ∙ sym (step_lt n i x z (omega arith))
    go (eq a) (gt b) ih = step_gt n i x y b ∙ sym (step_gt n i x z (omega arith))
    go (eq a) (eq b) ih = step_eq n i x y b ∙ ih (sym (step_eq n i y z a) ∙ q) ∙ sym (step_eq n i x z (b ∙ a))

pub order_refl : (n i : ℕ) (x : Row) → order_from n i x x ≡ Equal
unfolding order_from
order_refl zero i x = refl
order_refl (suc n) i x = step_eq n i x x refl ∙ order_refl n (suc i) x

-- a key that is the same has the same numbers
order_numbers : (n i : ℕ) (x y : Row) → order_from n i x y ≡ Equal → (j : ℕ) → j < n → get_or x (i + j) 0 ≡ get_or y (i + j) 0
unfolding order_from
order_numbers zero i x y e j h = absurd (not-suc-le-zero h)
order_numbers (suc n) i x y e j h = go (tri (get_or x i 0) (get_or y i 0)) j h (order_numbers n (suc i) x y)
  where
    go : Tri (get_or x i 0) (get_or y i 0) → (j : ℕ) → j < suc n
        → (order_from n (suc i) x y ≡ Equal → (j : ℕ) → j < n → get_or x (suc i + j) 0 ≡ get_or y (suc i + j) 0)
        → get_or x (i + j) 0 ≡ get_or y (i + j) 0
    go (lt a) j h ih = cc (step_lt n i x y a)
    go (gt a) j h ih = cc (step_gt n i x y a)
    go (eq a) zero h ih = let f : i + 0 ≡ i = omega arith in rw f a
    go (eq a) (suc j) h ih =
        let f : i + suc j ≡ suc i + j = omega arith in
        rw f (ih (sym (step_eq n i x y a) ∙ e) j (omega arith))

module _ (k : ℕ) (x y : Row) where
  pub less_more : key_order k x y ≡ Less → key_order k y x ≡ Greater
  unfolding flip
  less_more e = order_flip k 0 x y ∙ ap flip e

  pub more_less : key_order k x y ≡ Greater → key_order k y x ≡ Less
  unfolding flip
  more_less e = order_flip k 0 x y ∙ ap flip e

  pub same_same : key_order k x y ≡ Equal → key_order k y x ≡ Equal
  unfolding flip
  same_same e = order_flip k 0 x y ∙ ap flip e

  pub same_number : key_order k x y ≡ Equal → (i : ℕ) → i < k → get_or x i 0 ≡ get_or y i 0
  same_number e i h = let f : 0 + i ≡ i = omega arith in rw f at (order_numbers k 0 x y e i h)

pub less_trans : (k : ℕ) (x y z : Row) → key_order k x y ≡ Less → key_order k y z ≡ Less → key_order k x z ≡ Less
less_trans k x y z = order_trans k 0 x y z

-- rows of the same key stand in the same order to every row
pub same_right : (k : ℕ) (x y z : Row) → key_order k y z ≡ Equal → key_order k x y ≡ key_order k x z
same_right k x y z = order_right k 0 x y z

pub same_left : (k : ℕ) (x y z : Row) → key_order k x y ≡ Equal → key_order k x z ≡ key_order k y z
unfolding flip
same_left k x y z e = order_flip k 0 z x ∙ ap flip (same_right k z x y e) ∙ sym (order_flip k 0 z y)

-- the test of it
pub same_key_refl : (k : ℕ) (x : Row) → same_key k x x ≡ true
same_key_refl k x = rw (order_refl k 0 x)

pub same_key_order : (k : ℕ) (x y : Row) → same_key k x y ≡ true → key_order k x y ≡ Equal
same_key_order k x y e = go (key_order k x y) refl e
  where
    go : (o : Ordering) → key_order k x y ≡ o → by_order o false true false ≡ true → key_order k x y ≡ Equal
    go Less f g = cc
    go Equal f g = f
    go Greater f g = cc

pub same_key_left : (k : ℕ) (x y z : Row) → same_key k x y ≡ true → same_key k x z ≡ same_key k y z
same_key_left k x y z e = rw (same_left k x y z (same_key_order k x y e))

pub same_key_right : (k : ℕ) (x y z : Row) → same_key k y z ≡ true → same_key k x y ≡ same_key k x z
same_key_right k x y z e = rw (same_right k x y z (same_key_order k y z e))
