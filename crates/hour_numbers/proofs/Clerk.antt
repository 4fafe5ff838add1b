-- The two numbers handed out are as near as asked. Floats are counted in units of the smallest value, 2 ^ -1074. Assumes nothing.
use Prim.Native.Nat.{ℕ, zero, suc, ◌+◌, ◌*◌, ◌^◌, ◌≤◌, ◌<◌}
use native.Mathlib.Nat.{add-mul, mul-add, add-zero, zero-add, add_assoc, mul_assoc, mul_comm, mul-one, mul_right_comm, mul-le-mul_right, le_trans, le_of_lt, lt_of_le_of_lt}
use native.Mathlib.Omega.{arith}
use mathlib.Core.Path.{◌≡◌, refl, sym, ap, ◌∙◌, subst}
use mathlib.Core.List.{List, [], ◌∷◌}
use mathlib.Core.Bool.{Bool, true, false, not}
use lib.IntN.{pos}
use lib.Dec.{T, ltb, ltb→lt, nltb→le, lit<, lit≤}
use lib.ListN.{length}
use lib.Ieee.{Float, nan, inf, fin, binary64, up, down, round, div, add, of_int}
use lib.Ieee.Fits.{div-fits}
use lib.Ieee.Exact.{HasValue, round_exact}
use lib.Ieee.Back.{round_whole}
use lib.Ieee.Scale.{round_val, grid, overflow, normal_of_fraction}
use Rattle.hour_numbers.specs.Hours.{hours_of, none, clerk_from, clerk, together, apart, Near}
use Rattle.hour_numbers.specs.Claims.{QuotientNear, SumNear}
use Rattle.hour_numbers.proofs.Rounding.{Off, off_none, off_more, scaled, unscaled, grid_near, div_at, add_at}
use Rattle.hour_numbers.proofs.Exactly.{exactly}

-- 1 in units; it stays folded where numbers are compared
unfoldable one : ℕ
one = 2 ^ 1074

one_pos : 0 < one
unfolding one
one_pos = lit< tt

-- x is rounded from n units, and 3,600 times x from n units
record Rounded (x : Float) (n : ℕ) : Type 0 where
  units : ℕ
  value : HasValue x false units one
  off : Off 1 units n

record Counted (x : Float) (c n : ℕ) : Type 0 where
  units : ℕ
  value : HasValue x false units one
  off : Off c (units * 3600) n

most : (c t n : ℕ) → c ≤ 2 ^ 53 → Off c (t * 3600) n → t ≤ 2 * n
most c t n h w = let l : c * n ≤ 2 ^ 53 * n = mul-le-mul_right n h in omega (arith, w.0)

under : (n t : ℕ) → n ≤ 2 ^ 60 → t ≤ n * one → t < overflow binary64
unfolding one
under n t a h = lt_of_le_of_lt h (lt_of_le_of_lt (mul-le-mul_right (2 ^ 1074) a) (lit< tt))

-- a quotient ----------------------------------------------------------------------------------------------------------------------------

quotient : (a : ℕ) → 0 < a → a < 2 ^ 53 → Counted (round binary64 false a 3600) 1 (a * one)
quotient a p l = record { units = grid binary64 a 3600; value = at_grid; off = w }
  where
    w : Off 1 (grid binary64 a 3600 * 3600) (a * one)
    w = unfold one in grid_near a 3600 (lit< tt) (normal_of_fraction binary64 a 3600 (lit< tt) (le_trans (lit≤ tt) (mul-le-mul_right (2 ^ 1074) p)))

    few : grid binary64 a 3600 ≤ 2 * a * one
    few = rw (mul_assoc 2 a one) (most 1 (grid binary64 a 3600) (a * one) (lit≤ tt) w)

    at_grid : HasValue (round binary64 false a 3600) false (grid binary64 a 3600) one
    at_grid = unfold one in round_val binary64 a 3600 (under (2 * a) (grid binary64 a 3600) (omega arith) few)

hours_counted : (s : ℕ) → s < 2 ^ 53 → Counted (hours_of s) 1 (s * one)
hours_counted zero h = zeros
  where
    zeros : Counted (hours_of 0) 1 (0 * one)
    zeros = unfold of_int div one in record { units = 0; value = (refl, refl); off = (lit≤ tt, lit≤ tt) }
hours_counted (suc k) h = subst (λ (x : Float). Counted x 1 (suc k * one)) (sym is) (quotient (suc k) (omega arith) h)
  where
    is : hours_of (suc k) ≡ round binary64 false (suc k) 3600
    is = unfold of_int in div_at (round binary64 false (suc k) 1) (round binary64 false 3600 1) (suc k) 3600 1 1 (lit< tt) (lit< tt) (lit< tt) (round_whole binary64 false (suc k) (le_of_lt h)) (round_whole binary64 false 3600 (lit≤ tt))
        ∙ ap (λ (z : ℕ). round binary64 false z (1 * 3600)) (mul-one (suc k))

-- a sum ---------------------------------------------------------------------------------------------------------------------------------

-- n units are rounded by one part in 2 ^ 53 at most, however few they are
whole : (n : ℕ) → n ≤ 2 ^ 59 * one → Rounded (round binary64 false n one) n
whole n h = go (ltb n (2 ^ 53)) (ltb→lt n (2 ^ 53)) (nltb→le n (2 ^ 53))
  where
    few : n < 2 ^ 53 → HasValue (round binary64 false n one) false n one
    few l = unfold one in round_exact binary64 false n (2 ^ 1074) n 0 (lit< tt) l (under 1 (n * 1) (lit≤ tt) (le_trans (le_of_lt (subst (λ (z : ℕ). z < 2 ^ 53) (sym (mul-one n)) l)) (lit≤ tt))) (ap (λ (z : ℕ). z * 2 ^ 1074) (sym (mul-one n)))

    near : 2 ^ 53 ≤ n → Off 1 (grid binary64 n one) n
    near l =
        let m : 2 ^ 52 * one ≤ n * one = mul-le-mul_right one (le_trans (lit≤ tt) l) in
        unfold one in unscaled 1 (grid binary64 n one) n one one_pos (grid_near n one one_pos (normal_of_fraction binary64 n one one_pos m))

    twice : (g : ℕ) → Off 1 g n → g ≤ 2 ^ 60 * one
    twice g w = omega (arith, w.0)

    val : Off 1 (grid binary64 n one) n → HasValue (round binary64 false n one) false (grid binary64 n one) one
    val w = unfold one in round_val binary64 n one (under (2 ^ 60) (grid binary64 n one) (lit≤ tt) (twice (grid binary64 n one) w))

    go : (b : Bool) → (T b → n < 2 ^ 53) → (T (not b) → 2 ^ 53 ≤ n) → Rounded (round binary64 false n one) n
    go true l m = record { units = n; value = few (l tt); off = off_none n 1 }
    go false l m = let w = near (m tt) in record { units = grid binary64 n one; value = val w; off = w }

-- t stands for b and g for a, up to w and a; t' for t + g. The one bound of a number by the other, and back.
up_to : (p w v t b g a t' : ℕ) → p * t ≤ p * b + w → p * g ≤ p * a + 1 * a → p * t' ≤ p * (t + g) + 1 * (t + g) → t ≤ 2 * b → g ≤ 2 * a → 2 * a ≤ v
    → p * t' ≤ p * (b + a) + (w + v + 2 * b + 2 * a)
up_to p w v t b g a t' i j k l m n = let x = mul-add p t g in let y = mul-add p b a in omega arith

down_to : (p w v t b g a t' : ℕ) → p * b ≤ p * t + w → p * a ≤ p * g + 1 * a → p * (t + g) ≤ p * t' + 1 * (t + g) → t ≤ 2 * b → g ≤ 2 * a → 2 * a ≤ v
    → p * (b + a) ≤ p * t' + (w + v + 2 * b + 2 * a)
down_to p w v t b g a t' i j k l m n = let x = mul-add p t g in let y = mul-add p b a in omega arith

double : (t b c : ℕ) → c ≤ 2 ^ 53 * b → 2 ^ 53 * t ≤ 2 ^ 53 * b + c → t ≤ 2 * b
double t b c h k = omega arith

parts : (k b a : ℕ) → 2 * (k + 1) * (b + a) ≡ 2 * k * b + 2 * k * a + 2 * b + 2 * a
parts k b a = omega arith

-- so the count of parts goes up by two
carry : (k t b g a t' : ℕ) → 1 ≤ k → k ≤ 2 ^ 52 → Off (2 * k) t b → Off 1 g a → Off 1 t' (t + g) → Off (2 * (k + 1)) t' (b + a)
carry k t b g a t' l m v w z =
    let kb : 2 * k * b ≤ 2 ^ 53 * b = mul-le-mul_right b (omega arith) in
    let ka : 2 * a ≤ 2 * k * a = mul-le-mul_right a (omega arith) in
    let x = double t b (2 * k * b) kb v.0 in
    let y = double g a (1 * a) (mul-le-mul_right a (lit≤ tt)) w.0 in
    rw (parts k b a)
    (up_to (2 ^ 53) (2 * k * b) (2 * k * a) t b g a t' v.0 w.0 z.0 x y ka, down_to (2 ^ 53) (2 * k * b) (2 * k * a) t b g a t' v.1 w.1 z.1 x y ka)

step : (x : Float) (k B s : ℕ) → 1 ≤ k → k ≤ 2 ^ 52 → B + s < 2 ^ 53 → Counted x (2 * k) (B * one) → Counted (add binary64 x (hours_of s)) (2 * (k + 1)) ((B + s) * one)
step x k B s l m h v =
    let w = hours_counted s (omega arith) in
    let t = v.units in
    let g = w.units in
    let p = most (2 * k) t (B * one) (omega arith) v.off in
    let q = most 1 g (s * one) (lit≤ tt) w.off in
    let z = whole (t + g) (small t g one B s p q h) in
    let e = add_at x (hours_of s) t g one one_pos v.value w.value in
    let c = subst (λ (n : ℕ). Off 1 (z.units * 3600) n) (add-mul t g 3600) (scaled 1 z.units (t + g) 3600 z.off) in
    record {
      units = z.units;
      value = rw e z.value;
      off = subst (λ (n : ℕ). Off (2 * (k + 1)) (z.units * 3600) n) (sym (add-mul B s one)) (carry k (t * 3600) (B * one) (g * 3600) (s * one) (z.units * 3600) l m v.off w.off c);
    }
  where
    small : (t g o B s : ℕ) → t ≤ 2 * (B * o) → g ≤ 2 * (s * o) → B + s < 2 ^ 53 → t + g ≤ 2 ^ 59 * o
    small t g o B s p q h =
        let a : (B + s) * o ≤ 2 ^ 53 * o = mul-le-mul_right o (le_of_lt h) in
        let b = add-mul B s o in
        omega arith

-- nothing is lost where the first hours are added to zero
first : (s : ℕ) → s < 2 ^ 53 → Counted (add binary64 none (hours_of s)) 2 (s * one)
first s h =
    let w = hours_counted s h in
    let g = w.units in
    let e = add_at none (hours_of s) 0 g one one_pos (refl, zero_units) w.value in
    record { units = g; value = rw (e, zero-add g) (same g (most 1 g (s * one) (lit≤ tt) w.off) w.value); off = off_more 1 2 (g * 3600) (s * one) (lit≤ tt) w.off }
  where
    zero_units : 0 * 1 * one ≡ 0 * 1
    zero_units = omega arith

    twice : (g o : ℕ) → g ≤ 2 * (s * o) → g ≤ 2 * s * o
    twice g o p = rw (mul_assoc 2 s o) p

    same : (g : ℕ) → g ≤ 2 * (s * one) → HasValue (hours_of s) false g one → HasValue (round binary64 false g one) false g one
    same g p v = unfold one in exactly binary64 (hours_of s) g (div-fits binary64 (of_int binary64 (pos s)) (of_int binary64 (pos 3600))) (under (2 * s) g (omega arith) (twice g one p)) v

from : (ss : List ℕ) (x : Float) (k B : ℕ) → 1 ≤ k → k + length ss ≤ 2 ^ 52 → B + together ss < 2 ^ 53 → Counted x (2 * k) (B * one)
    → Counted (clerk_from x ss) (2 * (k + length ss)) ((B + together ss) * one)
unfolding clerk_from together
from [] x k B l m h v = rw (add-zero k, add-zero B) v
from (s ∷ ss) x k B l m h v =
    let i : k + suc (length ss) ≡ k + 1 + length ss = omega arith in
    rw (i, ← add_assoc B s (together ss))
    (from ss (add binary64 x (hours_of s)) (k + 1) (B + s) (omega arith) (omega arith) (omega arith) (step x k B s l (omega arith) (omega arith) v))

-- as asked ------------------------------------------------------------------------------------------------------------------------------

own : (x : Float) (c S : ℕ) → Counted x c (S * one) → (n p : ℕ) → ((X Z : ℕ) → Off c X Z → 2 ^ p * apart X Z ≤ n * Z) → Near p n S x
own x c S v n p f = go x v.units v.value v.off
  where
    go : (x : Float) (t : ℕ) → HasValue x false t one → Off c (t * 3600) (S * one) → Near p n S x
    go nan t v w = absurd v
    go (inf s) t v w = absurd v
    go (fin s m e) t v w =
        let r = scaled c (t * 3600) (S * one) (down e) w in
        let i : t * 3600 * down e ≡ 3600 * (m * up e) * one =
        mul_right_comm t 3600 (down e) ∙ ap (λ (z : ℕ). z * 3600) (sym v.1) ∙ mul_right_comm (m * up e) one 3600 ∙ ap (λ (z : ℕ). z * one) (mul_comm (m * up e) 3600) in
        let j : S * one * down e ≡ S * down e * one = mul_right_comm S one (down e) in
        record {
          m = m;
          e = e;
          is = ap (λ (b : Bool). fin b m e) v.0;
          near = f (3600 * (m * up e)) (S * down e) (unscaled c (3600 * (m * up e)) (S * down e) one one_pos (rw (i, j) at r));
        }

by_one : (X Z : ℕ) → Off 1 X Z → 2 ^ 53 * apart X Z ≤ 1 * Z
by_one X Z w = omega (arith, w.0, w.1)

by_two : (n X Z : ℕ) → Off (2 * n) X Z → 2 ^ 52 * apart X Z ≤ n * Z
by_two n X Z w = let e = mul_assoc 2 n Z in omega (arith, w.0, w.1)

pub quotient_near : QuotientNear
quotient_near s h = own (hours_of s) 1 s (hours_counted s h) 1 53 by_one

pub sum_near : SumNear
unfolding clerk_from together
sum_near [] l h = record { m = 0; e = pos 0; is = refl; near = lit≤ tt }
sum_near (s ∷ ss) l h =
    let v = from ss (add binary64 none (hours_of s)) 1 s (omega arith) (omega arith) h (first s (omega arith)) in
    let i : suc (length ss) ≡ 1 + length ss = omega arith in
    rw i (own (clerk (s ∷ ss)) (2 * (1 + length ss)) (s + together ss) v (1 + length ss) 52 (by_two (1 + length ss)))

-- "No blocks gives 0 exactly"
pub hours_none : hours_of 0 ≡ none
unfolding of_int div
hours_none = refl

pub clerk_none : clerk [] ≡ none
unfolding clerk_from
clerk_none = refl
