-- Tests and checks taken apart. Assumes nothing.
use mathlib.Core.Path.{◌≡◌, refl}
use mathlib.Core.Bool.{Bool, true, ◌&&◌, false, ◌||◌}
use Prim.Native.Nat.{ℕ}
use native.Mathlib.Omega.{arith}
use Rattle.words.proofs.Lists.{and_left, and_right}
use Rattle.refusals.specs.Verdicts.{◌when◌, Verdict, fault}
use Rattle.std.specs.Prelude.{Ok, Err}
use Rattle.book.specs.Book.{Book}
use Rattle.book.specs.Result.{Result, leaves, unless, refused, ◌▹◌}

pub and_both : (p q : Bool) → p ≡ true → q ≡ true → (p && q) ≡ true
and_both p q h k = rw (h, k)

pub and_three : (p q r : Bool) → (p && q && r) ≡ true → (p ≡ true) × (q ≡ true) × (r ≡ true)
and_three p q r h = let k : (p && q) ≡ true = and_left (p && q) r h in (and_left p q k, and_right p q k, and_right (p && q) r h)

pub and_four : (p q r s : Bool) → (p && q && r && s) ≡ true → (p ≡ true) × (q ≡ true) × (r ≡ true) × (s ≡ true)
and_four p q r s h = let k = and_three p q r (and_left (p && q && r) s h) in (k.0, k.1, k.2, and_right (p && q && r) s h)

pub or_left : (p q : Bool) → (p || q) ≡ false → p ≡ false
or_left true q h = h
or_left false q h = refl

pub or_right : (p q : Bool) → (p || q) ≡ false → q ≡ false
or_right true q h = let z : ◌≡◌ {A = ℕ} 0 1 = cc in let y : ⊥ = omega arith in absurd y
or_right false q h = h

pub or_later : (p q : Bool) → q ≡ true → (p || q) ≡ true
or_later true q h = refl
or_later false q h = h

-- a check that passes is not in its case
pub unfailed : (n k : ℕ) (t : Bool) → Err (fault n k) when t ≡ Ok tt → t ≡ false
unfailed n k true h = let z : ◌≡◌ {A = ℕ} 0 1 = cc in let y : ⊥ = omega arith in absurd y
unfailed n k false h = refl

-- a result that goes on
pub going_on : (v : Verdict) (r : Result) (c : Book) → unless v r ≡ leaves c → r ≡ leaves c
going_on (Ok _) r c h = h
going_on (Err p) r c h = let z : ◌≡◌ {A = ℕ} 0 1 = cc in let y : ⊥ = omega arith in absurd y

pub unrefused : (v : Verdict) (r : Result) (c : Book) → unless v r ≡ leaves c → v ≡ Ok tt
unrefused (Ok _) r c h = refl
unrefused (Err p) r c h = let z : ◌≡◌ {A = ℕ} 0 1 = cc in let y : ⊥ = omega arith in absurd y

pub came : (r : Result) (f : Book → Result) (c : Book) → (r ▹ f) ≡ leaves c → (b : Book) × (r ≡ leaves b) × (f b ≡ leaves c)
came (refused p) f c h = let z : ◌≡◌ {A = ℕ} 0 1 = cc in let y : ⊥ = omega arith in absurd y
came (leaves b) f c h = (b, refl, h)
