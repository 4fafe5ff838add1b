-- The tests of the fault that is kept. Assumes nothing.
use mathlib.Core.Path.{◌≡◌, refl, sym, ap, ◌∙◌}
use mathlib.Core.List.{List, [], ◌∷◌, map}
use mathlib.Core.Bool.{Bool, true, false, ◌&&◌, ◌||◌}
use Prim.Native.Nat.{ℕ, ◌+◌, ◌<◌, ◌≤◌}
use native.Mathlib.Omega.{arith}
use lib.Dec.{eqb}
use lib.ListN.{length, get_or, drop, drop_of_length-le}
use borrow.Author.Tests.{eq-eqb, ne_eqb, eqb-true, eqb-false}
use Rattle.std.specs.List.{list_any}
use Rattle.words.specs.Words.{whether◌then◌else◌}
use Rattle.words.proofs.Lists.{drop_step, and_left}
use Rattle.tables.specs.Columns.{number, numbered}
use Rattle.tables.specs.Parts.{tables}
use Rattle.std.specs.Prelude.{Some, None}
use Rattle.std.specs.Option.{is_some}
use Rattle.tables.specs.declared.Table.TheVariants.{VehicleType, Depot, Stop, StopPoint, Block, Calendar}
use Rattle.header.specs.Header.{member}
use Rattle.radio.specs.Rule.{reading_numbers, lawful_fault}
use Rattle.radio_rule.specs.Testing.{stretch, zeros, fault, fault_place, fault_keeps}

-- a number in a list -----------------------------------------------------------------------------------------------------------

either_way : (x n : ℕ) → eqb x n ≡ eqb n x
either_way x n = go (eqb n x) refl
  where
    go : (b : Bool) → eqb n x ≡ b → eqb x n ≡ b
    go true e = eq-eqb x n (sym (eqb-true n x e))
    go false e = ne_eqb x n (λ z. eqb-false n x e (sym z))

pub any_member : (n : ℕ) (xs : List ℕ) → list_any (λ x. eqb x n) xs ≡ member n xs
unfolding member
any_member n [] = refl
any_member n (x ∷ xs) = ap (λ (b : Bool). b || list_any (λ x. eqb x n) xs) (either_way x n) ∙ ap (λ (b : Bool). eqb n x || b) (any_member n xs)

-- a table's number ----------------------------------------------------------------------------------------------------------------

pub known_number : (n : ℕ) → is_some (numbered n) ≡ member n (map number tables)
unfolding member
known_number n = go (eqb n 1) (eqb n 2) (eqb n 3) (eqb n 4) (eqb n 6) (eqb n 7)
  where
    go : (a b c d e f : Bool) →
        is_some (whether a then Some VehicleType else whether b then Some Depot else whether c then Some Stop else whether d then Some Block else whether e then Some StopPoint else whether f then Some Calendar else None)
        ≡ (a || (b || (c || (e || (d || (f || false))))))
    go true b c d e f = refl
    go false true c d e f = refl
    go false false true d e f = refl
    go false false false true true f = refl
    go false false false true false f = refl
    go false false false false true f = refl
    go false false false false false true = refl
    go false false false false false false = refl

-- the tests in the order of the code ----------------------------------------------------------------------------------------------

module _ (ns : List ℕ) where
  pub other_number : member (get_or ns 7 0) reading_numbers ≡ false → lawful_fault (fault_place ns) ≡ false
  other_number e = rw e

  pub some_number : member (get_or ns 7 0) reading_numbers ≡ true → lawful_fault (fault_place ns) ≡ member (get_or ns 8 0) (map number tables)
  some_number e = rw e

  -- whether there is a fault is 0 or 1
  pub flag_small : fault_keeps ns ≡ true → fault ns ≤ 1
  flag_small = go (eqb (fault ns) 0) refl
    where
      go : (q : Bool) → eqb (fault ns) 0 ≡ q → (whether q then zeros (stretch 7 11 ns) else eqb (fault ns) 1 && lawful_fault (fault_place ns)) ≡ true → fault ns ≤ 1
      go true e f = let z : fault ns ≡ 0 = eqb-true (fault ns) 0 e in omega arith
      go false e f = let z : fault ns ≡ 1 = eqb-true (fault ns) 1 (and_left (eqb (fault ns) 1) (lawful_fault (fault_place ns)) f) in omega arith
