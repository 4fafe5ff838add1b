-- A known point's stop is known, so that a block's stops need no search of their own. Assumes nothing.
use mathlib.Core.Path.{◌≡◌, refl, ap, ◌∙◌}
use mathlib.Core.Bool.{Bool, true, false, ◌||◌}
use mathlib.Core.List.{List, [], ◌∷◌}
use Prim.Native.Nat.{ℕ, ◌-◌}
use native.Mathlib.Omega.{arith}
use lib.Dec.{lit≤, lit<}
use Rattle.words.specs.Words.{Row, all}
use Rattle.words.proofs.Lists.{and_left, and_right}
use Rattle.refusals.specs.Verdicts.{passes}
use Rattle.std.specs.Prelude.{Ok}
use Rattle.rows.specs.Rows.{same_key, stands, column, key_order, inserted}
use Rattle.std.specs.declared.cmp.Ordering.{Ordering}
use Rattle.std.specs.declared.cmp.Ordering.TheVariants.{Less, Equal, Greater}
use Rattle.rows.proofs.Keys.{same_number, same_key_order}
use Rattle.rows.proofs.Changes.{stands_key, stands_inserted, other_stands_inserted}
use Rattle.editions.specs.declared.Edition.{Edition}
use Rattle.editions.specs.declared.Edition.TheVariants.{Dino21}
use Rattle.tables.specs.Columns.{ref, references}
use Rattle.tables.specs.declared.Table.TheVariants.{Stop, StopPoint, VehicleType, Depot, Block, Calendar}
use Rattle.tables.specs.declared.Table.{Table}
use Rattle.book.specs.Book.{Book, empty, empty_by, entered}
use Rattle.rules.specs.Rules.{finds, unknown_of, unknown, named}
use Rattle.rules.specs.Points.{points_named, Referable}
use Rattle.rules.proofs.Referring.{one_missing}

-- a key that stands among rows that all pass a test stands in one that passes it
pub record Passing (f : Row → Bool) (k : ℕ) (key : Row) : Type 0 where
  pub row : Row
  pub same : same_key k key row ≡ true
  pub good : f row ≡ true

pub passing : (f : Row → Bool) (k : ℕ) (key : Row) (xs : List Row) → all f xs ≡ true → stands k key xs ≡ true → Passing f k key
unfolding all stands
passing f k key [] a s = let z : ◌≡◌ {A = ℕ} 0 1 = cc in absurd (omega arith)
passing f k key (x ∷ xs) a s = go (same_key k key x) refl s (passing f k key xs (and_right (f x) (all f xs) a))
  where
    go : (b : Bool) → same_key k key x ≡ b → (b || stands k key xs) ≡ true → (stands k key xs ≡ true → Passing f k key) → Passing f k key
    go true e g ih = record { row = x; same = e; good = and_left (f x) (all f xs) a }
    go false e g ih = ih g

-- a stop point that passes names a known stop
point_names : (x : Row) (b : Book) → passes (unknown StopPoint x b) ≡ true → finds (ref 2 Stop) x b ≡ true
unfolding unknown_of
point_names x b e = go (finds (ref 2 Stop) x b) refl
  where
    go : (r : Bool) → finds (ref 2 Stop) x b ≡ r → r ≡ true
    go true f = refl
    go false f = let g : false ≡ true = rw f at e in let z : ◌≡◌ {A = ℕ} 0 1 = cc in absurd (omega arith)

module _ (b : Book) (row : Row) (named-all : points_named b ≡ true) where
  -- the point in column k, and its stop in the column before
  pub point_stop : (k : ℕ) → finds (ref k StopPoint) row b ≡ true → finds (ref (k - 1) Stop) row b ≡ true
  point_stop k e =
      let p = passing (λ x. passes (unknown StopPoint x b)) 3 (named StopPoint k row) b.points named-all e in
      let s = same_key_order 3 (named StopPoint k row) p.row p.same in
      let first : column 1 row ≡ column 1 p.row = same_number 3 (named StopPoint k row) p.row s 0 (lit≤ tt) in
      let second : column (k - 1) row ≡ column 2 p.row = same_number 3 (named StopPoint k row) p.row s 1 (lit≤ tt) in
      ap (λ (l : Row). stands 2 l b.stops) (ap (λ (n : ℕ). n ∷ column (k - 1) row ∷ []) first ∙ ap (λ (n : ℕ). column 1 p.row ∷ n ∷ []) second)
      ∙ point_names p.row b p.good

  -- so the last of the four references that are looked up tells of all six
  pub block_passes : finds (ref 3 Depot) row b ≡ true → finds (ref 5 VehicleType) row b ≡ true → finds (ref 7 StopPoint) row b ≡ true
      → (r : Bool) → finds (ref 10 StopPoint) row b ≡ r → passes (unknown Block row b) ≡ r
  unfolding unknown_of
  block_passes d v p true q = rw (d, v, point_stop 7 p, p, point_stop 10 q, q)
  block_passes d v p false q = one_missing row b (references Block) 5 (lit< tt) q

-- a book without rows has no point
pub begun_named : (d : Edition) (b : Book) → b ≡ empty_by d → points_named b ≡ true
unfolding all
begun_named d b e = rw e

-- a table that is no block's needs nothing
pub referable : (t : Table) (b : Book) → points_named b ≡ true → Referable t b
referable VehicleType b e = tt
referable Depot b e = tt
referable Stop b e = tt
referable StopPoint b e = tt
referable Block b e = e
referable Calendar b e = tt

-- a row that enters leaves every point its stop -----------------------------------------------------------------------------------

all_more : (f g : Row → Bool) → ((x : Row) → f x ≡ true → g x ≡ true) → (xs : List Row) → all f xs ≡ true → all g xs ≡ true
unfolding all
all_more f g m [] e = refl
all_more f g m (x ∷ xs) e = rw (m x (and_left (f x) (all f xs) e), all_more f g m xs (and_right (f x) (all f xs) e))

all_inserted : (f : Row → Bool) (k : ℕ) (row : Row) → f row ≡ true → (xs : List Row) → all f xs ≡ true → all f (inserted k row xs) ≡ true
unfolding all inserted
all_inserted f k row h [] e = rw h
all_inserted f k row h (x ∷ xs) e = go (key_order k row x) refl (all_inserted f k row h xs (and_right (f x) (all f xs) e))
  where
    go : (o : Ordering) → key_order k row x ≡ o → all f (inserted k row xs) ≡ true → all f (inserted k row (x ∷ xs)) ≡ true
    go Less q ih = rw (q, h) e
    go Equal q ih = rw q e
    go Greater q ih = rw (q, and_left (f x) (all f xs) e) ih

stands_still : (k : ℕ) (key row : Row) (xs : List Row) → stands k key xs ≡ true → stands k key (inserted k row xs) ≡ true
stands_still k key row xs e = go (same_key k key row) refl
  where
    go : (s : Bool) → same_key k key row ≡ s → stands k key (inserted k row xs) ≡ true
    go true q = stands_key k key row q (inserted k row xs) ∙ stands_inserted k row xs
    go false q = other_stands_inserted k key row q xs ∙ e

point_named : (x : Row) (b : Book) → finds (ref 2 Stop) x b ≡ true → passes (unknown StopPoint x b) ≡ true
unfolding unknown_of
point_named x b e = rw e

pub entered_named : (t : Table) (row : Row) (b : Book) → unknown t row b ≡ Ok tt → points_named b ≡ true → points_named (entered t row b) ≡ true
unfolding unknown_of
entered_named VehicleType row b u e = e
entered_named Depot row b u e = e
entered_named Stop row b u e =
    all_more (λ x. passes (unknown StopPoint x b)) (λ x. passes (unknown StopPoint x (entered Stop row b)))
    (λ x p. point_named x (entered Stop row b) (stands_still 2 (named Stop 2 x) row b.stops (point_names x b p))) b.points e
entered_named StopPoint row b u e = all_inserted (λ x. passes (unknown StopPoint x b)) 3 row (ap passes u) b.points e
entered_named Block row b u e = e
entered_named Calendar row b u e = e
