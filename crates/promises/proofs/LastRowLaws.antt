-- A row whose key is above all others' goes behind them. Assumes nothing.
use mathlib.Core.Path.{◌≡◌, refl}
use mathlib.Core.List.{List, [], ◌∷◌, ◌++◌}
use mathlib.Core.Bool.{false}
use Prim.Native.Nat.{ℕ}
use Rattle.words.specs.Words.{Row}
use Rattle.rows.specs.Rows.{key_order, inserted, stands}
use Rattle.std.specs.declared.cmp.Ordering.TheVariants.{Greater, Less}
use Rattle.rows.proofs.Rising.{Above, Rising}
use Rattle.rows.proofs.Keys.{less_more}

-- the row's key is above each of the others
unfoldable pub AboveAll : ℕ → Row → List Row → Type 0
AboveAll k row [] = Unit {0}
AboveAll k row (x ∷ xs) = (key_order k row x ≡ Greater) × AboveAll k row xs

pub inserted_last : (k : ℕ) (row : Row) (xs : List Row) → AboveAll k row xs → inserted k row xs ≡ xs ++ (row ∷ [])
unfolding inserted AboveAll
inserted_last k row [] h = refl
inserted_last k row (x ∷ xs) h = rw (h.0, inserted_last k row xs h.1)

pub stands_not : (k : ℕ) (row : Row) (xs : List Row) → AboveAll k row xs → stands k row xs ≡ false
unfolding stands AboveAll
stands_not k row [] h = refl
stands_not k row (x ∷ xs) h = rw (h.0, stands_not k row xs h.1)

above_one : (k : ℕ) (x y : Row) (xs ys : List Row) → Above k x (xs ++ (y ∷ ys)) → key_order k x y ≡ Less
unfolding Above
above_one k x y [] ys h = h.0
above_one k x y (z ∷ zs) ys h = above_one k x y zs ys h.1

pub above_all : (k : ℕ) (y : Row) (xs ys : List Row) → Rising k (xs ++ (y ∷ ys)) → AboveAll k y xs
unfolding Rising AboveAll
above_all k y [] ys h = tt
above_all k y (x ∷ xs) ys h = (less_more k x y (above_one k x y xs ys h.0), above_all k y xs ys h.1)
