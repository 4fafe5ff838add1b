-- The names of the columns: a column's number. Assumes nothing.
use mathlib.Core.List.{List, [], ◌∷◌}
use mathlib.Core.Bool.{Bool, true, false, ◌||◌, ◌&&◌, not}
use mathlib.Core.Path.{◌≡◌, refl}
use Prim.Native.Nat.{ℕ, suc, ◌+◌, ◌≤◌}
use native.Mathlib.Omega.{arith}
use lib.ListN.{length}
use lib.Dec.{eqb}
use Rattle.words.specs.Words.{Bytes, whether◌then◌else◌, same, bytes}
use Rattle.words.proofs.Lists.{every}
use Rattle.tables.specs.Columns.{Column, column_from, columns_of, column_number}
use Rattle.editions.specs.declared.Edition.{Edition}
use Rattle.editions.specs.declared.Edition.TheVariants.{Dino21, Dino23}
use Rattle.tables.specs.declared.Table.{Table}
use Rattle.tables.specs.declared.Table.TheVariants.{VehicleType, Depot, Stop, StopPoint, Block, Calendar}

-- a column's number is at most the count of columns
number_from : (k : ℕ) (xs : List Column) (name : Bytes) → column_from (suc k) xs name ≤ k + length xs
unfolding column_from
number_from k [] name = omega arith
number_from k (x ∷ xs) name = go (same name x.name || same name x.other) (number_from (suc k) xs name)
  where
    go : (b : Bool) → column_from (suc (suc k)) xs name ≤ suc k + length xs → (whether b then suc k else column_from (suc (suc k)) xs name) ≤ k + suc (length xs)
    go true h = omega arith
    go false h = omega arith

pub column_number_most : (e : Edition) (t : Table) (name : Bytes) → column_number e t name ≤ length (columns_of e t)
unfolding column_number
column_number_most e t name = omega (arith, number_from 0 (columns_of e t) name)

-- a name without a quote is found in a text whether its doubled quotes are counted once or twice
abbrev pub quoteless : Bytes → Bool
quoteless [] = true
quoteless (b ∷ bs) = not (eqb b 34) && quoteless bs

abbrev pub unquoted : Column → Bool
unquoted x = quoteless x.name && quoteless x.other

pub all_unquoted : (e : Edition) (t : Table) → every unquoted (columns_of e t) ≡ true
unfolding columns_of bytes
all_unquoted Dino21 VehicleType = refl
all_unquoted Dino23 VehicleType = refl
all_unquoted Dino21 Depot = refl
all_unquoted Dino23 Depot = refl
all_unquoted Dino21 Stop = refl
all_unquoted Dino23 Stop = refl
all_unquoted Dino21 StopPoint = refl
all_unquoted Dino23 StopPoint = refl
all_unquoted Dino21 Block = refl
all_unquoted Dino23 Block = refl
all_unquoted Dino21 Calendar = refl
all_unquoted Dino23 Calendar = refl
