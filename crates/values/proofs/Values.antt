-- What content is to a column: by its length, by what it is read as, and what content that keeps to the rules tells. Assumes nothing.
use mathlib.Core.Path.{◌≡◌, refl, sym, ◌∙◌}
use mathlib.Core.Bool.{Bool, true, false, not}
use Prim.Native.Nat.{ℕ, ◌<◌, ◌≤◌}
use native.Mathlib.Omega.{arith}
use lib.Dec.{eqb, ltb}
use lib.ListN.{length}
use borrow.Author.Tests.{le-leb, eqb-false, ltb-false}
use Rattle.std.specs.Prelude.{Some, None}
use Rattle.words.specs.Words.{Bytes, whether◌then◌else◌}
use Rattle.refusals.specs.Verdicts.{◌when◌, ◌⊳◌, passes, cell_empty, cell_too_long, not_digits, out_of_range}
use Rattle.std.specs.Prelude.{Ok}
use Rattle.numbers.specs.Numbers.{all_digits, value}
use Rattle.numbers.specs.Decimals.{decimal_of}
use Rattle.tables.specs.declared.Sort.{Sort}
use Rattle.tables.specs.declared.Sort.TheVariants.{Decimal, Text}
use Rattle.tables.specs.declared.Rules.{Rules}
use Rattle.tables.specs.Columns.{in_range, column_at, kept_width}
use Rattle.editions.specs.declared.Edition.{Edition}
use Rattle.tables.specs.declared.Table.{Table}
use Rattle.ranges.proofs.Ranges.{range_within}
use Rattle.tables.proofs.Figures.{kept_decimal, kept_required, decimal_width}
use Rattle.values.specs.Values.{cell_check, said_check}
use Rattle.values.specs.Judged.{breaks, by_digits, by_sort, value_of, check_of}
use Rattle.values.specs.declared.Value.{Value}
use Rattle.values.specs.declared.Value.TheVariants as value-is

-- content that is neither empty nor too long is a decimal if it is digits
fits_digits : (w : ℕ) (s : Bytes) → eqb (length s) 0 ≡ false → ltb w (length s) ≡ false → decimal_of w s ≡ (whether all_digits s then Some (value s) else None)
unfolding decimal_of
fits_digits w s e l = rw (le-leb 1 (length s) (omega (arith, eqb-false (length s) 0 e)), le-leb (length s) w (ltb-false w (length s) l))

-- a value's check is the cell's
pub check_of_value : (k : ℕ) (x : Rules) (s : Bytes) → check_of k (value_of x s) ≡ cell_check k x s
check_of_value k x s = by_length_lem (eqb (length s) 0) refl x.required (ltb x.width (length s)) refl
  where
    by_range : (b : Bool) → check_of k (whether b then value-is.Number (value s) else value-is.Bad 21) ≡ (out_of_range k when not b)
    by_range true = refl
    by_range false = refl

    by_digits_lem : (b : Bool) → check_of k (by_digits x (whether b then Some (value s) else None)) ≡ (not_digits k when not b ⊳ out_of_range k when not (in_range x (value s)))
    by_digits_lem true = by_range (in_range x (value s))
    by_digits_lem false = refl

    by_sort_lem : eqb (length s) 0 ≡ false → ltb x.width (length s) ≡ false → (sort : Sort) → check_of k (by_sort sort x s) ≡ said_check sort k x s
    by_sort_lem e l Decimal = rw (fits_digits x.width s e l) (by_digits_lem (all_digits s))
    by_sort_lem e l Text = refl

    by_length_lem : (z : Bool) → eqb (length s) 0 ≡ z → (q : Bool) → (w : Bool) → ltb x.width (length s) ≡ w
        → check_of k (whether z then (whether q then value-is.Bad 19 else value-is.Empty) else (whether w then value-is.Bad 20 else by_sort x.sort x s))
        ≡ (whether z then cell_empty k when q else (cell_too_long k when w ⊳ said_check x.sort k x s))
    by_length_lem true e true w l = refl
    by_length_lem true e false w l = refl
    by_length_lem false e q true l = refl
    by_length_lem false e q false l = by_sort_lem e l x.sort

-- at which column content stands says nothing of whether it has a fault
pub check_kept : (k : ℕ) (x : Rules) (s : Bytes) → cell_check k x s ≡ Ok tt → breaks x s ≡ false
check_kept k x s e = rw (← check_of_value 0 x s) (go (value_of x s) (check_of_value k x s ∙ e))
  where
    go : (v : Value) → check_of k v ≡ Ok tt → not (passes (check_of 0 v)) ≡ false
    go (value-is.Number n) p = refl
    go value-is.Text p = refl
    go value-is.Empty p = refl
    go (value-is.Bad n) p = cc

pub kept_check : (k : ℕ) (x : Rules) (s : Bytes) → breaks x s ≡ false → cell_check k x s ≡ Ok tt
kept_check k x s e = sym (check_of_value k x s) ∙ go (value_of x s) (rw (check_of_value 0 x s) e)
  where
    go : (v : Value) → not (passes (check_of 0 v)) ≡ false → check_of k v ≡ Ok tt
    go (value-is.Number n) p = refl
    go value-is.Text p = refl
    go value-is.Empty p = refl
    go (value-is.Bad n) p = cc

-- what a required number that keeps to its column's rules tells
module _ (x : Rules) (s : Bytes) (e : x.sort ≡ Decimal) (q : x.required ≡ true) (b : breaks x s ≡ false) where
  number_kept : (value_of x s ≡ value-is.Number (value s)) × (in_range x (value s) ≡ true)
  number_kept = by_length_lem (eqb (length s) 0) refl (ltb x.width (length s)) refl (kept_check 0 x s b)
    where
      by_range : (i : Bool) → (out_of_range 0 when not i) ≡ Ok tt → ((whether i then value-is.Number (value s) else value-is.Bad 21) ≡ value-is.Number (value s)) × (i ≡ true)
      by_range true p = (refl, refl)
      by_range false p = let z : ◌≡◌ {A = ℕ} 0 1 = cc in absurd (omega arith)

      by_digits_lem : (d : Bool) → (not_digits 0 when not d ⊳ out_of_range 0 when not (in_range x (value s))) ≡ Ok tt
          → (by_digits x (whether d then Some (value s) else None) ≡ value-is.Number (value s)) × (in_range x (value s) ≡ true)
      by_digits_lem true p = by_range (in_range x (value s)) p
      by_digits_lem false p = let z : ◌≡◌ {A = ℕ} 0 1 = cc in absurd (omega arith)

      by_sort_lem : eqb (length s) 0 ≡ false → ltb x.width (length s) ≡ false → (sort : Sort) → sort ≡ Decimal → said_check sort 0 x s ≡ Ok tt
          → (by_sort sort x s ≡ value-is.Number (value s)) × (in_range x (value s) ≡ true)
      by_sort_lem f l Decimal d p = rw (fits_digits x.width s f l) (by_digits_lem (all_digits s) p)
      by_sort_lem f l Text d p = let z : ◌≡◌ {A = ℕ} 0 1 = cc in absurd (omega arith)

      by_length_lem : (z : Bool) → eqb (length s) 0 ≡ z → (w : Bool) → ltb x.width (length s) ≡ w
          → (whether z then cell_empty 0 when x.required else (cell_too_long 0 when w ⊳ said_check x.sort 0 x s)) ≡ Ok tt
          → ((whether z then (whether x.required then value-is.Bad 19 else value-is.Empty) else (whether w then value-is.Bad 20 else by_sort x.sort x s)) ≡ value-is.Number (value s)) × (in_range x (value s) ≡ true)
      by_length_lem true f w l p = let z : ◌≡◌ {A = ℕ} 0 1 = cc in absurd (omega arith)
      by_length_lem false f true l p = let z : ◌≡◌ {A = ℕ} 0 1 = cc in absurd (omega arith)
      by_length_lem false f false l p = by_sort_lem f l x.sort e p

  pub number_value : value_of x s ≡ value-is.Number (value s)
  number_value = number_kept.0

  pub number_in_range : in_range x (value s) ≡ true
  number_in_range = number_kept.1

  pub number_from : x.low ≤ value s
  number_from = (range_within x (value s) number_kept.1).0

-- what the book keeps of a row
pub kept_value : (e : Edition) (t : Table) (i : ℕ) → i < kept_width t → (s : Bytes) → breaks (column_at e t i).rules s ≡ false → value_of (column_at e t i).rules s ≡ value-is.Number (value s)
kept_value e t i h s b = number_value (column_at e t i).rules s (kept_decimal e t i h) (kept_required e t i h) b

-- of_cell and of_field ask that a decimal column is no wider than 64 bits
pub column_narrow : (e : Edition) (t : Table) (i : ℕ) → (column_at e t i).rules.sort ≡ Decimal → (column_at e t i).rules.width ≤ 19
column_narrow e t i d = omega (arith, decimal_width e t i d)
