-- The numbers of a slip line, field by field. Assumes nothing.
use mathlib.Core.Path.{◌≡◌, sym, refl, ap, ◌∙◌}
use mathlib.Core.List.{List, [], ◌∷◌, ◌++◌, map}
use mathlib.Core.Bool.{false}
use Prim.Native.Nat.{◌+◌, ◌≤◌, ℕ, suc, ◌<◌, ◌-◌}
use native.Mathlib.Numerals.{add-one}
use native.Mathlib.Omega.{arith}
use lib.ListN.{length, get_or, drop, drop_of_length-le, take, replicate, set, length-map}
use lib.Seq.{take_all}
use lib.Dec.{lit<}
use Rattle.words.specs.Words.{Bytes, Row}
use Rattle.words.proofs.Lists.{drop_step, map_set}
use Rattle.refusals.proofs.Chaining.{both}
use Rattle.std.specs.Prelude.{Ok, Err}
use Rattle.refusals.specs.Verdicts.{◌⊳◌, Check, fault}
use Rattle.cells.proofs.Marking.{Stands}
use Rattle.numbers.specs.Numbers.{value}
use Rattle.fields.specs.Fields.{fields}
use Rattle.fields.specs.declared.Fields.{Fields}
use Rattle.fields.proofs.Cutting.{fields_some, field_stands}
use Rattle.rows.specs.Rows.{wide, column}
use Rattle.editions.specs.declared.Edition.{Edition}
use Rattle.editions.specs.declared.Edition.TheVariants.{Dino21, Dino23}
use Rattle.tables.specs.Columns.{columns_of, Column, column_at, no_column}
use Rattle.tables.specs.declared.Table.TheVariants.{Block}
use Rattle.tables.proofs.Figures.{version_low, kept_decimal, kept_required}
use Rattle.values.specs.Values.{bad_cell, cell_check}
use Rattle.values.specs.Judged.{breaks, value_of, check_of, rowed, unkept}
use Rattle.values.specs.declared.Value.{Value}
use Rattle.values.specs.declared.Value.TheVariants as value-is
use Rattle.values.proofs.Values.{check_of_value, check_kept, kept_value, number_from}
use Rattle.slip_line.specs.SlipLine.{numbers, bad_field}
use Rattle.slip_line.specs.Marks.{FieldsOf}

-- the fields behind the first
pub numbers_count : (fs : List Bytes) → 1 ≤ length fs → length fs ≡ length (numbers fs) + 1
numbers_count [] h = absurd (omega arith)
numbers_count (f ∷ fs) h = sym (add-one (length fs))

pub numbers_at : (fs : List Bytes) (i : ℕ) → get_or fs (i + 1) [] ≡ get_or (numbers fs) i []
numbers_at [] i = refl
numbers_at (f ∷ fs) i = rw add-one

-- each number stands on the line between its bounds
pub number_stands : (line : Bytes) (marks : Fields) (n i : ℕ) → FieldsOf line marks → length (numbers (fields line)) ≡ n → n ≤ 11 → i < n
    → Stands line (get_or marks.bounds (i + 1) 0) (get_or marks.bounds (i + 2) 0) (get_or (numbers (fields line)) i [])
number_stands line marks n i m c few h =
    let k : length (fields line) ≡ length (numbers (fields line)) + 1 = numbers_count (fields line) (fields_some line) in
    let e : suc (i + 1) ≡ i + 2 = omega arith in
    rw (numbers_at (fields line) i, e) at (field_stands line 13 marks.bounds (i + 1) m.1 (omega arith) (omega arith))

-- 8, column by column
abbrev pub bad_from : Edition → ℕ → List Bytes → Check
bad_from ed i fs = bad_cell (i + 1) (drop i (columns_of ed Block)) (drop i fs)

block_columns : (ed : Edition) → length (columns_of ed Block) ≡ 11
unfolding columns_of
block_columns Dino21 = refl
block_columns Dino23 = refl

module _ (ed : Edition) (fs : List Bytes) (few : length fs ≤ 11) (i : ℕ) where
  bad_here : i < length fs → bad_from ed i fs ≡ cell_check (i + 1) (column_at ed Block i).rules (get_or fs i []) ⊳ bad_from ed (i + 1) fs
  unfolding bad_cell
  bad_here h =
      let g : i < length (columns_of ed Block) = omega (arith, block_columns ed) in
      rw (drop_step no_column (columns_of ed Block) i g, drop_step [] fs i h, add-one (i + 1))

  -- what a value answers to its column
  module _ (v : Value) (q : Check) (in_row : i < length fs) (is : v ≡ value_of (column_at ed Block i).rules (get_or fs i [])) (checked : q ≡ check_of (i + 1) v) where
    field_check : q ≡ cell_check (i + 1) (column_at ed Block i).rules (get_or fs i [])
    field_check = checked ∙ ap (check_of (i + 1)) is ∙ check_of_value (i + 1) (column_at ed Block i).rules (get_or fs i [])

    pub field_fault : (n k : ℕ) → q ≡ Err (fault n k) → bad_from ed i fs ≡ Err (fault n k)
    field_fault n k e = bad_here in_row ∙ ap (λ (c : Check). c ⊳ bad_from ed (i + 1) fs) (sym field_check ∙ e)

    pub field_passes : q ≡ Ok tt → bad_from ed i fs ≡ bad_from ed (i + 1) fs
    field_passes e = bad_here in_row ∙ ap (λ (c : Check). c ⊳ bad_from ed (i + 1) fs) (sym field_check ∙ e)

    keeps : q ≡ Ok tt → breaks (column_at ed Block i).rules (get_or fs i []) ≡ false
    keeps e = check_kept (i + 1) (column_at ed Block i).rules (get_or fs i []) (sym field_check ∙ e)

    pub field_number : q ≡ Ok tt → v ≡ value-is.Number (value (get_or fs i []))
    field_number e = is ∙ kept_value ed Block i (omega arith) (get_or fs i []) (keeps e)

  pub bad_end : length fs ≤ i → bad_from ed i fs ≡ Ok tt
  unfolding bad_cell
  bad_end h = rw (drop_of_length-le fs {i = i} h) (none (drop i (columns_of ed Block)))
    where
      none : (cs : List Column) → bad_cell (i + 1) cs [] ≡ Ok tt
      none [] = refl
      none (x ∷ cs) = refl

-- the row so far
abbrev pub row_sofar : ℕ → List Bytes → Row
row_sofar i fs = map value (take i fs) ++ replicate (11 - i) 0

pub row_more : (fs : List Bytes) (i v : ℕ) → i < length fs → i < 11 → v ≡ value (get_or fs i []) → set (row_sofar i fs) i v ≡ row_sofar (i + 1) fs
row_more fs i v h g e = rw e (map_set value [] 0 fs 11 i h g)

pub row_whole : (fs : List Bytes) (i : ℕ) → i ≡ length fs → row_sofar i fs ≡ wide (map value fs)
row_whole fs i e =
    let h : length fs ≤ i = omega arith in
    rw (take_all i fs h, e, length-map fs value)

-- what is answered of the fields
module _ (q : Check) (row : Row) where
  pub refused : (n k : ℕ) (check : Check) → check ≡ Err (fault n k) → q ≡ Err (fault n k) → unkept check ≡ rowed q row
  refused n k check c e = rw (c, e)

  pub passed : (l : Row) → q ≡ Ok tt → l ≡ row → record { check = Ok tt; row = l } ≡ rowed q row
  passed l e f = rw (e, f)

-- a line whose fields pass names a VERSION of at least 1
pub version_some : (ed : Edition) (fs : List Bytes) → 1 ≤ length fs → length fs ≤ 11 → bad_field ed fs ≡ Ok tt → 1 ≤ column 1 (map value fs)
version_some ed [] h few e = absurd (omega arith)
version_some ed (f ∷ fs) h few e =
    let p : cell_check 1 (column_at ed Block 0).rules f ≡ (Ok tt) = (both (cell_check 1 (column_at ed Block 0).rules f) (bad_from ed 1 (f ∷ fs)) (sym (bad_here ed (f ∷ fs) few 0 (omega arith)) ∙ e)).0 in
    let k : breaks (column_at ed Block 0).rules f ≡ false = check_kept 1 (column_at ed Block 0).rules f p in
    omega (arith, version_low ed Block, number_from (column_at ed Block 0).rules f (kept_decimal ed Block 0 (lit< tt)) (kept_required ed Block 0 (lit< tt)) k)
