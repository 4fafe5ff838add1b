-- The checks of a row that has zeros behind its numbers. Assumes nothing.
use mathlib.Core.Path.{◌≡◌, refl, sym, ap, ◌∙◌}
use mathlib.Core.List.{List, [], ◌∷◌, map}
use Prim.Native.Nat.{ℕ}
use Rattle.words.specs.Words.{Bytes}
use Rattle.words.proofs.Lists.{get_d_padded}
use Rattle.refusals.specs.Verdicts.{◌⊳◌, ◌when◌, too_many_rows, ends_early, Check}
use Rattle.std.specs.Prelude.{Ok, Err}
use Rattle.numbers.specs.Numbers.{value}
use Rattle.rows.specs.Rows.{wide}
use Rattle.tables.specs.Columns.{key_width, references}
use Rattle.tables.specs.declared.Table.{Table}
use Rattle.tables.specs.declared.Table.TheVariants.{VehicleType, Depot, Stop, StopPoint, Block, Calendar}
use Rattle.tables.specs.declared.Reference.{Reference}
use Rattle.values.specs.Judged.{rowed}
use Rattle.values.specs.declared.Judged.{Judged}
use Rattle.book.specs.Book.{Book, rows, knows, full}
use Rattle.rules.specs.Rules.{time_fault, named, unknown_of, unknown, ruled}
use Rattle.rules.proofs.Referring.{stands_wide}
use Rattle.slip_line.specs.SlipLine.{bad_field}
use Rattle.slip_line.specs.Marks.{fields_read}
use Rattle.slip_line.specs.declared.Wish.TheVariants.{Add, Replace, Delete}
use Rattle.slip_line.proofs.Asking.{read_then}
use Rattle.block_change.specs.Change.{missing_block, line_judged}

-- rows with zeros behind their numbers -----------------------------------------------------------------------------------------

module _ (ns : List ℕ) where
  pub time_wide : time_fault Block (wide ns) ≡ time_fault Block ns
  time_wide = simp get_d_padded

  -- the key that a column names
  named_wide : (t : Table) (k : ℕ) → named t k (wide ns) ≡ named t k ns
  named_wide VehicleType k = simp get_d_padded
  named_wide Depot k = simp get_d_padded
  named_wide Stop k = simp get_d_padded
  named_wide StopPoint k = simp get_d_padded
  named_wide Block k = simp get_d_padded
  named_wide Calendar k = simp get_d_padded

  module _ (b : Book) where
    pub knows_wide : (t : Table) → knows t (wide ns) b ≡ knows t ns b
    knows_wide t = stands_wide (key_width t) ns (rows t b)

    unknown_of_wide : (xs : List Reference) → unknown_of xs (wide ns) b ≡ unknown_of xs ns b
    unfolding unknown_of
    unknown_of_wide [] = refl
    unknown_of_wide (x ∷ xs) = rw (named_wide x.to x.column, unknown_of_wide xs)

    pub unknown_wide : (t : Table) → unknown t (wide ns) b ≡ unknown t ns b
    unknown_wide t = unknown_of_wide (references t)

    pub ruled_wide : ruled Block (wide ns) b ≡ ruled Block ns b
    ruled_wide = rw (time_wide, knows_wide Block, unknown_wide Block)

module _ (fs : List Bytes) (b : Book) (j : Judged) (e : j ≡ fields_read b.edition fs) where
  abbrev ns : List ℕ
  ns = map value fs

  pub add_read : (too_many_rows when full Block b) ⊳ (j.check ⊳ ruled Block j.row b) ≡ line_judged Add fs ns b
  add_read = ap (λ (q : Check). (too_many_rows when full Block b) ⊳ q) (read_then b.edition (λ r. ruled Block r b) fs j e (ruled_wide ns b))

  pub replace_read : j.check ⊳ ((ends_early when time_fault Block j.row) ⊳ (missing_block j.row b ⊳ unknown Block j.row b)) ≡ line_judged Replace fs ns b
  replace_read =
      read_then b.edition (λ r. (ends_early when time_fault Block r) ⊳ (missing_block r b ⊳ unknown Block r b)) fs j e
      (rw (time_wide ns, knows_wide ns b Block, unknown_wide ns b Block))

  pub delete_read : j.check ⊳ missing_block j.row b ≡ line_judged Delete fs ns b
  delete_read = read_then b.edition (λ r. missing_block r b) fs j e (rw (knows_wide ns b Block))

  -- fields that pass
  pub read_passes : j.check ≡ Ok tt → bad_field b.edition fs ≡ Ok tt
  read_passes p = go (bad_field b.edition fs) (sym (ap (λ (i : Judged). i.check) e) ∙ p)
    where
      go : (q : Check) → (rowed q (wide ns)).check ≡ Ok tt → q ≡ Ok tt
      go (Ok _) h = refl
      go (Err f) h = h

  pub row_read_lem : j.check ≡ Ok tt → j.row ≡ wide ns
  row_read_lem p = ap (λ (i : Judged). i.row) (e ∙ ap (λ (c : Check). rowed c (wide ns)) (read_passes p))
