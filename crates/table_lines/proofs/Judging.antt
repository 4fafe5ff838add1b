-- Laws of a line that is judged on a book, and of the lines of a text in turn. Assumes nothing.
use mathlib.Core.Path.{◌≡◌, sym, ap, ◌∙◌}
use mathlib.Core.Bool.{false, true}
use Prim.Native.Nat.{ℕ, ◌≤◌}
use Rattle.words.specs.Words.{Bytes}
use Rattle.refusals.specs.Verdicts.{◌⊳◌, too_many_rows, Check, fault}
use Rattle.std.specs.Prelude.{Ok, Err}
use Rattle.rows.specs.Rows.{column}
use Rattle.tables.specs.declared.Table.{Table}
use Rattle.values.specs.Judged.{rowed}
use Rattle.values.specs.declared.Judged.{Judged}
use Rattle.book.specs.Book.{Book, full}
use Rattle.rules.specs.Rules.{ruled}
use Rattle.header.specs.Header.{Header, cut_check}
use Rattle.row_line.specs.RowLine.{row_read}
use Rattle.row_line.specs.Judging.{cells_check, read}
use Rattle.header.proofs.Cutting.{check_order}
use Rattle.row_line.proofs.Filling.{row_version, line_passes, read_passes, read_row}
use Rattle.table_lines.specs.Reading.{judged}

-- the checks that need no book come first, then the rules
pub judged_read : (t : Table) (h : Header) (line : Bytes) (b : Book) → full t b ≡ false →
    judged t h line b ≡ (cut_check b.edition h line ⊳ cells_check b.edition t h line) ⊳ ruled t (row_read b.edition t h line) b
unfolding judged
judged_read t h line b e = rw e (sym (check_order (cut_check b.edition h line) (cells_check b.edition t h line) (ruled t (row_read b.edition t h line) b)))

module _ (t : Table) (h : Header) (line : Bytes) (b : Book) where
  pub judged_full : full t b ≡ true → judged t h line b ≡ too_many_rows
  unfolding judged
  judged_full e = rw e

  module _ (room : full t b ≡ false) (j : Judged) (is : j ≡ read b.edition t h line) where
    pub judged_bad : (n k : ℕ) → j.check ≡ Err (fault n k) → judged t h line b ≡ Err (fault n k)
    judged_bad n k e = judged_read t h line b room ∙ go (cut_check b.edition h line ⊳ cells_check b.edition t h line) (sym (ap (λ (x : Judged). x.check) is) ∙ e)
      where
        go : (c : Check) → (rowed c (row_read b.edition t h line)).check ≡ Err (fault n k) → (c ⊳ ruled t (row_read b.edition t h line) b) ≡ Err (fault n k)
        go (Ok _) f = cc
        go (Err w) f = f

    -- a line without a fault of its own: its row begins with a version, and the rules decide
    module _ (good : j.check ≡ Ok tt) where
      passing : (read b.edition t h line).check ≡ Ok tt
      passing = sym (ap (λ (x : Judged). x.check) is) ∙ good

      pub good_row : j.row ≡ row_read b.edition t h line
      good_row = ap (λ (x : Judged). x.row) is ∙ read_row b.edition t h line passing

      pub good_version : 1 ≤ column 1 j.row
      good_version = rw good_row (row_version b.edition t h line (read_passes b.edition t h line passing))

      pub judged_good : judged t h line b ≡ ruled t j.row b
      judged_good = judged_read t h line b room ∙ rw (line_passes b.edition t h line passing, good_row)
