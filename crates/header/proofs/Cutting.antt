-- A line of a table cut into its cells: 17, 6, and what is known of any other. Assumes nothing.
use mathlib.Core.Path.{◌≡◌, refl, sym, ◌∙◌}
use mathlib.Core.List.{List}
use Prim.Native.Nat.{ℕ, ◌<◌, ◌≤◌}
use native.Mathlib.Omega.{arith}
use lib.ListN.{length}
use borrow.Author.Tests.{lt-ltb, le-ltb}
use Rattle.words.specs.Words.{Bytes}
use Rattle.refusals.specs.Verdicts.{◌⊳◌, line_too_long, quote_fault, Check, fault}
use Rattle.lines.specs.Lines.{most_line}
use Rattle.editions.specs.declared.Edition.{Edition}
use Rattle.cells.specs.Cells.{faulty, cells, cut}
use Rattle.cells.specs.Marks.{BoundsOf, answer_of}
use Rattle.std.specs.Prelude.{Result, Ok, Err}
use Rattle.cells.proofs.Cutting.{faulty_from_one}
use Rattle.cells.proofs.Marking.{good_cells, good_count, bad_cell_lem}
use Rattle.cells.proofs.Numbered.{marks_of}
use Rattle.header.specs.Header.{line_check}
use Rattle.header.specs.Heading.{LineCut}

pub check_order : (a b c : Check) → ((a ⊳ b) ⊳ c) ≡ (a ⊳ (b ⊳ c))
check_order (Ok _) b c = refl
check_order (Err f) b c = refl

module _ (ed : Edition) (line : Bytes) (bounds : List ℕ) where
  -- nothing is known of the cells of a line that is refused
  refused_cut : (c : Check) (n k m : ℕ) → c ≡ Err (fault n k) → c ≡ line_check ed line → LineCut ed line bounds (record { check = c; cells = m })
  refused_cut c n k m f e =
      record {
        is = e;
        counted = λ p. let z : ◌≡◌ {A = ℕ} 0 1 = cc in absurd (omega arith);
        marks = λ p. let z : ◌≡◌ {A = ℕ} 0 1 = cc in absurd (omega arith);
      }

  pub cut_long : most_line < length line → (c : Check) (m : ℕ) → c ≡ line_too_long → LineCut ed line bounds (record { check = c; cells = m })
  cut_long l c m f = refused_cut c 17 0 m f (f ∙ sym (rw (lt-ltb most_line (length line) l)))

  module _ (short : length line ≤ most_line) (r : Result ℕ ℕ) (e : r ≡ answer_of (cut ed line)) (n : ℕ) where
    pub cut_faulty : r ≡ Err n → (c : Check) (m : ℕ) → c ≡ quote_fault n → LineCut ed line bounds (record { check = c; cells = m })
    cut_faulty g c m f =
        let p : cut ed line ≡ faulty n = bad_cell_lem (cut ed line) r n e g in
        refused_cut c 6 n m f (f ∙ sym (rw (le-ltb most_line (length line) short, p, lt-ltb 0 n (faulty_from_one ed line n p))))

    pub cut_cells : ((cs : List Bytes) → cut ed line ≡ cells cs → BoundsOf cs (length bounds) bounds) → r ≡ Ok n → LineCut ed line bounds (record { check = Ok tt; cells = n })
    cut_cells b g =
        record {
          is = sym (rw (le-ltb most_line (length line) short, good_cells (cut ed line) r n e g));
          counted = λ p. good_count (cut ed line) r n e g;
          marks = λ p l. marks_of ed line bounds n r e b g l;
        }
