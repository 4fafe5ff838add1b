-- `cell_question::cell_in_row` meets its contract: 6 and 7, and the cell of any other row. Assumes nothing.
use mathlib.Core.Path.{refl, sym, ap, ◌∙◌}
use Prim.Native.Nat.{ℕ, ◌+◌}
use native.Mathlib.Omega.{arith}
use lib.ListN.{get_or}
use Rattle.words.specs.Words.{Bytes}
use Rattle.tables.specs.Columns.{number}
use Rattle.header.specs.Heading.{cells_kept}
use Rattle.cell_question.specs.Asking.{cell_judged}
use Rattle.cell_question.proofs.Asking.{fault_answer, begin_within, row_refused, row_cell_lem}
use Rattle.cell_question.proofs.cell_in_row.Goals as goal

pub begin_of-requires : goal.begin_of-requires
begin_of-requires c = (c.cut_row-check.ensures.marks c.in-Ok.is).room

pub overflow_add-from : goal.overflow_add-from
overflow_add-from c =
    let st = c in
    omega (arith, c.begin_of.ensures, begin_within st.args.edition st.args.row.now _ (get_or st.args.at.now 0 0) (get_or st.args.at.now st.args.column 0) (c.cut_row-check.ensures.marks c.in-Ok.is), st.requires.0)

pub cell_of-cell-requires : goal.cell_of-cell-requires
cell_of-cell-requires c = c.cut_row-check.ensures.marks c.in-Ok.is

pub judged_cell-requires : goal.judged_cell-requires
judged_cell-requires c =
    let st = c in
    let m = c.cut_row-check.ensures.marks c.in-Ok.is in
    (omega (arith, c.begin_of.ensures, begin_within st.args.edition st.args.row.now _ (get_or st.args.at.now 0 0) (get_or st.args.at.now st.args.column 0) m, st.requires.0), st.requires.1, omega (arith, st.requires.2), st.requires.4)

pub returns-in-Err : goal.returns-in-Err
returns-in-Err c =
    let a = c.args in
    λ h k.
    fault_answer a.line c.refused.result c.in-Err.fault c.number.result (number a.t) c.in-Err.fault.number c.in-Err.fault.column c.refused.ensures refl c.number.ensures
    ∙ row_refused a.edition a.t h a.line a.column a.begin a.row.now c.in-Err.fault.number c.in-Err.fault.column (sym (c.cut_row-check.ensures.is h (ap cells_kept k)) ∙ c.in-Err.is)

pub returns-in-Ok : goal.returns-in-Ok
returns-in-Ok c =
    let st = c in
    let a = st.args in
    let passes = c.in-Ok.is in
    let from = a.begin + c.begin_of.result in
    λ h k.
    c.judged_cell.ensures
    ∙ ap (λ (cell : Bytes). cell_judged a.edition a.t a.line a.column from cell) c.cell_of-cell.ensures
    ∙ row_cell_lem a.edition a.t h a.line a.column a.begin a.row.now a.at.now _ (get_or a.at.now 0 0) (get_or a.at.now a.column 0) from (sym (c.cut_row-check.ensures.is h (ap cells_kept k)) ∙ passes) (c.cut_row-check.ensures.marks passes) (ap cells_kept k) k st.requires.1 st.requires.2 refl (ap (λ (x : ℕ). a.begin + x) c.begin_of.ensures)
