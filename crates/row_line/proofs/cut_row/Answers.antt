-- `row_line::cut_row` meets its contract: what any line is refused for, another cell count, and any other row. Assumes nothing.
use Rattle.std.specs.Prelude.{Err}
use native.Mathlib.Omega.{arith}
use Rattle.std.proofs.lemmas.Result.{err_from_is_err_and}
use Rattle.row_line.proofs.Columns.{cut_refused, cut_count, cut_cells}
use Rattle.row_line.proofs.cut_row.Goals as goal

pub returns-then-cut-cells : goal.returns-then-cut-cells
returns-then-cut-cells c =
    let a = c.args in
    let r = c.cut_line-cut in
    cut_count a.edition a.line.now a.cells _ r.result r.ensures c.in_ok-cut.was c.if-cut-cells.true (Err c.cell_count.result) c.cell_count.ensures

pub returns-in_err-cut : goal.returns-in_err-cut
returns-in_err-cut c =
    let a = c.args in
    let r = c.cut_line-cut in
    let p = err_from_is_err_and c.from_residual.result c.from_residual.ensures.1 in
    rw (p.1, p.2) (cut_refused a.edition a.line.now a.cells _ r.result r.ensures _ _ c.in_err-cut.was)

pub returns : goal.returns
returns c =
    let st = c in
    let a = st.args in
    let r = c.cut_line-cut in
    cut_cells a.edition a.line.now a.cells _ r.result r.ensures c.in_ok-cut.was c.if-cut-cells.false (omega (arith, st.requires))
