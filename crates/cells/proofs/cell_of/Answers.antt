-- `cells::cell_of` meets its contract: a cell stands between its bounds, and what is no cell's number has none. Assumes nothing.
use Prim.Native.Nat.{◌-◌}
use native.Mathlib.Omega.{arith}
use lib.ListN.{get_or}
use Rattle.cells.specs.Cells.{cut, cells_of}
use Rattle.cells.specs.Numbered.{cell_numbered}
use Rattle.cells.proofs.Marking.{Stands}
use Rattle.cells.proofs.Numbered.{cell_bounded}
use Rattle.cells.proofs.cell_of.Goals as goal
use Rattle.cells.proofs.cell_of.Goals.{After-shared_slice_known-2-1}

between : (c : After-shared_slice_known-2-1) → let a = c.args in Stands a.line.now (get_or a.bounds.now (a.cell - 1) 0) (get_or a.bounds.now a.cell 0) (cell_numbered a.cell (cells_of (cut a.edition a.line.now)))
between c =
    let st = c in
    cell_bounded st.args.edition st.args.line.now st.args.bounds.now st.args.cells st.args.cell st.requires (omega (arith, c.if-cell-eq0.false)) (omega (arith, c.if-cells-cell.false))

pub overflow_sub-to : goal.overflow_sub-to
overflow_sub-to c = omega (arith, (between (goal.at.overflow_sub-to c).After-shared_slice_known-2-1).ordered)

pub slice_bounds-result-count-2 : goal.slice_bounds-result-count-2
slice_bounds-result-count-2 c = omega (arith, (between (goal.at.slice_bounds-result-count-2 c).After-shared_slice_known-2-1).ordered)

pub slice_bounds-result-start-2 : goal.slice_bounds-result-start-2
slice_bounds-result-start-2 c = omega (arith, (between (goal.at.slice_bounds-result-start-2 c).After-shared_slice_known-2-1).ordered, (between (goal.at.slice_bounds-result-start-2 c).After-shared_slice_known-2-1).inside)

pub slice_bounds-result-end-2 : goal.slice_bounds-result-end-2
slice_bounds-result-end-2 c = omega (arith, (between (goal.at.slice_bounds-result-end-2 c).After-shared_slice_known-2-1).ordered, (between (goal.at.slice_bounds-result-end-2 c).After-shared_slice_known-2-1).inside)

pub returns : goal.returns
returns c = (between (goal.at.returns c).After-shared_slice_known-2-1).there
