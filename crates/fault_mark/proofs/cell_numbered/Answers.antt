-- `fault_mark::cell_numbered` meets its contract: no cell ends behind its line. Assumes nothing.
use Prim.Native.Nat.{◌-◌}
use Rattle.fault_mark.proofs.Marking.{cell_within}
use Rattle.fault_mark.proofs.cell_numbered.Goals as goal

pub slice_bounds-result-end-2 : goal.slice_bounds-result-end-2
slice_bounds-result-end-2 c =
    let a = c.args in
    cell_within a.line.now (a.cell - 1) c.cell_begin-from.result c.cell_end-to.result c.cell_begin-from.ensures c.cell_end-to.ensures
