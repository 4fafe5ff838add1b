-- `fault_mark::named_cell` meets its contract: a faulty header and one of too many cells name nothing. Assumes nothing.
use Prim.Native.Nat.{◌<◌, ◌≤◌}
use native.Mathlib.Omega.{arith}
use lib.ListN.{length}
use Rattle.cells.specs.Cells.{cut, cells_of}
use Rattle.cells.proofs.Marking.{good_count, bad_cell_lem}
use Rattle.cells.proofs.Numbered.{marks_of}
use Rattle.header.specs.Header.{header}
use Rattle.fault_mark.specs.Marks.{columns_named}
use Rattle.fault_mark.proofs.Marking.{named_faulty, named_wide, named_few, none_found, second_found, first_found}
use Rattle.fault_mark.proofs.named_cell.Goals as goal

pub returns-then-cells-gt-MOST_CELLS : goal.returns-then-cells-gt-MOST_CELLS
returns-then-cells-gt-MOST_CELLS c =
    let a = c.args in
    let head = a.head.now in
    let r = c.cells_of in
    let l : 32 < length (cells_of (cut a.edition head)) = omega (arith, good_count (cut a.edition head) r.result c.in-Ok.cells r.ensures.0 c.in-Ok.is, c.if-cells-gt-MOST_CELLS.true) in
    none_found a.second a.column (columns_named a.edition a.t head) (named_wide a.edition a.t head l)

pub named_behind-first-requires : goal.named_behind-first-requires
named_behind-first-requires c =
    let r = c.cells_of in
    marks_of c.args.edition c.args.head.now _ _ r.result r.ensures.0 r.ensures.1 c.in-Ok.is (omega (arith, c.if-cells-gt-MOST_CELLS.false, c.bounds-2-1.given))

pub named_behind-requires : goal.named_behind-requires
named_behind-requires c =
    let r = c.cells_of in
    marks_of c.args.edition c.args.head.now _ _ r.result r.ensures.0 r.ensures.1 c.in-Ok.is (omega (arith, c.if-cells-gt-MOST_CELLS.false, c.bounds-2-1.given))

pub returns-then-second : goal.returns-then-second
returns-then-second c =
    let a = c.args in
    let head = a.head.now in
    let r = c.cells_of in
    let l : length (cells_of (cut a.edition head)) ≤ 32 = omega (arith, good_count (cut a.edition head) r.result c.in-Ok.cells r.ensures.0 c.in-Ok.is, c.if-cells-gt-MOST_CELLS.false) in
    second_found a.second a.column (columns_named a.edition a.t head) (header a.edition a.t (cells_of (cut a.edition head))) (named_few a.edition a.t head l) c.if-second.true c.named_behind-first.result c.named_behind.result c.named_behind-first.ensures c.named_behind.ensures

pub returns-in-Err : goal.returns-in-Err
returns-in-Err c =
    let a = c.args in
    let head = a.head.now in
    let r = c.cells_of in
    none_found a.second a.column (columns_named a.edition a.t head) (named_faulty a.edition a.t head c.in-Err.field-0 (bad_cell_lem (cut a.edition head) r.result c.in-Err.field-0 r.ensures.0 c.in-Err.is))

pub returns-else-second : goal.returns-else-second
returns-else-second c =
    let a = c.args in
    let head = a.head.now in
    let r = c.cells_of in
    let l : length (cells_of (cut a.edition head)) ≤ 32 = omega (arith, good_count (cut a.edition head) r.result c.in-Ok.cells r.ensures.0 c.in-Ok.is, c.if-cells-gt-MOST_CELLS.false) in
    first_found a.second a.column (columns_named a.edition a.t head) (header a.edition a.t (cells_of (cut a.edition head))) (named_few a.edition a.t head l) c.if-second.false c.named_behind-first.result c.named_behind-first.ensures
