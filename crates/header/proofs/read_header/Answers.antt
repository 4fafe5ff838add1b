-- `header::read_header` meets its contract: what any line is refused for, too many cells, and the names of any other header. Assumes nothing.
use mathlib.Core.Path.{◌≡◌, sym, ap, ◌∙◌}
use Prim.Native.Nat.{◌<◌, ◌≤◌}
use native.Mathlib.Omega.{arith}
use lib.ListN.{length}
use Rattle.std.specs.Prelude.{Ok}
use Rattle.refusals.specs.Verdicts.{Check}
use Rattle.cells.specs.Cells.{cut, cells_of}
use Rattle.header.specs.Header.{header, line_check, most_cells}
use Rattle.header.specs.Heading.{headed}
use Rattle.header.proofs.Names.{header_refused, header_wide, header_names}
use Rattle.header.proofs.read_header.Goals as goal

pub returns-then-cells-gt-MOST_CELLS : goal.returns-then-cells-gt-MOST_CELLS
returns-then-cells-gt-MOST_CELLS c =
    let a = c.args in
    let line = a.line.now in
    let h = header a.edition a.t (cells_of (cut a.edition line)) in
    let r = c.cut_line-cut in
    let passes = c.in-Ok.is in
    let e : line_check a.edition line ≡ (Ok tt) = sym r.ensures.is ∙ passes in
    let l : most_cells < length (cells_of (cut a.edition line)) = omega (arith, r.ensures.counted passes, c.if-cells-gt-MOST_CELLS.true) in
    c.no_heading-then-cells-gt-MOST_CELLS.ensures h ∙ ap (λ (q : Check). headed q h) (c.too_many_cells.ensures ∙ sym (header_wide a.edition a.t line e l))

pub map_names-requires : goal.map_names-requires
map_names-requires c =
    let r = c.cut_line-cut in
    (r.ensures.marks c.in-Ok.is (omega (arith, c.if-cells-gt-MOST_CELLS.false, c.bounds-2-1.given)), c.requires)

pub returns-in-Err : goal.returns-in-Err
returns-in-Err c =
    let a = c.args in
    let line = a.line.now in
    let h = header a.edition a.t (cells_of (cut a.edition line)) in
    c.no_heading.ensures h ∙ ap (λ (q : Check). headed q h) (sym (header_refused a.edition a.t line c.in-Err.fault.number c.in-Err.fault.column (sym c.cut_line-cut.ensures.is ∙ c.in-Err.is)))

pub returns-else-cells-gt-MOST_CELLS : goal.returns-else-cells-gt-MOST_CELLS
returns-else-cells-gt-MOST_CELLS c =
    let a = c.args in
    let line = a.line.now in
    let h = header a.edition a.t (cells_of (cut a.edition line)) in
    let r = c.cut_line-cut in
    let passes = c.in-Ok.is in
    let e : line_check a.edition line ≡ (Ok tt) = sym r.ensures.is ∙ passes in
    let l : length (cells_of (cut a.edition line)) ≤ most_cells = omega (arith, r.ensures.counted passes, c.if-cells-gt-MOST_CELLS.false) in
    c.map_names.ensures ∙ ap (λ (q : Check). headed q h) (sym (header_names a.edition a.t line e l))
