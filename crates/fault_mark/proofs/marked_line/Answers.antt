-- `fault_mark::marked_line` meets its contract: the line of the place, where the text has it. Assumes nothing.
use mathlib.Core.Path.{◌≡◌, ap, ◌∙◌}
use native.Mathlib.Omega.{arith}
use Rattle.words.specs.Words.{Bytes}
use Rattle.lines.specs.Lines.{lines, head_line}
use Rattle.lines.proofs.Lining.{line_from, head_within, head_row}
use Rattle.fault_mark.specs.Marks.{cell_named}
use Rattle.fault_mark.proofs.Marking.{line_none, line_past, line_marked}
use Rattle.fault_mark.proofs.marked_line.Goals as goal

pub returns-then-place-eq0 : goal.returns-then-place-eq0
returns-then-place-eq0 c = let a = c.args in line_none a.edition a.t a.text.now a.place c.if-place-eq0.true

pub returns-then-text-start : goal.returns-then-text-start
returns-then-text-start c =
    let a = c.args in
    line_past a.edition a.t a.text.now a.place c.row_begin-start.result c.row_begin-start.ensures c.if-text-start.true

pub slice_bounds-faulty_cell-end : goal.slice_bounds-faulty_cell-end
slice_bounds-faulty_cell-end c =
    let a = c.args in
    head_within a.edition a.text.now c.next_line-head.result c.next_line-head.ensures

pub slice_bounds-marked_cell-count : goal.slice_bounds-marked_cell-count
slice_bounds-marked_cell-count c =
    let a = c.args in
    let s = a.text.now in
    let begin = c.row_begin-start.result in
    let r = c.next_line-line in
    let l = line_from a.edition s begin r.result (omega (arith, c.if-text-start.false)) r.ensures in
    omega (arith, l.low)

pub slice_bounds-marked_cell-start : goal.slice_bounds-marked_cell-start
slice_bounds-marked_cell-start c =
    let a = c.args in
    let s = a.text.now in
    let begin = c.row_begin-start.result in
    let r = c.next_line-line in
    let l = line_from a.edition s begin r.result (omega (arith, c.if-text-start.false)) r.ensures in
    omega (arith, l.low, l.high)

pub slice_bounds-marked_cell-end : goal.slice_bounds-marked_cell-end
slice_bounds-marked_cell-end c =
    let a = c.args in
    let s = a.text.now in
    let begin = c.row_begin-start.result in
    let r = c.next_line-line in
    let l = line_from a.edition s begin r.result (omega (arith, c.if-text-start.false)) r.ensures in
    omega (arith, l.low, l.high)

pub returns : goal.returns
returns c =
    let a = c.args in
    let s = a.text.now in
    let p = a.place in
    let n = c.row_begin-start in
    let r = c.next_line-line in
    let f = c.faulty_cell-cell in
    let head = c.next_line-head in
    let e : f.result ≡ cell_named a.edition a.t (head_line (lines a.edition s)) p.number p.column = f.ensures ∙ ap (λ (x : Bytes). cell_named a.edition a.t x p.number p.column) (head_row a.edition s head.result head.ensures) in
    c.marked_cell.ensures ∙ line_marked a.edition a.t s p n.result n.ensures c.if-text-start.false f.result r.result r.ensures e
