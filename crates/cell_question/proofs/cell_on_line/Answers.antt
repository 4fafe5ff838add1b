-- `cell_question::cell_on_line` meets its contract: the way to the row, and its cell. Assumes nothing.
use mathlib.Core.Path.{ap, ◌∙◌}
use mathlib.Core.Bool.{not}
use Prim.Native.Nat.{ℕ}
use native.Mathlib.Omega.{arith}
use lib.ListN.{drop}
use Rattle.words.proofs.Lists.{part_length}
use Rattle.refusals.specs.Verdicts.{◌before◌, ◌when◌, nowhere, not_there}
use Rattle.lines.specs.Lines.{lines, head_line, starts_on}
use Rattle.lines.proofs.Lining.{line_from}
use Rattle.tables.proofs.Figures.{columns_few}
use Rattle.header.specs.Header.{header_of}
use Rattle.cell_question.specs.Asking.{above_from}
use Rattle.cell_question.proofs.Walking.{after_more, first_most, row_here}
use Rattle.cell_question.proofs.Asking.{way_refused, line_here_lem}
use Rattle.cell_question.proofs.cell_on_line.Goals as goal

pub row_asked-way-requires : goal.row_asked-way-requires
row_asked-way-requires c =
    let st = c in
    let e = st.args.edition in
    let s = st.args.bytes.now in
    let k = st.requires.2 in
    (k.short, omega (arith, k.first, after_more e 1 (head_line (lines e s))), omega (arith, k.first, first_most e s, k.short), k.inside, k.start)

pub slice_bounds-cell_in_row-count : goal.slice_bounds-cell_in_row-count
slice_bounds-cell_in_row-count c =
    let st = c in
    let s = st.args.bytes.now in
    let w = c.row_asked-way in
    let r = c.next_line-l in
    let h = w.ensures.inside c.in-Ok.is in
    let l = line_from st.args.edition s w.result.begin r.result h r.ensures in
    omega (arith, l.low)

pub slice_bounds-cell_in_row-start : goal.slice_bounds-cell_in_row-start
slice_bounds-cell_in_row-start c =
    let st = c in
    let s = st.args.bytes.now in
    let w = c.row_asked-way in
    let r = c.next_line-l in
    let h = w.ensures.inside c.in-Ok.is in
    let l = line_from st.args.edition s w.result.begin r.result h r.ensures in
    omega (arith, l.low, l.high)

pub slice_bounds-cell_in_row-end : goal.slice_bounds-cell_in_row-end
slice_bounds-cell_in_row-end c =
    let st = c in
    let s = st.args.bytes.now in
    let w = c.row_asked-way in
    let r = c.next_line-l in
    let h = w.ensures.inside c.in-Ok.is in
    let l = line_from st.args.edition s w.result.begin r.result h r.ensures in
    omega (arith, l.low, l.high)

pub cell_in_row-requires : goal.cell_in_row-requires
cell_in_row-requires c =
    let st = c in
    let s = st.args.bytes.now in
    let w = c.row_asked-way in
    let r = c.next_line-l in
    let h = w.ensures.inside c.in-Ok.is in
    let l = line_from st.args.edition s w.result.begin r.result h r.ensures in
    (omega (arith, part_length s w.result.begin r.result.end l.high, l.low, l.high, st.requires.2.short), st.requires.0, omega (arith, st.requires.1, columns_few st.args.edition st.args.t), st.requires.2.few, st.requires.4)

pub returns-in-Err : goal.returns-in-Err
returns-in-Err c =
    let st = c in
    let s = st.args.bytes.now in
    let w = c.row_asked-way in
    let a = st.args in
    let top = a.top in
    way_refused a.edition a.t s a.line a.column (λ z. omega (arith, st.requires.0)) st.requires.1 st.requires.3 top.line (lines a.edition (drop top.next s)) st.requires.2.first st.requires.2.rest w.result.verdict
    (w.ensures.is ∙ ap (λ (n : ℕ). above_from a.edition n a.line top.line (lines a.edition (drop top.next s)) before nowhere (not_there when not (starts_on a.edition a.line top.line (lines a.edition (drop top.next s))))) c.number.ensures) _ c.in-Err.is

pub returns-in-Ok : goal.returns-in-Ok
returns-in-Ok c =
    let st = c in
    let s = st.args.bytes.now in
    let w = c.row_asked-way in
    let a = st.args in
    let top = a.top in
    let r = c.next_line-l in
    let accepted = c.in-Ok.is in
    c.cell_in_row.ensures (header_of a.edition a.t s) st.requires.2.headed
    ∙ line_here_lem a.edition a.t s a.line a.column (λ z. omega (arith, st.requires.0)) st.requires.1 st.requires.3 top.line (lines a.edition (drop top.next s)) st.requires.2.first st.requires.2.rest w.result.verdict
    (w.ensures.is ∙ ap (λ (n : ℕ). above_from a.edition n a.line top.line (lines a.edition (drop top.next s)) before nowhere (not_there when not (starts_on a.edition a.line top.line (lines a.edition (drop top.next s))))) c.number.ensures) accepted w.result.begin _ (w.ensures.start accepted)
    (row_here a.edition c.number.result a.line top.line s top.next w.result w.ensures accepted r.result r.ensures)
