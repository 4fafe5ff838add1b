-- `radio_rule::header_keeps` meets its contract: the header line, where there is one, is read again. Assumes nothing.
use mathlib.Core.Path.{sym, ap, ◌∙◌}
use native.Mathlib.Omega.{arith}
use Rattle.refusals.specs.Verdicts.{passes}
use Rattle.radio_rule.proofs.Numbers.{lengths}
use Rattle.radio_rule.proofs.Rule.{header_none, header_some}
use Rattle.radio_rule.proofs.header_keeps.Goals as goal

pub returns-then-kept-le1 : goal.returns-then-kept-le1
returns-then-kept-le1 c = let a = c.args in sym (header_none a.edition a.kept.now a.lines.now c.if-kept-le1.true)

pub overflow_sub-kept : goal.overflow_sub-kept
overflow_sub-kept c = let st = c in omega (arith, (lengths st.args.kept.now st.requires.0 st.requires.2).table c.if-kept-le1.false)

pub slice_bounds-read_header-end : goal.slice_bounds-read_header-end
slice_bounds-read_header-end c = let st = c in omega (arith, st.requires.1, (lengths st.args.kept.now st.requires.0 st.requires.2).head)

pub returns : goal.returns
returns c =
    let rd = c in
    let t = rd in
    let a = t.args in
    c.is_ok.ensures.value ∙ sym (header_some a.edition a.kept.now a.lines.now t.if-kept-le1.false t.in_order-t.result t.in_order-t.ensures rd.read_header-heading.result rd.read_header-heading.ensures)
