use mathlib.Core.Path.{sym, ◌∙◌}
use Rattle.cells.proofs.Ending.{inside_on, inside_break, inside_control, inside_doubled, inside_closed, inside_last}
use Rattle.cells.proofs.quoted_end.Goals as goal

pub bytes-preserved-then-stays_inside : goal.bytes-preserved-then-stays_inside
bytes-preserved-then-stays_inside c = let k = c in let a = k.args in sym (inside_on a.edition a.line.now k.bytes.i c.bytes-test.true (sym c.stays_inside.ensures ∙ c.if-stays_inside.true)) ∙ k.bytes.invariant

pub bytes-preserved-then-break_at : goal.bytes-preserved-then-break_at
bytes-preserved-then-break_at c = let k = c in let a = k.args in sym (inside_break a.edition a.line.now k.bytes.i c.bytes-test.true (sym c.break_at.ensures ∙ c.if-break_at.true)) ∙ k.bytes.invariant

pub returns-then-line-i-ne34 : goal.returns-then-line-i-ne34
returns-then-line-i-ne34 c = let k = c in let a = k.args in sym (inside_control a.edition a.line.now k.bytes.i c.bytes-test.true (sym c.stays_inside.ensures ∙ c.if-stays_inside.false) (sym c.break_at.ensures ∙ c.if-break_at.false) c.if-line-i-ne34.true) ∙ k.bytes.invariant

pub bytes-preserved : goal.bytes-preserved
bytes-preserved c = let k = c in let a = k.args in sym (inside_doubled a.edition a.line.now k.bytes.i c.bytes-test.true c.if-line-i-ne34.false (sym c.quote_at.ensures ∙ c.if-quote_at.true)) ∙ k.bytes.invariant

pub returns-else-quote_at : goal.returns-else-quote_at
returns-else-quote_at c = let k = c in let a = k.args in c.end_at.ensures ∙ sym (inside_closed a.edition a.line.now k.bytes.i c.bytes-test.true c.if-line-i-ne34.false (sym c.quote_at.ensures ∙ c.if-quote_at.false)) ∙ k.bytes.invariant

pub returns : goal.returns
returns c = let k = c in let a = k.args in sym (inside_last a.edition a.line.now k.bytes.i c.bytes-test.false) ∙ k.bytes.invariant
