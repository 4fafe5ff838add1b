-- `radio_rule::book_keeps` meets its contract, with a fault and without. Assumes nothing.
use mathlib.Core.Path.{sym, ◌∙◌}
use Rattle.radio_rule.proofs.Rule.{book_lawful, book_empty}
use Rattle.radio_rule.proofs.book_keeps.Goals as goal

pub returns-then-kept-eq0 : goal.returns-then-kept-eq0
returns-then-kept-eq0 c = let a = c.args in c.keeps_rule.ensures ∙ sym (book_lawful a.kept.now a.book.now c.if-kept-eq0.true)

pub returns-else-kept-eq0 : goal.returns-else-kept-eq0
returns-else-kept-eq0 c = let a = c.args in c.no_rows.ensures ∙ sym (book_empty a.kept.now a.book.now c.if-kept-eq0.false)
