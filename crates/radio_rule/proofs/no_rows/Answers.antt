-- `radio_rule::no_rows` meets its contract: the first row, and then all. Assumes nothing.
use mathlib.Core.Path.{sym, ◌∙◌}
use borrow.Author.Tests.{ne_eqb}
use Rattle.radio_rule.proofs.Zeros.{no_rows, some_rows}
use Rattle.radio_rule.proofs.no_rows.Goals as goal

pub returns-then-book-eq0 : goal.returns-then-book-eq0
returns-then-book-eq0 c = c.holding.ensures ∙ no_rows c.args.book.now c.requires c.if-book-eq0.true

pub returns-else-book-eq0 : goal.returns-else-book-eq0
returns-else-book-eq0 c = ne_eqb _ 0 c.if-book-eq0.false ∙ sym (some_rows c.args.book.now c.requires c.if-book-eq0.false)
