use mathlib.Core.Path.{sym, ◌∙◌}
use lib.ListN.{drop}
use Rattle.cells.proofs.Ending.{fresh_inside, fresh_plain}
use Rattle.cells.proofs.cell_end.Goals as goal

pub returns-then-quote_at : goal.returns-then-quote_at
returns-then-quote_at c = c.quoted_end.ensures ∙ sym (fresh_inside c.args.edition c.args.line.now c.args.from (sym c.quote_at.ensures ∙ c.if-quote_at.true))

pub returns : goal.returns
returns c = c.plain_end.ensures c.args.edition ∙ sym (fresh_plain c.args.edition c.args.from (drop c.args.from c.args.line.now) (sym c.quote_at.ensures ∙ c.if-quote_at.false))
