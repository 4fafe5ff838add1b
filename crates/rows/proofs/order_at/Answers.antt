-- `rows::order_at` meets its contract: by the test of the row's first number. Assumes nothing.
use borrow.Author.Tests.{eq-eqb, ne_eqb}
use Rattle.rows.proofs.order_at.Goals as goal

pub returns-then-list-at-eq0 : goal.returns-then-list-at-eq0
returns-then-list-at-eq0 c = simp (eq-eqb _ _ c.if-list-at-eq0.true)

pub returns : goal.returns
returns c = rw (ne_eqb _ _ c.if-list-at-eq0.false) c.compare.ensures
