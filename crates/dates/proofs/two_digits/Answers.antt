-- `dates::two_digits` meets its contract. Assumes nothing.
use borrow.Author.Rules.{rules}
use Rattle.dates.proofs.two_digits.Goals as goal

pub returns : goal.returns
returns c = rw (c.from.ensures, c.from-2.ensures) (search rules)
