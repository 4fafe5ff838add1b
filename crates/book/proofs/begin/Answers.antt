-- `book::begin` meets its contract: the edition is marked in the empty book. Assumes nothing.
use Rattle.book.proofs.Laying.{laid_begun}
use Rattle.book.proofs.begin.Goals as goal

pub returns : goal.returns
returns c = rw (c.marks.ensures, c.clear.ensures) (laid_begun c.args.edition)
