-- `day::empty_book` meets its contract. Assumes nothing.
use mathlib.Core.Path.{◌∙◌}
use Rattle.day.proofs.Days.{book_emptied, book_stays}
use Rattle.day.proofs.empty_book.Goals as goal

pub returns-then-book-eq-BOOK_ROWS : goal.returns-then-book-eq-BOOK_ROWS
returns-then-book-eq-BOOK_ROWS c = c.clear.ensures ∙ book_emptied c.args.book.now c.if-book-eq-BOOK_ROWS.true

pub returns-else-book-eq-BOOK_ROWS : goal.returns-else-book-eq-BOOK_ROWS
returns-else-book-eq-BOOK_ROWS c = book_stays c.args.book.now c.if-book-eq-BOOK_ROWS.false
