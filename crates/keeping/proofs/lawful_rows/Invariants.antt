-- `keeping::lawful_rows` meets its contract: the rows before place i are lawful. Assumes nothing.
use mathlib.Core.Path.{◌≡◌}
use lib.ListN.{drop}
use Rattle.words.specs.Words.{all}
use Rattle.book.specs.Book.{rows}
use Rattle.book.specs.Room.{book_of}
use Rattle.keeping.specs.Keeping.{lawful}
use Rattle.keeping.proofs.lawful_rows.Given as goal

abbrev pub invariant-loop-row : goal.invariant-loop-row
invariant-loop-row l =
    all (lawful l.t (book_of l.book)) (rows l.t (book_of l.book)) ≡ all (lawful l.t (book_of l.book)) (drop l.row-index l.row-items)
