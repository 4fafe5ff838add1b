-- Wrong definitions, held against the promises: each breaks one.
use Rattle.std.specs.Prelude.{List, [], ◌∷◌}
use Rattle.words.specs.Words.{Bytes, Row}
use Rattle.book.specs.Book.{Book}
use Rattle.slips.specs.Slips.{posted}
use Rattle.promises.specs.Promises.{LineStores, RunStores, copies}

-- "a slip call that stores nothing": a line that leaves the book as it was
abbrev pub StoringNothing : Type 0
StoringNothing = ((row : Row) → LineStores (λ l b. b) (copies row)) → ⊥

-- "one that honours the first slip and merely says yes later"
abbrev pub first_alone : List Bytes → Book → Book
first_alone [] b = b
first_alone (s ∷ ss) b = posted s b

abbrev pub HonouringTheFirst : Type 0
HonouringTheFirst = ((row : Row) → RunStores first_alone (copies row)) → ⊥
