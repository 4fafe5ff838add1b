-- The book while one of its tables stands on a shelf.
-- Inner: no promise and no contract of a public function speaks of it.
use Rattle.std.specs.Prelude.{List, ◌≡◌, true, ℕ, suc, length, Ok}
use Rattle.words.specs.Words.{Row}
use Rattle.refusals.specs.Verdicts.{Check}
use Rattle.rows.specs.Rows.{rising}
use Rattle.rows.specs.Room.{used}
use Rattle.shelf.specs.Shelf.{shelved, Shelf}
use Rattle.tables.specs.declared.Table.{Table}
use Rattle.tables.specs.Columns.{key_width}
use Rattle.tables.specs.Parts.{room}
use Rattle.book.specs.Book.{Book, with_rows, entered}
use Rattle.book.specs.Room.{book_of}
use Rattle.book.specs.Holding.{Sound}
use Rattle.rules.specs.Points.{Referable}
use Rattle.rules.specs.Rules.{ruled}

-- the book that a slice holds, with the shelf's rows in one table
abbrev pub shelf_book : Table → List Row → List Row → List ℕ → ℕ → Book
shelf_book t slice slots order n = with_rows t (shelved slots order n) (book_of slice)

-- the shelf's rows could stand in the table's part of the book
pub record OnShelf (t : Table) (slice slots : List Row) (order : List ℕ) (n : ℕ) : Type 0 where
  pub sound : Sound slice
  pub points : Referable t (book_of slice)
  pub shelf : Shelf slots order n
  pub long : length slots ≡ room t
  pub rises : rising (key_width t) (shelved slots order n) ≡ true
  pub begun : used (shelved slots order n) ≡ shelved slots order n

-- a row judged, and entered where it keeps the rules
pub record Entered (t : Table) (row : Row) (slice slots slots' : List Row) (order order' : List ℕ) (n : ℕ) (c : Check) : Type 0 where
  pub is : c ≡ ruled t row (shelf_book t slice slots order n)
  pub on : c ≡ Ok tt → OnShelf t slice slots' order' (suc n)
  pub enters : c ≡ Ok tt → shelf_book t slice slots' order' (suc n) ≡ entered t row (shelf_book t slice slots order n)
  pub stays : (c ≡ Ok tt → ⊥) → (slots' ≡ slots) × (order' ≡ order)
