-- What the lines of a slip leave on the shelf that the blocks stand on.
-- Inner: no promise and no contract of a public function speaks of it.
use Rattle.std.specs.Prelude.{◌≡◌, List, ℕ, Ok, Err}
use Rattle.words.specs.Words.{Bytes, Row}
use Rattle.refusals.specs.Verdicts.{Verdict}
use Rattle.lines.specs.Lines.{slip_lines}
use Rattle.tables.specs.declared.Table.TheVariants.{Block}
use Rattle.book.specs.Result.{leaves, unless}
use Rattle.book.specs.Book.{Book}
use Rattle.book.specs.Room.{laid}
use Rattle.intake.specs.Shelving.{shelf_book, OnShelf}
use Rattle.slips.specs.Slips.{lines_posted}
use Rattle.slips.specs.declared.Posted.{Posted}

-- all lines. Behind a refused one the shelf has what the earlier ones left
pub record LinesTaken (slip : Bytes) (slice slots slots' : List Row) (order order' : List ℕ) (n : ℕ) (posted : Posted) : Type 0 where
  pub on : OnShelf Block slice slots' order' posted.count
  pub result : unless posted.verdict (leaves (shelf_book Block slice slots' order' posted.count)) ≡ lines_posted 1 (slip_lines slip) (shelf_book Block slice slots order n)

-- a book's slice behind a slip: nothing is laid out where it is refused
abbrev pub behind : Verdict → Book → List Row → List Row
behind (Ok _) b slice = laid b
behind (Err p) b slice = slice
