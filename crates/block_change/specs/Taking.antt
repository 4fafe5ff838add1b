-- What a line of a slip leaves on the shelf that the blocks stand on.
-- Inner: no promise and no contract of a public function speaks of it.
use Rattle.std.specs.Prelude.{◌≡◌, List, ℕ, Ok}
use Rattle.words.specs.Words.{Bytes, Row}
use Rattle.tables.specs.declared.Table.TheVariants.{Block}
use Rattle.intake.specs.Shelving.{shelf_book, OnShelf}
use Rattle.block_change.specs.Change.{slip_check, slip_leaves}
use Rattle.block_change.specs.declared.Told.{Told}

-- a line, on the n blocks of a shelf: `slots` and `order` are what it held before, `slots'` and `order'` behind the line
pub record Taken (line : Bytes) (slice slots slots' : List Row) (order order' : List ℕ) (n : ℕ) (told : Told) : Type 0 where
  pub is : told.check ≡ slip_check line (shelf_book Block slice slots order n)
  pub on : told.check ≡ Ok tt → OnShelf Block slice slots' order' told.count
  pub grants : told.check ≡ Ok tt → shelf_book Block slice slots' order' told.count ≡ slip_leaves line (shelf_book Block slice slots order n)
  pub stays : (told.check ≡ Ok tt → ⊥) → (slots' ≡ slots) × (order' ≡ order) × (told.count ≡ n)
