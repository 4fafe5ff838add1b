-- What a granted line does to the blocks, key by key: a change at its own key alone. Assumes nothing.
use mathlib.Core.Path.{◌≡◌, refl}
use mathlib.Core.Bool.{Bool, true, false}
use Rattle.words.specs.Words.{Row}
use Rattle.rows.specs.Rows.{same_key, stands, found, removed, rising}
use Rattle.rows.proofs.Rising.{rising_inserted, rising_replaced, rising_removed}
use Rattle.rows.proofs.Changes.{found_missing, found_inserted, found_replaced, stands_removed, stands_replaced, other_stands_inserted, other_stands_removed, other_found_inserted, other_found_replaced, other_found_removed}
use Rattle.book.specs.Book.{Book}
use Rattle.slip_line.specs.declared.Wish.{Wish}
use Rattle.slip_line.specs.declared.Wish.TheVariants.{Add, Replace, Delete, Unknown}
use Rattle.block_change.specs.Change.{granted}
use Rattle.promises.specs.Promises.{says}

-- whether the key of a line stands where the line is accepted: an A's does not, an R's and a D's does
abbrev pub stood_before : Wish → Bool
stood_before Unknown = true
stood_before Add = false
stood_before Replace = true
stood_before Delete = true

-- the row of its own key
pub own_found : (w : Wish) (row : Row) (b : Book) → rising 4 b.blocks ≡ true → stands 4 row b.blocks ≡ stood_before w →
    found 4 row (granted w row b).blocks ≡ says w row (found 4 row b.blocks)
own_found Unknown row b up h = refl
own_found Add row b up h = found_inserted 4 row b.blocks h
own_found Replace row b up h = found_replaced 4 row b.blocks h
own_found Delete row b up h = found_missing 4 row (removed 4 row b.blocks) (stands_removed 4 row b.blocks up)

-- the row of another key, and whether it stands
module _ (key row : Row) (apart : same_key 4 key row ≡ false) where
  pub other_found : (w : Wish) (b : Book) → found 4 key (granted w row b).blocks ≡ found 4 key b.blocks
  other_found Unknown b = refl
  other_found Add b = other_found_inserted 4 key row apart b.blocks
  other_found Replace b = other_found_replaced 4 key row apart b.blocks
  other_found Delete b = other_found_removed 4 key row apart b.blocks

  pub other_stands : (w : Wish) (b : Book) → stands 4 key (granted w row b).blocks ≡ stands 4 key b.blocks
  other_stands Unknown b = refl
  other_stands Add b = other_stands_inserted 4 key row apart b.blocks
  other_stands Replace b = stands_replaced 4 key row b.blocks
  other_stands Delete b = other_stands_removed 4 key row apart b.blocks

-- and the rows still rise
pub granted_rises : (w : Wish) (row : Row) (b : Book) → rising 4 b.blocks ≡ true → rising 4 (granted w row b).blocks ≡ true
granted_rises Unknown row b up = up
granted_rises Add row b up = rising_inserted 4 row b.blocks up
granted_rises Replace row b up = rising_replaced 4 row b.blocks up
granted_rises Delete row b up = rising_removed 4 row b.blocks up
