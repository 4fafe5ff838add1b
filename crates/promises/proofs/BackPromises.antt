-- Demand 2: blocks written out and read back give the same book, and written again the same text. Assumes nothing.
use mathlib.Core.Path.{ap, ◌≡◌}
use mathlib.Core.List.{[]}
use Rattle.std.specs.Prelude.{Ok}
use Rattle.tables.specs.declared.Table.TheVariants.{Block, Calendar}
use Rattle.book.specs.Book.{with_rows}
use Rattle.writer.specs.Writing.{written}
use Rattle.promises.specs.Promises.{ReadsBack, WritesAgain, EditionKept}
use Rattle.promises.proofs.DeliveryLaws.{left_by, blocks_back, held_undated, with_other_blocks}

pub reads_back : ReadsBack
reads_back ed d b e =
    with_other_blocks ed d b e (written b) (Ok tt) b.blocks (blocks_back (with_rows Calendar [] b) b.blocks (held_undated b b.blocks ((left_by ed d b e).standing Block)))

pub writes_again : WritesAgain
writes_again ed d b c e f = let g : c ≡ b = cc (reads_back ed d b e) in ap written g

pub edition_kept : EditionKept
edition_kept ed d b e = (left_by ed d b e).by
