-- `day_tally::tally_blocks` meets its contract: the blocks before place i are tallied. Assumes nothing.
use mathlib.Core.Path.{◌≡◌}
use Prim.Native.Nat.{◌≤◌}
use lib.ListN.{length}
use Rattle.book.specs.Room.{book_of}
use Rattle.day_tally.proofs.Tallying.{Sofar}
use Rattle.day_tally.proofs.tally_blocks.Given as goal

abbrev pub invariant-loop-i : goal.invariant-loop-i
invariant-loop-i l =
    (l.n ≡ length (book_of l.book).blocks) × (l.n ≤ 512) × Sofar l.version l.number (book_of l.book).blocks l.tally l.at l.i
