-- `writer::write_rows` meets its contract. The invariant: the lines of the rows passed, each with its line feed, are put at the head. Assumes nothing.
use mathlib.Core.Path.{◌≡◌}
use mathlib.Core.List.{map}
use lib.ListN.{length, take}
use Rattle.words.proofs.Lists.{ended}
use Rattle.numbers.specs.Putting.{put}
use Rattle.writer.specs.Writing.{row_line}
use Rattle.writer.proofs.write_rows.Given as goal

abbrev pub invariant-loop-row : goal.invariant-loop-row
invariant-loop-row l =
    (l.at ≡ length (ended 10 (map row_line (take l.row-index l.row-items)))) × (l.out ≡ put (ended 10 (map row_line (take l.row-index l.row-items))) l.initial.out)
