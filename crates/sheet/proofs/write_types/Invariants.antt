-- `sheet::write_types` meets its contract. The invariant: the lines of the types passed, each with its line feed, are put at the head. Assumes nothing.
use mathlib.Core.Path.{◌≡◌}
use mathlib.Core.List.{map}
use lib.ListN.{length, take}
use Rattle.words.proofs.Lists.{ended}
use Rattle.numbers.specs.Putting.{put}
use Rattle.book.specs.Room.{book_of}
use Rattle.sheet.specs.Sheet.{type_line}
use Rattle.sheet.proofs.write_types.Given as goal

abbrev pub invariant-loop-row : goal.invariant-loop-row
invariant-loop-row l =
    (l.at ≡ length (ended 10 (map (type_line (book_of l.book).blocks) (take l.row-index l.types))))
    × (l.out ≡ put (ended 10 (map (type_line (book_of l.book).blocks) (take l.row-index l.types))) l.initial.out)
