-- `sheet::types_length` meets its contract. The invariant: the lines of the types passed, each with its line feed. Assumes nothing.
use mathlib.Core.Path.{◌≡◌}
use mathlib.Core.List.{map}
use Prim.Native.Nat.{◌*◌, ◌≤◌}
use lib.ListN.{length, take}
use Rattle.words.proofs.Lists.{ended}
use Rattle.book.specs.Room.{book_of}
use Rattle.sheet.specs.Sheet.{type_line}
use Rattle.sheet.proofs.types_length.Given as goal

abbrev pub invariant-loop-row : goal.invariant-loop-row
invariant-loop-row l = (l.size ≤ l.row-index * 86) × (l.size ≡ length (ended 10 (map (type_line (book_of l.book).blocks) (take l.row-index l.types))))
