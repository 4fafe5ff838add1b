-- `writer::lines_length` meets its contract. The invariant: the lines of the rows passed, each with its line feed. Assumes nothing.
use mathlib.Core.Path.{◌≡◌}
use mathlib.Core.List.{map}
use Prim.Native.Nat.{◌*◌, ◌≤◌}
use lib.ListN.{length, take}
use Rattle.words.proofs.Lists.{ended}
use Rattle.writer.specs.Writing.{row_line}
use Rattle.writer.proofs.lines_length.Given as goal

abbrev pub invariant-loop-row : goal.invariant-loop-row
invariant-loop-row l = (l.size ≤ l.row-index * 231) × (l.size ≡ length (ended 10 (map row_line (take l.row-index l.row-items))))
