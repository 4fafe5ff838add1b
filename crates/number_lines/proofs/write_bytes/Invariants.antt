-- `number_lines::write_bytes` meets its contract. The invariant: the first i bytes are put at the head. Assumes nothing.
use mathlib.Core.Path.{◌≡◌}
use lib.ListN.{take}
use Rattle.numbers.specs.Putting.{put}
use Rattle.number_lines.proofs.write_bytes.Given as goal

abbrev pub invariant-loop-i : goal.invariant-loop-i
invariant-loop-i l = l.out ≡ put (take l.i l.bytes) l.fn.out
