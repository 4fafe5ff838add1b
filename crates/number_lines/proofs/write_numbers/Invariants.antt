-- `number_lines::write_numbers` meets its contract. The invariant: the numbers passed, each with the separator behind it, are put at the head. Assumes nothing.
use mathlib.Core.Path.{◌≡◌}
use mathlib.Core.List.{map}
use lib.ListN.{length, take}
use Rattle.words.proofs.Lists.{ended}
use Rattle.numbers.specs.Numbers.{decimal}
use Rattle.numbers.specs.Putting.{put}
use Rattle.number_lines.proofs.write_numbers.Given as goal

abbrev pub invariant-loop-n : goal.invariant-loop-n
invariant-loop-n l =
    (l.at ≡ length (ended l.separator (map decimal (take l.n-index l.others)))) × (l.out ≡ put (ended l.separator (map decimal (take l.n-index l.others))) l.fn.out)
