-- `hours::hours_summed` meets its contract: the blocks passed are summed. Assumes nothing.
use mathlib.Core.Path.{◌≡◌}
use lib.ListN.{drop}
use Rattle.hour_numbers.specs.Hours.{clerk, clerk_from}
use Rattle.hours.specs.Calls.{seconds_each}
use Rattle.hours.proofs.hours_summed.Given as goal

abbrev pub invariant-loop-row : goal.invariant-loop-row
invariant-loop-row l =
    clerk (seconds_each l.version l.number l.blocks) ≡ clerk_from l.sum (seconds_each l.version l.number (drop l.row-index l.blocks))
