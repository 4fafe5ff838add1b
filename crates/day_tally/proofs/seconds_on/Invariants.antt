-- `day_tally::seconds_on` meets its contract: the day type lies between low and high. Assumes nothing.
use Prim.Native.Nat.{◌-◌}
use Rattle.day_tally.proofs.Shares.{Between}
use Rattle.day_tally.proofs.seconds_on.Given as goal

abbrev pub invariant-shares : goal.invariant-shares
invariant-shares l = Between l.tally l.at l.kind l.low l.high

abbrev pub decreases-shares : goal.decreases-shares
decreases-shares l = l.high - l.low
