-- `seasons::days_summed` meets its contract: the days passed are summed up. Assumes nothing.
use Rattle.day_tally.specs.Tally.{shares}
use Rattle.seasons.proofs.Summing.{Sofar}
use Rattle.seasons.proofs.days_summed.Given as goal

abbrev pub invariant-loop-day : goal.invariant-loop-day
invariant-loop-day l = Sofar l.first l.last l.version (shares l.tally l.at) l.days l.day-index l.sum
