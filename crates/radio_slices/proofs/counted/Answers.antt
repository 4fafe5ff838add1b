-- `radio_slices::counted` meets its contract. Assumes nothing.
use mathlib.Core.Path.{sym}
use native.Mathlib.Omega.{arith}
use Rattle.radio_slices.proofs.Counting.{past_the_count, within_the_count}
use Rattle.radio_slices.proofs.counted.Goals as goal

pub returns-then-come-more : goal.returns-then-come-more
returns-then-come-more c = sym (past_the_count c.args.come c.args.more c.if-come-more.true)

pub returns : goal.returns
returns c = sym (within_the_count c.args.come c.args.more (omega (arith, c.if-come-more.false)))
