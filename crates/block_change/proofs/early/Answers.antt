-- `block_change::early` meets its contract: 11. Assumes nothing.
use mathlib.Core.Path.{sym, ◌∙◌}
use Rattle.block_change.proofs.early.Goals as goal

pub returns-then-time_fault : goal.returns-then-time_fault
returns-then-time_fault c = c.ends_early.ensures ∙ rw (sym c.time_fault.ensures ∙ c.if-time_fault.true)

pub returns : goal.returns
returns c = rw (sym c.time_fault.ensures ∙ c.if-time_fault.false)
