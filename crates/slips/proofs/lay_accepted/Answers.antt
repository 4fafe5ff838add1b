-- `slips::lay_accepted` meets its contract, by the verdict. Assumes nothing.
use mathlib.Core.Path.{◌∙◌}
use Rattle.slips.proofs.lay_accepted.Goals as goal

pub returns-in-Ok : goal.returns-in-Ok
returns-in-Ok c = c.lay_table.ensures ∙ rw c.in-Ok.is

pub returns-in-Err : goal.returns-in-Err
returns-in-Err c = rw c.in-Err.is
