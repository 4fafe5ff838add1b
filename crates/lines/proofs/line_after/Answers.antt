-- `lines::line_after` meets its contract. Assumes nothing.
use native.Mathlib.Omega.{arith}
use Rattle.lines.proofs.Starting.{line_after_lem}
use Rattle.lines.proofs.line_after.Goals as goal

pub returns : goal.returns
returns c = let a = c.args in omega (arith, c.breaks_in.ensures.0, line_after_lem a.edition a.i a.row.now)
