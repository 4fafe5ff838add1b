-- `keeping::rest_zero` meets its contract: the numbers from what is kept to place i are zero. Assumes nothing.
use mathlib.Core.Path.{◌≡◌}
use lib.ListN.{take}
use Rattle.words.specs.Words.{same}
use Rattle.rows.specs.Rows.{wide}
use Rattle.keeping.proofs.Keeping as keeping
use Rattle.keeping.proofs.rest_zero.Given as goal

abbrev pub invariant-loop-i : goal.invariant-loop-i
invariant-loop-i l = same l.row (wide (take l.kept l.row)) ≡ keeping.zero_from l.i l.row
