-- `cells::plain_end` meets its contract: from each byte passed on, the cell ends where it does from the place. Assumes nothing.
use mathlib.Core.Path.{◌≡◌}
use Prim.Native.Nat.{◌≤◌, max}
use lib.ListN.{length, drop}
use Rattle.editions.specs.declared.Edition.{Edition}
use Rattle.cells.specs.Ends.{end_from}
use Rattle.cells.specs.declared.State.TheVariants.{Plain}
use Rattle.cells.proofs.plain_end.Given as goal

abbrev pub invariant-loop-i : goal.invariant-loop-i
invariant-loop-i l = ((e : Edition) → end_from e Plain l.i (drop l.i l.line) ≡ end_from e Plain l.from (drop l.from l.line)) × (l.i ≤ max l.from (length l.line))
