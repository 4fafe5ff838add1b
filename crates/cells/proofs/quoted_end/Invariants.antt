-- `cells::quoted_end` meets its contract: from each byte, or doubled quote, passed on, the cell ends where it does from the place. Assumes nothing.
use mathlib.Core.Path.{◌≡◌}
use Prim.Native.Nat.{◌-◌}
use lib.ListN.{length, drop}
use Rattle.cells.specs.Ends.{end_from}
use Rattle.cells.specs.declared.State.TheVariants.{Inside}
use Rattle.cells.proofs.quoted_end.Given as goal

abbrev pub invariant-bytes : goal.invariant-bytes
invariant-bytes l = end_from l.edition Inside l.i (drop l.i l.line) ≡ end_from l.edition Inside l.from (drop l.from l.line)

abbrev pub decreases-bytes : goal.decreases-bytes
decreases-bytes l = length l.line - l.i
