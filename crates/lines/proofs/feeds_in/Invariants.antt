-- `lines::feeds_in` meets its contract: those passed and those to come are all. Assumes nothing.
use mathlib.Core.Path.{◌≡◌}
use Prim.Native.Nat.{◌+◌, ◌≤◌}
use lib.ListN.{drop}
use Rattle.lines.specs.Lines.{feeds}
use Rattle.lines.proofs.feeds_in.Given as goal

abbrev pub invariant-loop-b : goal.invariant-loop-b
invariant-loop-b l = (l.n + feeds (drop l.b-index l.bytes) ≡ feeds l.bytes) × (l.n ≤ l.b-index)
