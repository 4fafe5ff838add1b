-- `lines::line_feed` meets its contract: from each byte passed on, the line feed is as far as from the place. Assumes nothing.
use mathlib.Core.Path.{◌≡◌}
use Prim.Native.Nat.{◌+◌, ◌≤◌, max}
use lib.ListN.{length, drop}
use Rattle.lines.specs.Ends.{slip_length}
use Rattle.lines.proofs.line_feed.Given as goal

abbrev pub invariant-loop-i : goal.invariant-loop-i
invariant-loop-i l = (l.i + slip_length (drop l.i l.text) ≡ l.at + slip_length (drop l.at l.text)) × (l.i ≤ max l.at (length l.text))
