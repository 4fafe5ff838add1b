-- `lines::quoted_feed` meets its contract: from each byte passed on, the line feed is as far as from the place. Assumes nothing.
use mathlib.Core.Path.{◌≡◌}
use Prim.Native.Nat.{◌+◌, ◌≤◌, max}
use lib.ListN.{length, drop}
use Rattle.editions.specs.declared.Edition.TheVariants.{Dino23}
use Rattle.lines.specs.Ends.{feed_from}
use Rattle.lines.proofs.quoted_feed.Given as goal

abbrev pub invariant-loop-i : goal.invariant-loop-i
invariant-loop-i l = (l.i + feed_from Dino23 l.s (drop l.i l.text) ≡ l.at + feed_from Dino23 l.initial.s (drop l.at l.text)) × (l.i ≤ max l.at (length l.text))
