-- `radio_hearing::behind_rows` meets its contract: up to the place the rows are finished. Assumes nothing.
use mathlib.Core.List.{[]}
use Prim.Native.Nat.{◌-◌, ◌≤◌}
use lib.ListN.{length, take, drop}
use Rattle.radio_lines.specs.Lines.{Finished}
use Rattle.radio_hearing.proofs.behind_rows.Given as goal

abbrev pub invariant-rows : goal.invariant-rows
invariant-rows l = (l.from ≤ l.at) × (l.at ≤ length l.part) × Finished l.edition [] (take (l.at - l.from) (drop l.from l.part))

abbrev pub decreases-rows : goal.decreases-rows
decreases-rows l = length l.part - l.at
