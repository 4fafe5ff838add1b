-- `slips::take_lines` meets its contract: the lines before place `at` were taken, and those behind it are judged on the blocks as they left them. Assumes nothing.
use mathlib.Core.Path.{◌≡◌}
use Prim.Native.Nat.{◌+◌, ◌-◌, ◌≤◌}
use lib.ListN.{length, drop}
use Rattle.std.specs.Prelude.{Ok}
use Rattle.lines.specs.Lines.{slip_lines}
use Rattle.tables.specs.declared.Table.TheVariants.{Block}
use Rattle.intake.specs.Shelving.{shelf_book, OnShelf}
use Rattle.slips.specs.Slips.{lines_posted}
use Rattle.slips.proofs.take_lines.Given as goal

abbrev pub invariant-lines : goal.invariant-lines
invariant-lines l =
    (l.at ≤ length l.slip) × (1 ≤ l.number) × (l.number ≤ l.at + 1) × OnShelf Block l.book l.slots l.order l.count × (lines_posted 1 (slip_lines l.slip) (shelf_book Block l.book l.initial.slots l.initial.order l.n) ≡ lines_posted l.number (slip_lines (drop l.at l.slip)) (shelf_book Block l.book l.slots l.order l.count))
    × (l.verdict ≡ Ok tt)

abbrev pub decreases-lines : goal.decreases-lines
decreases-lines l = length l.slip - l.at
