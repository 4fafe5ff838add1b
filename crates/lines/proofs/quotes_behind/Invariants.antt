-- `lines::quotes_behind` meets its contract: behind each byte passed on, the quotes stand as behind all bytes up to it. Assumes nothing.
use mathlib.Core.Path.{◌≡◌}
use lib.ListN.{drop}
use Rattle.cells.specs.declared.State.TheVariants.{Fresh}
use Rattle.lines.specs.Lines.{quoting_behind}
use Rattle.lines.proofs.quotes_behind.Given as goal

abbrev pub invariant-loop-b : goal.invariant-loop-b
invariant-loop-b l = quoting_behind l.s (drop l.b-index l.bytes) ≡ quoting_behind Fresh l.bytes
