-- `header::note_names` meets its contract: the names that are walked are noted, and none of them came twice. Assumes nothing.
use mathlib.Core.Path.{◌≡◌}
use Rattle.cells.specs.Cells.{cut, cells_of}
use Rattle.header.specs.Header.{header}
use Rattle.header.proofs.Names.{Walked}
use Rattle.header.proofs.note_names.Given as goal

abbrev pub invariant-names : goal.invariant-names
invariant-names l = Walked (header l.edition l.t (cells_of (cut l.edition l.line))) l.at l.i × (l.twice ≡ 0)
