-- `row_line::read_columns` meets its contract: each column that is walked keeps to its rules, and the row has its number. Assumes nothing.
use mathlib.Core.Path.{◌≡◌}
use mathlib.Core.List.{List}
use Prim.Native.Nat.{ℕ, ◌≤◌}
use Rattle.std.specs.Prelude.{Ok}
use Rattle.header.specs.Heading.{most_columns, places}
use Rattle.row_line.proofs.Filling.{Columned}
use Rattle.row_line.proofs.read_columns.Given as goal

abbrev pub invariant-columns : goal.invariant-columns
invariant-columns l = (l.k-end ≤ most_columns) × ((h : List ℕ) → l.at ≡ places h → Columned l.edition l.fn.t h l.line l.row l.k) × (l.check ≡ Ok tt)
