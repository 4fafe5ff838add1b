-- `keeping::all_tables` meets its contract: the row of marks, and the parts of the tables before place i hold them. Assumes nothing.
use mathlib.Core.Path.{◌≡◌}
use mathlib.Core.Bool.{true}
use Prim.Native.Nat.{ℕ, ◌<◌}
use lib.ListN.{get_or}
use Rattle.tables.specs.Parts.{tables}
use Rattle.tables.specs.declared.Table.TheVariants.{Calendar}
use Rattle.keeping.proofs.Keeping as keeping
use Rattle.keeping.proofs.all_tables.Given as goal

abbrev pub invariant-loop-t : goal.invariant-loop-t
invariant-loop-t l = (j : ℕ) → j < l.t-index → keeping.held l.book (get_or tables j Calendar) ≡ true
