-- `keeping::keeps_rule` meets its contract: the tables, and then their rows, those of the tables before place i being lawful. Assumes nothing.
use mathlib.Core.Path.{◌≡◌}
use mathlib.Core.Bool.{true}
use Prim.Native.Nat.{ℕ, ◌<◌}
use lib.ListN.{get_or}
use Rattle.tables.specs.Parts.{tables}
use Rattle.tables.specs.declared.Table.TheVariants.{Calendar}
use Rattle.keeping.proofs.Keeping as keeping
use Rattle.keeping.proofs.keeps_rule.Given as goal

abbrev pub invariant-loop-t : goal.invariant-loop-t
invariant-loop-t l = (j : ℕ) → j < l.t-index → keeping.lawful_rows l.book (get_or tables j Calendar) ≡ true
