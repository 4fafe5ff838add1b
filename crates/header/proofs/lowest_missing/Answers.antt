use mathlib.Core.Path.{◌≡◌, refl, sym, ◌∙◌}
use mathlib.Core.Bool.{true, false, ◌&&◌}
use Prim.Native.Nat.{◌+◌, ◌<◌}
use native.Mathlib.Omega.{arith}
use lib.Dec.{eqb}
use lib.ListN.{length, get_or}
use Rattle.tables.specs.Columns.{columns_of, column_at}
use Rattle.tables.proofs.Figures.{columns_few}
use Rattle.header.proofs.Names.{missing_here, missing_next, missing_end}
use Rattle.header.proofs.lowest_missing.Goals as goal

pub columns-init : goal.columns-init
columns-init c = (omega (arith, c.columns-count.ensures, columns_few c.args.edition c.args.t), (λ h p. refl), refl)

pub columns-preserved : goal.columns-preserved
columns-preserved c =
    let a = c.args in
    let k = c.columns.k in
    let l : k < length (columns_of a.edition a.t) = omega arith in
    let q : ((column_at a.edition a.t k).rules.required && eqb (get_or a.at.now (k + 1) 0) 0) ≡ false = rw (← c.rules_at-rules.ensures a.edition a.t c.requires) (sym c.lacks.ensures ∙ c.if-lacks.false) in
    (c.columns.invariant.0, (λ h p. c.columns.invariant.1 h p ∙ missing_next (columns_of a.edition a.t) k h a.at.now p (omega arith) l q), c.columns.invariant.2)

pub returns-then-lacks : goal.returns-then-lacks
returns-then-lacks c =
    let a = c.args in
    let k = c.columns.k in
    let l : k < length (columns_of a.edition a.t) = omega arith in
    let q : ((column_at a.edition a.t k).rules.required && eqb (get_or a.at.now (k + 1) 0) 0) ≡ true = rw (← c.rules_at-rules.ensures a.edition a.t c.requires) (sym c.lacks.ensures ∙ c.if-lacks.true) in
    λ h p. sym (c.columns.invariant.1 h p ∙ missing_here (columns_of a.edition a.t) k h a.at.now p (omega arith) l q)

pub returns-after-columns : goal.returns-after-columns
returns-after-columns c = λ h p. c.columns.invariant.2 ∙ sym (c.columns.invariant.1 h p ∙ missing_end (columns_of c.args.edition c.args.t) c.columns.k h (omega arith))
