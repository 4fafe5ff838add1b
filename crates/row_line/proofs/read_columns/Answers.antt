use mathlib.Core.Path.{◌≡◌, refl, ap, ◌∙◌}
use Prim.Native.Nat.{◌≤◌, ◌<◌}
use Rattle.std.specs.Prelude.{Err}
use native.Mathlib.Omega.{arith}
use lib.ListN.{length}
use Rattle.cells.specs.Cells.{content}
use Rattle.tables.specs.declared.Rules.{Rules}
use Rattle.tables.specs.Columns.{columns_of, column_at, kept_width}
use Rattle.tables.proofs.Figures.{columns_few, kept_few}
use Rattle.values.specs.Judged.{value_of}
use Rattle.values.proofs.Values.{column_narrow}
use Rattle.row_line.proofs.Filling.{columned_none, columned_fault, columned_kept, columned_past, columned_bad, columned_all}
use Rattle.row_line.proofs.read_columns.Goals as goal
use Rattle.row_line.proofs.read_columns.Goals.{After-of_cell-value, then-k-kept, else-k-kept}

-- the column that is walked, and its value
inside : (c : After-of_cell-value) → c.columns.k < length (columns_of c.args.edition c.args.t)
inside c = omega (arith, c.columns-k-end.ensures)

value-is : (c : After-of_cell-value) → c.of_cell-value.result ≡ value_of (column_at c.args.edition c.args.t c.columns.k).rules (content c.cell_of.result.now)
value-is c = c.of_cell-value.ensures ∙ ap (λ (x : Rules). value_of x (content c.cell_of.result.now)) (c.rules_at-rules.ensures c.args.edition c.args.t c.requires.1)

pub columns-init : goal.columns-init
columns-init c = (omega (arith, c.columns-k-end.ensures, columns_few c.args.edition c.args.t), (λ h p. columned_none c.args.edition c.args.t h c.args.line.now), refl)

pub of_cell-value-requires : goal.of_cell-value-requires
of_cell-value-requires c = rw (c.rules_at-rules.ensures c.args.edition c.args.t c.requires.1) (column_narrow c.args.edition c.args.t c.columns.k)

pub bounds-row-k : goal.bounds-row-k
bounds-row-k c = omega (arith, c.kept-kept.ensures, kept_few c.args.t)

pub returns-in-Err : goal.returns-in-Err
returns-in-Err c =
    let a = c.args in
    let w = c.columns in
    let here = (goal.at.returns-in-Err c).After-of_cell-value in
    λ h p. columned_bad a.edition a.t h a.line.now c.in-Err.fault.number c.in-Err.fault.column (Err c.in-Err.fault) refl (columned_fault a.edition a.t h a.line.now w.row a.at.now w.k (w.invariant.1 h p) p (inside here) c.cell_of.result.now c.cell_of.ensures c.of_cell-value.result (value-is here) c.check-here.result c.check-here.ensures _ _ c.in-Err.is)

pub columns-preserved : goal.columns-preserved
columns-preserved c =
    let a = c.args in
    let w = c.columns in
    let here = (goal.at.columns-preserved c).After-of_cell-value in (
      w.invariant.0,
      (λ h p.
          elim c.if-k-kept.branch [
            | then-k-kept r ↦
                let m : w.k < kept_width a.t = omega (arith, r.if-k-kept.true, c.kept-kept.ensures) in
                rw r.row-is (columned_kept a.edition a.t h a.line.now w.row a.at.now w.k (w.invariant.1 h p) p (inside here) c.cell_of.result.now c.cell_of.ensures c.of_cell-value.result (value-is here) c.check-here.result c.check-here.ensures c.in-Ok.is m r.kept_number.result (λ j z. r.kept_number.ensures ∙ rw z))
            | else-k-kept r ↦
                let m : kept_width a.t ≤ w.k = omega (arith, r.if-k-kept.false, c.kept-kept.ensures) in
                rw r.row-is (columned_past a.edition a.t h a.line.now w.row a.at.now w.k (w.invariant.1 h p) p (inside here) c.cell_of.result.now c.cell_of.ensures c.of_cell-value.result (value-is here) c.check-here.result c.check-here.ensures c.in-Ok.is m)
          ]),
      w.invariant.2,
    )

pub returns-after-columns : goal.returns-after-columns
returns-after-columns c =
    let a = c.args in
    λ h p. rw c.columns.invariant.2 (columned_all a.edition a.t h a.line.now c.columns.row c.columns.k (c.columns.invariant.1 h p) (omega (arith, c.columns-k-end.ensures)))
