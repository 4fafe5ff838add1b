use mathlib.Core.Path.{refl, sym, subst, ◌∙◌}
use mathlib.Core.List.{[]}
use Prim.Native.Nat.{◌<◌, ◌≤◌}
use native.Mathlib.Omega.{arith}
use lib.ListN.{length}
use Rattle.cells.specs.Cells.{cells}
use Rattle.cells.proofs.Marking.{Sofar, nothing_yet, byte_more, cell_more, cells_counted, cells_bounded}
use Rattle.fields.specs.Fields.{fields}
use Rattle.fields.proofs.Cutting.{fields_tab, fields_last, fields_go, goes_on_inside}
use Rattle.fields.proofs.fields_of.Goals as goal
use Rattle.fields.proofs.fields_of.Goals.{then-field_ends, else-field_ends}

pub loop-i-init : goal.loop-i-init
loop-i-init c = (nothing_yet 13 _ _ refl (λ h. refl), omega arith, omega arith)

pub overflow_add-count : goal.overflow_add-count
overflow_add-count c = omega arith

pub loop-i-preserved : goal.loop-i-preserved
loop-i-preserved c =
    let line = c.args.line.now in
    let at = c.loop-i in
    let h : at.i < length line = omega arith in
    elim c.if-field_ends.branch [
      | then-field_ends w ↦ rw (w.count-is, w.bounds-is) (
        cell_more 13 _ _ _ _ _ _ (subst (Sofar 13 _ _ _ _) (fields_tab line at.i h (sym c.field_ends.ensures ∙ w.if-field_ends.true)) at.invariant.0) w.note.ensures,
        omega (arith, at.invariant.1),
        omega arith,
      )
      | else-field_ends w ↦ rw (w.count-is, w.bounds-is) (
        byte_more 13 _ _ _ _ _ _ (subst (Sofar 13 _ _ _ _) (fields_go line at.i (sym c.field_ends.ensures ∙ w.if-field_ends.false)) at.invariant.0),
        omega (arith, at.invariant.1),
        omega arith,
      )
    ]

pub returns-after-field_ends : goal.returns-after-field_ends
returns-after-field_ends c =
    let line = c.args.line.now in
    let at = c.loop-i in
    let h : length line ≤ at.i = omega arith in
    elim c.if-field_ends.branch [
      | then-field_ends w ↦ rw (w.count-is, w.bounds-is) (
          let s = cell_more 13 _ _ _ _ (cells []) _ (subst (Sofar 13 _ _ _ _) (fields_last line at.i h) at.invariant.0) w.note.ensures in
          (cells_counted 13 _ _ _ _ (fields line) refl s, cells_bounded 13 _ _ _ _ (fields line) refl s)
          )
      | else-field_ends w ↦ absurd (omega (arith, goes_on_inside line at.i (sym c.field_ends.ensures ∙ w.if-field_ends.false)))
    ]
