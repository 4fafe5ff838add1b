use mathlib.Core.List.{[]}
use mathlib.Core.Path.{◌≡◌, refl, ap, ◌∙◌}
use Prim.Native.Nat.{◌+◌, ◌≤◌, ◌<◌}
use Rattle.std.specs.Prelude.{Err}
use native.Mathlib.Omega.{arith}
use lib.ListN.{get_or, set, length}
use Rattle.words.specs.Words.{Row}
use Rattle.cells.proofs.Marking.{Stands}
use Rattle.fields.specs.Fields.{fields}
use Rattle.editions.specs.declared.Edition.{Edition}
use Rattle.tables.specs.Columns.{column_at}
use Rattle.tables.specs.Listing.{listed}
use Rattle.tables.specs.declared.Table.TheVariants.{Block}
use Rattle.values.specs.Judged.{value_of}
use Rattle.values.proofs.Values.{column_narrow}
use Rattle.slip_line.specs.SlipLine.{numbers, bad_field}
use Rattle.slip_line.proofs.Numbers.{refused, passed, number_stands, field_fault, field_passes, field_number, bad_end, row_more, row_whole}
use Rattle.slip_line.proofs.read_fields.Goals as goal
use Rattle.slip_line.proofs.read_fields.Goals.{In-columns, After-check-here}

-- where the field that is read stands
stands : (c : In-columns) → Stands c.args.line.now (get_or c.args.marks.bounds (c.columns.i + 1) 0) (get_or c.args.marks.bounds (c.columns.i + 2) 0) (get_or (numbers (fields c.args.line.now)) c.columns.i [])
stands c = number_stands c.args.line.now c.args.marks c.args.n c.columns.i c.requires.0 c.requires.1 c.requires.2 c.columns-test.true

-- a field that was checked
few : (c : After-check-here) → length (numbers (fields c.args.line.now)) ≤ 11
few c = omega (arith, c.requires.1, c.requires.2)

inside : (c : After-check-here) → c.columns.i < length (numbers (fields c.args.line.now))
inside c = omega (arith, c.requires.1, c.columns-test.true)

value-is : (c : After-check-here) → Stands c.args.line.now (get_or c.args.marks.bounds (c.columns.i + 1) 0) (get_or c.args.marks.bounds (c.columns.i + 2) 0) (get_or (numbers (fields c.args.line.now)) c.columns.i []) →
    (e : Edition) → c.args.columns.now ≡ listed e Block → c.of_field-value.result ≡ value_of (column_at e Block c.columns.i).rules (get_or (numbers (fields c.args.line.now)) c.columns.i [])
value-is c there e q = c.of_field-value.ensures ∙ rw (c.rules_at.ensures e Block q, there.there)

pub overflow_sub-to : goal.overflow_sub-to
overflow_sub-to c = omega (arith, (stands (goal.at.overflow_sub-to c).In-columns).ordered)

pub slice_bounds-of_field-count : goal.slice_bounds-of_field-count
slice_bounds-of_field-count c = omega (arith, (stands (goal.at.slice_bounds-of_field-count c).In-columns).ordered)

pub slice_bounds-of_field-start : goal.slice_bounds-of_field-start
slice_bounds-of_field-start c = omega (arith, (stands (goal.at.slice_bounds-of_field-start c).In-columns).ordered, (stands (goal.at.slice_bounds-of_field-start c).In-columns).inside)

pub slice_bounds-of_field-end : goal.slice_bounds-of_field-end
slice_bounds-of_field-end c = omega (arith, (stands (goal.at.slice_bounds-of_field-end c).In-columns).inside)

pub of_field-value-requires : goal.of_field-value-requires
of_field-value-requires c =
    let by = c.requires.3 in
    rw (c.rules_at.ensures by.0 Block by.1) (column_narrow by.0 Block c.columns.i)

pub columns-preserved : goal.columns-preserved
columns-preserved c =
    let fs = numbers (fields c.args.line.now) in
    let i = c.columns.i in
    let here = (goal.at.columns-preserved c).After-check-here in
    let there = stands (goal.at.columns-preserved c).In-columns in
    let p = c.in-Ok.is in
    let v = c.of_field-value.result in
    let by = c.requires.3 in (
      ap (λ (l : Row). set l i c.kept_number.result) c.columns.invariant.0
          ∙ row_more fs i c.kept_number.result (inside here) (omega (arith, inside here, few here)) (c.kept_number.ensures ∙ rw (field_number by.0 fs (few here) i v c.check-here.result (inside here) (value-is here there by.0 by.1) c.check-here.ensures p)),
      (λ e q. c.columns.invariant.1 e q ∙ field_passes e fs (few here) i v c.check-here.result (inside here) (value-is here there e q) c.check-here.ensures p),
      c.columns.invariant.2,
    )

pub returns-after-columns : goal.returns-after-columns
returns-after-columns c = λ ed q.
    let fs = numbers (fields c.args.line.now) in
    let e : c.columns.i ≡ length fs = omega (arith, c.requires.1) in
    rw c.columns.invariant.2 (passed (bad_field ed fs) _ _ (c.columns.invariant.1 ed q ∙ bad_end ed fs (omega (arith, c.requires.1, c.requires.2)) c.columns.i (omega arith)) (c.columns.invariant.0 ∙ row_whole fs c.columns.i e))

pub returns-in-Err : goal.returns-in-Err
returns-in-Err c = λ ed q.
    let fs = numbers (fields c.args.line.now) in
    let here = (goal.at.returns-in-Err c).After-check-here in
    refused (bad_field ed fs) _ c.in-Err.fault.number c.in-Err.fault.column (Err c.in-Err.fault) refl (c.columns.invariant.1 ed q ∙ field_fault ed fs (few here) c.columns.i c.of_field-value.result c.check-here.result (inside here) (value-is here (stands (goal.at.returns-in-Err c).In-columns) ed q) c.check-here.ensures _ _ c.in-Err.is)
