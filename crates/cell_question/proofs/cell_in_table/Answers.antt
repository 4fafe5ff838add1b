-- `cell_question::cell_in_table` meets its contract: the column, the top of the text, and then the line. Assumes nothing.
use mathlib.Core.Path.{sym, ◌∙◌}
use Prim.Native.Nat.{◌≤◌}
use native.Mathlib.Omega.{arith}
use lib.ListN.{length}
use Rattle.refusals.specs.declared.Cell.TheVariants.{Empty}
use Rattle.tables.specs.Columns.{columns_of}
use Rattle.cell_question.proofs.Asking.{column_zero, column_past, top_refused}
use Rattle.cell_question.proofs.cell_in_table.Goals as goal
use Rattle.cell_question.proofs.cell_in_table.Goals.{then-column-eq0-via-then-column-eq0, then-column-eq0-via-else-column-eq0+then-columns-column}

pub returns-then-column-eq0 : goal.returns-then-column-eq0
returns-then-column-eq0 c =
    let a = c.args in
    c.not_there.ensures Empty
    ∙ elim c.then-column-eq0.branch [
      | then-column-eq0-via-then-column-eq0 w ↦ column_zero a.edition a.t a.bytes.now a.line a.column w.if-column-eq0.true
      | then-column-eq0-via-else-column-eq0+then-columns-column w ↦ column_past a.edition a.t a.bytes.now a.line a.column w.if-column-eq0.false (omega (arith, w.if-columns-column.true, w.columns.ensures))
    ]

pub cell_on_line-requires : goal.cell_on_line-requires
cell_on_line-requires c =
    let a = c.args in
    let known : a.column ≤ length (columns_of a.edition a.t) = omega (arith, c.if-columns-column.false, c.columns.ensures) in
    let top = c.read_top-top in
    let accepted = c.in-Ok.is in
    (omega (arith, c.if-column-eq0.false), known, top.ensures.kept accepted, sym top.ensures.is ∙ accepted, c.column_rules-columns.ensures)

pub returns-in-Err : goal.returns-in-Err
returns-in-Err c =
    let a = c.args in
    let known : a.column ≤ length (columns_of a.edition a.t) = omega (arith, c.if-columns-column.false, c.columns.ensures) in
    top_refused a.edition a.t a.bytes.now a.line a.column c.if-column-eq0.false known _ (sym c.read_top-top.ensures.is ∙ c.in-Err.is)
