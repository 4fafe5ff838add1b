-- `cell_question::stretch` meets its contract: the part that the answer names lies within the text. Assumes nothing.
use mathlib.Core.Path.{◌≡◌, sym, ap, ◌∙◌}
use native.Mathlib.Omega.{arith}
use Rattle.refusals.specs.declared.Cell.TheVariants.{Text}
use Rattle.cell_question.specs.CellQuestion.{cell_asked}
use Rattle.cell_question.specs.declared.CellAnswer.{CellAnswer}
use Rattle.cell_question.proofs.Asking.{stretch_inside}
use Rattle.cell_question.proofs.stretch.Goals as goal

pub overflow_add-to : goal.overflow_add-to
overflow_add-to c =
    let a = c.args in
    let e : (cell_asked a.edition a.text.now a.table a.line a.column).cell ≡ Text c.in-Text.start c.in-Text.len = ap (λ (x : CellAnswer). x.cell) (sym c.cell-answer.ensures) ∙ c.in-Text.is in
    omega (arith, stretch_inside a.edition a.text.now a.table a.line a.column c.in-Text.start c.in-Text.len e)

pub slice_bounds-result-end-2 : goal.slice_bounds-result-end-2
slice_bounds-result-end-2 c =
    let a = c.args in
    let e : (cell_asked a.edition a.text.now a.table a.line a.column).cell ≡ Text c.in-Text.start c.in-Text.len = ap (λ (x : CellAnswer). x.cell) (sym c.cell-answer.ensures) ∙ c.in-Text.is in
    omega (arith, stretch_inside a.edition a.text.now a.table a.line a.column c.in-Text.start c.in-Text.len e)
