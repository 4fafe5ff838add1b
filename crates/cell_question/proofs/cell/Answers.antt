-- `cell_question::cell` meets its contract: by the edition of its number. Assumes nothing.
use mathlib.Core.Path.{ap, ◌∙◌}
use Rattle.refusals.specs.Verdicts.{Check, nowhere}
use Rattle.cell_question.specs.CellQuestion.{answered}
use Rattle.refusals.specs.declared.Cell.TheVariants.{Empty}
use Rattle.cell_question.proofs.Asking.{asked_by, asked_by_none}
use Rattle.cell_question.proofs.cell.Goals as goal

pub returns-in-Some : goal.returns-in-Some
returns-in-Some c =
    let a = c.args in
    c.cell_by.ensures ∙ asked_by a.edition a.text.now a.table a.line a.column c.in-Some.e c.in-Some.ensures

pub returns-in-None : goal.returns-in-None
returns-in-None c =
    let a = c.args in
    c.refused.ensures Empty ∙ ap (λ (q : Check). answered (nowhere q) Empty) c.unknown_edition.ensures ∙ asked_by_none a.edition a.text.now a.table a.line a.column c.in-None.ensures
