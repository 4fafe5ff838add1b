-- `cell_question::cell_by` meets its contract. Assumes nothing.
use mathlib.Core.Path.{◌∙◌}
use Rattle.refusals.specs.declared.Cell.TheVariants.{Empty}
use Rattle.cell_question.proofs.Asking.{asked_known, asked_unknown}
use Rattle.cell_question.proofs.cell_by.Goals as goal

pub returns-in-Some : goal.returns-in-Some
returns-in-Some c =
    let a = c.args in
    let n = c.numbered in
    c.cell_in_table.ensures ∙ asked_known a.edition a.text.now a.table a.line a.column n.result n.ensures c.in-Some.t c.in-Some.is

pub returns-in-None : goal.returns-in-None
returns-in-None c =
    let a = c.args in
    let n = c.numbered in
    c.not_there.ensures Empty ∙ asked_unknown a.edition a.text.now a.table a.line a.column n.result n.ensures c.in-None.is
