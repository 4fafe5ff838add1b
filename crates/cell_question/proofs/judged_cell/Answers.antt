-- `cell_question::judged_cell` meets its contract: by the value that the cell has to its column. Assumes nothing.
use mathlib.Core.Path.{ap, ◌∙◌}
use mathlib.Core.Bool.{Bool}
use Prim.Native.Nat.{◌-◌}
use Rattle.refusals.specs.declared.Cell.TheVariants.{Number}
use Rattle.std.specs.Prelude.{Ok}
use Rattle.tables.specs.Columns.{number}
use Rattle.values.specs.declared.Value.TheVariants as value-is
use Rattle.cell_question.specs.CellQuestion.{answered, meant}
use Rattle.cell_question.proofs.Asking.{judged_by, narrow_rules, fault_answer}
use Rattle.cell_question.proofs.judged_cell.Goals as goal

pub of_cell-value-requires : goal.of_cell-value-requires
of_cell-value-requires c =
    let st = c in
    let a = st.args in
    λ e. narrow_rules a.edition a.t (a.column - 1) c.rules_at-rules.result (c.rules_at-rules.ensures a.edition a.t st.requires.3) e

pub returns-in-Number : goal.returns-in-Number
returns-in-Number c =
    let v = c in
    let of = v in
    let st = of in
    let a = st.args in
    let n = v.in-Number.n in
    c.accepted.ensures ∙ ap (answered (Ok tt)) (c.number_said.ensures ∙ ap (λ (b : Bool). meant a.edition b (Number n)) c.is_equip.ensures)
    ∙ judged_by a.edition a.t a.line a.column a.at a.cell.now of.rules_at-rules.result of.of_cell-value.result (value-is.Number n) (of.rules_at-rules.ensures a.edition a.t st.requires.3) of.of_cell-value.ensures v.in-Number.is

pub returns-in-Text : goal.returns-in-Text
returns-in-Text c =
    let st = c in
    let a = st.args in
    c.accepted-in-Text.ensures ∙ ap (answered (Ok tt)) c.text_said.ensures ∙ judged_by a.edition a.t a.line a.column a.at a.cell.now c.rules_at-rules.result c.of_cell-value.result (value-is.Text) (c.rules_at-rules.ensures a.edition a.t st.requires.3) c.of_cell-value.ensures c.in-Text.is

pub returns-in-Empty : goal.returns-in-Empty
returns-in-Empty c =
    let st = c in
    let a = st.args in
    c.accepted-in-Empty.ensures ∙ judged_by a.edition a.t a.line a.column a.at a.cell.now c.rules_at-rules.result c.of_cell-value.result (value-is.Empty) (c.rules_at-rules.ensures a.edition a.t st.requires.3) c.of_cell-value.ensures c.in-Empty.is

pub returns-in-Bad : goal.returns-in-Bad
returns-in-Bad c =
    let v = c in
    let of = v in
    let st = of in
    let a = st.args in
    fault_answer a.line c.refused.result c.new.result c.number.result (number a.t) v.in-Bad.number a.column c.refused.ensures c.new.ensures c.number.ensures ∙ judged_by a.edition a.t a.line a.column a.at a.cell.now of.rules_at-rules.result of.of_cell-value.result (value-is.Bad v.in-Bad.number) (of.rules_at-rules.ensures a.edition a.t st.requires.3) of.of_cell-value.ensures v.in-Bad.is
