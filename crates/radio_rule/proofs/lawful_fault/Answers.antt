-- `radio_rule::lawful_fault` meets its contract: the number, and the table. Assumes nothing.
use mathlib.Core.Path.{sym, ◌∙◌}
use Rattle.radio.specs.Rule.{reading_numbers}
use Rattle.radio_rule.proofs.Faults.{any_member, other_number, some_number}
use Rattle.radio_rule.proofs.lawful_fault.Goals as goal

pub returns-then-contains : goal.returns-then-contains
returns-then-contains c =
    c.names_table.ensures ∙ sym (some_number c.args.kept.now (sym (c.contains.ensures.value ∙ any_member _ reading_numbers) ∙ c.if-contains.true))

pub returns-else-contains : goal.returns-else-contains
returns-else-contains c =
    c.if-contains.false ∙ sym (other_number c.args.kept.now (sym (c.contains.ensures.value ∙ any_member _ reading_numbers) ∙ c.if-contains.false))
