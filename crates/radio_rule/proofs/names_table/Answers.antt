-- `radio_rule::names_table` meets its contract. Assumes nothing.
use mathlib.Core.Path.{ap, ◌∙◌}
use Rattle.std.specs.Option.{is_some}
use Rattle.radio_rule.proofs.Faults.{known_number}
use Rattle.radio_rule.proofs.names_table.Goals as goal

pub returns : goal.returns
returns c = c.is_some.ensures ∙ (ap is_some c.numbered.ensures ∙ known_number c.args.number)
