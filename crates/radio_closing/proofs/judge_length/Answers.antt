-- `radio_closing::judge_length` meets its contract. Assumes nothing.
use mathlib.Core.Path.{◌∙◌}
use Rattle.radio_closing.proofs.Closing.{length_over, length_differs_lem, length_right}
use Rattle.radio_closing.proofs.judge_length.Goals as goal

pub returns-then-announced : goal.returns-then-announced
returns-then-announced c = c.text_too_long.ensures ∙ length_over c.args.announced c.args.come c.if-announced.true

pub returns-then-announced-come : goal.returns-then-announced-come
returns-then-announced-come c = c.length_differs.ensures ∙ length_differs_lem c.args.announced c.args.come c.if-announced.false c.if-announced-come.true

pub returns : goal.returns
returns c = length_right c.args.announced c.args.come c.if-announced.false c.if-announced-come.false
