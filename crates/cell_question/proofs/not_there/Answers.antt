-- `cell_question::not_there` meets its contract. Assumes nothing.
use mathlib.Core.Path.{ap, ◌∙◌}
use Rattle.refusals.specs.Verdicts.{Check, nowhere}
use Rattle.cell_question.specs.CellQuestion.{answered}
use Rattle.cell_question.proofs.not_there.Goals as goal

pub returns : goal.returns
returns c = λ k. c.refused.ensures k ∙ ap (λ (q : Check). answered (nowhere q) k) c.not_there.ensures
