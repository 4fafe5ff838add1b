-- `questions::blocks_summed` meets its contract: seconds and count of the blocks passed. Assumes nothing.
use Rattle.rules.specs.Rules as questions
use Rattle.questions.proofs.Sums as sums
use Rattle.questions.proofs.blocks_summed.Given as goal

abbrev pub invariant-loop-row : goal.invariant-loop-row
invariant-loop-row l =
    sums.Summed questions.seconds l.version l.number l.row-items 999999 l.row-index l.seconds
    × sums.Summed (λ x. 1) l.version l.number l.row-items 1 l.row-index l.count
