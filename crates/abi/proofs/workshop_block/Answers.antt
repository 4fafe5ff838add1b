-- The verdict of the question is told, and the answer is its seven numbers. Assumes nothing.
use mathlib.Core.Path.{ap}
use Rattle.abi.proofs.Telling.{telling}
use Rattle.abi.proofs.workshop_block.Goals as goal

pub returns : goal.returns
returns c =
    let did = c.block_answer-found.ensures in
    (telling _ _ _ c.on_paper-told.ensures (ap (λ o. o.verdict) did), ap (λ o. o.numbers) did)
