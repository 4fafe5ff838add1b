-- The verdict of the question is told, and the answer is its number. Assumes nothing.
use mathlib.Core.Path.{ap}
use mathlib.Core.List.{[], ◌∷◌}
use Rattle.abi.proofs.Telling.{telling}
use Rattle.abi.proofs.workshop_season.Goals as goal

pub returns : goal.returns
returns c =
    let did = c.season_answer-found.ensures in
    (telling _ _ _ c.on_paper-told.ensures (ap (λ o. o.verdict) did), ap (λ o. o.seconds ∷ []) did)
