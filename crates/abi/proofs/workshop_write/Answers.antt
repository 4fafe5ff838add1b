-- The verdict of the writing is told, the length is the text's, and the output is what the writing leaves. Assumes nothing.
use mathlib.Core.Path.{ap}
use mathlib.Core.List.{[], ◌∷◌}
use Rattle.abi.proofs.Telling.{telling}
use Rattle.abi.proofs.workshop_write.Goals as goal

pub returns : goal.returns
returns c =
    let did = c.write-written.ensures in
    (telling _ _ _ c.on_paper-told.ensures (ap (λ o. o.verdict) did), ap (λ o. o.size ∷ []) did, ap (λ o. o.out) did)
