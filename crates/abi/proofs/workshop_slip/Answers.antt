-- The verdict of the slip is told, and book and working area are those that it leaves. Assumes nothing.
use mathlib.Core.Path.{ap}
use Rattle.abi.proofs.Telling.{telling}
use Rattle.abi.proofs.workshop_slip.Goals as goal

pub returns : goal.returns
returns c =
    let did = c.slip.ensures in
    (telling _ _ _ c.on_paper-told.ensures (ap (λ o. o.verdict) did), ap (λ o. o.book) did, ap (λ o. o.work) did)
