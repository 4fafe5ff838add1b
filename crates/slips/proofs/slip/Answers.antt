-- `slips::slip` meets its contract: 16 of the working area, which ends all zero otherwise. Assumes nothing.
use Rattle.std.specs.Prelude.{Err}
use mathlib.Core.List.{List}
use mathlib.Core.Path.{ap, ◌∙◌}
use Rattle.words.specs.Words.{Row}
use Rattle.refusals.specs.Verdicts.{placed}
use Rattle.slips.specs.Calls.{outcome}
use Rattle.slips.proofs.Posting.{call_unsized, work_cleared}
use Rattle.slips.proofs.slip.Goals as goal

pub returns-then-work-ne-ROWS : goal.returns-then-work-ne-ROWS
returns-then-work-ne-ROWS c =
    let st = c in
    let s = st.args.slip.now in
    let xs = st.args.book.now in
    let work = st.args.work.now in
    call_unsized s xs work (Err c.on.result) c.if-work-ne-ROWS.true (c.on.ensures ∙ ap (placed 0 0) c.bad_loan.ensures)

pub returns : goal.returns
returns c =
    let st = c in
    let p = c.post-verdict in
    let work = st.args.work.now in
    let sized = c.if-work-ne-ROWS.false in
    ap (λ (w : List Row). outcome p.result p.new.book w) (work_cleared work _ _ sized (p.auto.work ∙ sized) c.clear.ensures) ∙ p.ensures
