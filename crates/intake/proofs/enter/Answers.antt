-- `intake::enter` meets its contract: 11, 9, 10, in this order, and a row that keeps them stands on the shelf. Assumes nothing.
use Rattle.std.specs.Prelude.{Err}
use mathlib.Core.Path.{sym, ◌∙◌}
use Rattle.intake.proofs.Shelving.{early_entered, stands_entered}
use Rattle.intake.proofs.enter.Goals as goal

pub returns-then-time_fault : goal.returns-then-time_fault
returns-then-time_fault c =
    let st = c in
    early_entered st.args.t st.args.book.now st.args.slots.now st.args.order.now st.args.n st.requires.0 st.args.row (sym c.time_fault.ensures ∙ c.if-time_fault.true) (Err c.ends_early.result) c.ends_early.ensures

pub put_row-requires : goal.put_row-requires
put_row-requires c =
    let st = c in
    (st.requires.0, st.requires.1, st.requires.2, sym c.time_fault.ensures ∙ c.if-time_fault.false, sym c.spot_of.ensures ∙ c.in-Err.is)

pub returns-in-Ok : goal.returns-in-Ok
returns-in-Ok c =
    let st = c in
    stands_entered st.args.t st.args.book.now st.args.slots.now st.args.order.now st.args.n st.requires.0 st.args.row (sym c.time_fault.ensures ∙ c.if-time_fault.false) _ (sym c.spot_of.ensures ∙ c.in-Ok.is) (Err c.key_stands.result) c.key_stands.ensures
