-- `intake::put_row` meets its contract: where the references find their rows, the row comes into its gap. Assumes nothing.
use native.Mathlib.Omega.{arith}
use Rattle.std.proofs.lemmas.Result.{err_from_is_err_and}
use Rattle.intake.proofs.Shelving.{gap_most, unknown_entered, put_entered}
use Rattle.intake.proofs.put_row.Goals as goal

pub put_slot-requires : goal.put_slot-requires
put_slot-requires c =
    let st = c in
    (st.requires.0.shelf, omega (arith, st.requires.0.long, st.requires.1), gap_most st.args.t st.args.book.now st.args.slots.now st.args.order.now st.args.n st.requires.0 st.args.row st.args.at st.requires.4)

pub returns-in_err-unknown_reference : goal.returns-in_err-unknown_reference
returns-in_err-unknown_reference c =
    let st = c in
    let known = c.unknown_reference in
    let p = err_from_is_err_and c.from_residual.result c.from_residual.ensures.1 in
    rw (p.1, p.2) (unknown_entered st.args.t st.args.book.now st.args.slots.now st.args.order.now st.args.n st.requires.0 st.args.row st.requires.3 st.args.at st.requires.4 known.result known.ensures _ _ c.in_err-unknown_reference.was)

pub returns : goal.returns
returns c =
    let st = c in
    let known = c.unknown_reference in
    let put = c.put_slot in
    put_entered st.args.t st.args.book.now st.args.slots.now st.args.order.now st.args.n st.requires.0 st.args.row st.requires.3 st.args.at st.requires.4 known.result known.ensures c.in_ok-unknown_reference.was
    st.requires.1 st.requires.2 _ _ put.ensures.0 put.ensures.1
