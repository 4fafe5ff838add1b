-- `table_lines::take_row` meets its contract: 5 where the shelf is full, what the line was judged, then the rules. Assumes nothing.
use Rattle.std.specs.Prelude.{Err}
use Rattle.std.proofs.lemmas.Result.{err_from_is_err_and}
use mathlib.Core.Path.{◌≡◌, refl, sym, ◌∙◌}
use Rattle.tables.specs.Parts.{room}
use Rattle.table_lines.proofs.Taking.{refused_shelf, line_full, line_room_lem, line_faulty, line_version, line_entered}
use Rattle.table_lines.proofs.take_row.Goals as goal

pub returns-then-n-room : goal.returns-then-n-room
returns-then-n-room c =
    let st = c in
    record {
      on = refused_shelf _ _ (Err c.too_many_rows.result) c.too_many_rows.ensures;
      taken = λ h line is. line_full st.args.t h line st.args.book.now st.args.slots.now st.args.order.now st.args.n st.requires.0 (c.if-n-room.true ∙ c.room.ensures) _ (Err c.too_many_rows.result) c.too_many_rows.ensures;
    }

pub enter-requires : goal.enter-requires
enter-requires c =
    let st = c in
    let less : st.args.n ≡ room st.args.t → ⊥ = λ e. c.if-n-room.false (e ∙ sym c.room.ensures) in
    let h = st.requires.1.0 in
    let line = st.requires.1.1.0 in (
      st.requires.0,
      line_room_lem st.args.t h line st.args.book.now st.args.slots.now st.args.order.now st.args.n st.requires.0 less,
      line_version st.args.t h line st.args.book.now st.args.slots.now st.args.order.now st.args.n st.requires.0 less st.args.read st.requires.1.1.1 c.in_ok-read.was,
    )

pub returns-in_err-read : goal.returns-in_err-read
returns-in_err-read c =
    let st = c in
    let less : st.args.n ≡ room st.args.t → ⊥ = λ e. c.if-n-room.false (e ∙ sym c.room.ensures) in
    let p = err_from_is_err_and c.from_residual.result c.from_residual.ensures.1 in
    rw (p.1, p.2) (record {
      on = refused_shelf _ _ _ refl;
      taken = λ h line is. line_faulty st.args.t h line st.args.book.now st.args.slots.now st.args.order.now st.args.n st.requires.0 less st.args.read is _ _ _ c.in_err-read.was;
    })

pub returns : goal.returns
returns c =
    let st = c in
    let less : st.args.n ≡ room st.args.t → ⊥ = λ e. c.if-n-room.false (e ∙ sym c.room.ensures) in
    let entered = c.enter in
    record {
      on = entered.ensures.on;
      taken = λ h line is. line_entered st.args.t h line st.args.book.now st.args.slots.now st.args.order.now st.args.n st.requires.0 less st.args.read is c.in_ok-read.was _ _ entered.result entered.ensures;
    }
