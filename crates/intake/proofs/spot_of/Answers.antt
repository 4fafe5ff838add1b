-- `intake::spot_of` meets its contract: the width that is written out is the table's. Assumes nothing.
use mathlib.Core.Path.{sym, ap, ◌∙◌}
use Prim.Native.Nat.{ℕ}
use Rattle.rows.specs.Rows.{rising}
use Rattle.rows.specs.Spots.{spot}
use Rattle.shelf.specs.Shelf.{shelved}
use Rattle.tables.specs.Columns.{key_width}
use Rattle.tables.proofs.References.{pair_width}
use Rattle.intake.proofs.spot_of.Goals as goal

pub seek_slot-requires : goal.seek_slot-requires
seek_slot-requires c =
    let st = c in
    let xs = shelved st.args.slots.now st.args.order.now st.args.n in
    (st.requires.0, ap (λ (k : ℕ). rising k xs) (ap key_width (sym c.in-StopPoint.is)) ∙ st.requires.1)

pub seek_slot-requires-in-Block : goal.seek_slot-requires-in-Block
seek_slot-requires-in-Block c =
    let st = c in
    let xs = shelved st.args.slots.now st.args.order.now st.args.n in
    (st.requires.0, ap (λ (k : ℕ). rising k xs) (ap key_width (sym c.in-Block.is)) ∙ st.requires.1)

pub seek_slot-requires-in_default : goal.seek_slot-requires-in_default
seek_slot-requires-in_default c =
    let st = c in
    let xs = shelved st.args.slots.now st.args.order.now st.args.n in
    (st.requires.0, ap (λ (k : ℕ). rising k xs) (pair_width st.args.t c.in_default.not-StopPoint c.in_default.not-Block) ∙ st.requires.1)

pub returns-in-StopPoint : goal.returns-in-StopPoint
returns-in-StopPoint c =
    let st = c in
    let xs = shelved st.args.slots.now st.args.order.now st.args.n in
    c.seek_slot.ensures ∙ ap (λ (k : ℕ). spot k st.args.row.now xs) (ap key_width (sym c.in-StopPoint.is))

pub returns-in-Block : goal.returns-in-Block
returns-in-Block c =
    let st = c in
    let xs = shelved st.args.slots.now st.args.order.now st.args.n in
    c.seek_slot-in-Block.ensures ∙ ap (λ (k : ℕ). spot k st.args.row.now xs) (ap key_width (sym c.in-Block.is))

pub returns-in_default : goal.returns-in_default
returns-in_default c =
    let st = c in
    let xs = shelved st.args.slots.now st.args.order.now st.args.n in
    c.seek_slot-in_default.ensures ∙ ap (λ (k : ℕ). spot k st.args.row.now xs) (pair_width st.args.t c.in_default.not-StopPoint c.in_default.not-Block)
