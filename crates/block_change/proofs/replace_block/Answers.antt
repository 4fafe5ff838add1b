-- `block_change::replace_block` meets its contract, by the place of the block's key. Assumes nothing.
use mathlib.Core.Path.{◌≡◌, sym, ◌∙◌}
use Prim.Native.Nat.{ℕ}
use native.Mathlib.Omega.{arith}
use lib.Dec.{lit≤}
use Rattle.fields.specs.Fields.{fields}
use Rattle.book.specs.Room.{book_of}
use Rattle.slip_line.specs.declared.Wish.TheVariants.{Replace}
use Rattle.slip_line.proofs.Asking.{wish_size}
use Rattle.block_change.proofs.Granting.{place_within, replace_missing, replace_refused, replace_taken}
use Rattle.block_change.proofs.replace_block.Goals as goal

pub read_fields-read-requires : goal.read_fields-read-requires
read_fields-read-requires c =
    let st = c in
    (st.requires.0, wish_size (fields st.args.line.now) Replace st.requires.1 (λ e. let z : ◌≡◌ {A = ℕ} 0 1 = cc in omega arith), lit≤ tt, ((book_of st.args.book.now).edition, st.requires.3))

pub set_slot-requires : goal.set_slot-requires
set_slot-requires c =
    let st = c in
    let j = c.read_fields-read in
    (st.requires.2.shelf, place_within st.args.line.now st.args.book.now st.args.slots.now st.args.order.now st.args.n st.requires.2 j.result (j.ensures (book_of st.args.book.now).edition st.requires.3) _ (sym c.spot_of.ensures ∙ c.in-Ok.is))

pub returns-in-Ok-check : goal.returns-in-Ok-check
returns-in-Ok-check c =
    let st = c in
    let j = c.read_fields-read in
    let q = c.judge_replace-check in
    replace_taken st.args.line.now st.args.book.now st.args.slots.now st.args.order.now st.args.n st.requires.2 j.result (j.ensures (book_of st.args.book.now).edition st.requires.3) st.requires.1 q.result _ (sym c.spot_of.ensures ∙ c.in-Ok.is) q.ensures c.in-Ok-check.is _ c.set_slot.ensures

pub returns-in-Err-check : goal.returns-in-Err-check
returns-in-Err-check c =
    let st = c in
    let j = c.read_fields-read in
    let q = c.judge_replace-check in
    replace_refused st.args.line.now st.args.book.now st.args.slots.now st.args.order.now st.args.n st.requires.2 j.result (j.ensures (book_of st.args.book.now).edition st.requires.3) st.requires.1 q.result _ (sym c.spot_of.ensures ∙ c.in-Ok.is) q.ensures _ _ c.in-Err-check.is

pub returns-in-Err : goal.returns-in-Err
returns-in-Err c =
    let st = c in
    let j = c.read_fields-read in
    let q = c.judge_replace in
    replace_missing st.args.line.now st.args.book.now st.args.slots.now st.args.order.now st.args.n st.requires.2 j.result (j.ensures (book_of st.args.book.now).edition st.requires.3) st.requires.1 q.result _ (sym c.spot_of.ensures ∙ c.in-Err.is) _ c.no_block.ensures q.ensures
