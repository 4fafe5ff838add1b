-- `block_change::delete_block` meets its contract, by the place of the block's key. Assumes nothing.
use mathlib.Core.Path.{◌≡◌, sym, ◌∙◌}
use Prim.Native.Nat.{ℕ}
use native.Mathlib.Omega.{arith}
use lib.Dec.{lit≤}
use Rattle.fields.specs.Fields.{fields}
use Rattle.book.specs.Room.{book_of}
use Rattle.slip_line.specs.declared.Wish.TheVariants.{Delete}
use Rattle.slip_line.proofs.Asking.{wish_size}
use Rattle.block_change.proofs.Granting.{place_within, delete_missing, delete_refused, delete_taken}
use Rattle.block_change.proofs.delete_block.Goals as goal

pub read_fields-read-requires : goal.read_fields-read-requires
read_fields-read-requires c =
    let st = c in
    (st.requires.0, wish_size (fields st.args.line.now) Delete st.requires.1 (λ e. let z : ◌≡◌ {A = ℕ} 0 1 = cc in omega arith), lit≤ tt, ((book_of st.args.book.now).edition, st.requires.3))

pub free_slot-requires : goal.free_slot-requires
free_slot-requires c =
    let st = c in
    let j = c.read_fields-read in
    let on = st.requires.2 in
    (place_within st.args.line.now st.args.book.now st.args.slots.now st.args.order.now st.args.n st.requires.2 j.result (j.ensures (book_of st.args.book.now).edition st.requires.3) _ (sym c.spot_of.ensures ∙ c.in-Ok.is), omega (arith, on.shelf.long, on.shelf.few))

pub overflow_sub-result : goal.overflow_sub-result
overflow_sub-result c =
    let st = c in
    let j = c.read_fields-read in
    omega (arith, place_within st.args.line.now st.args.book.now st.args.slots.now st.args.order.now st.args.n st.requires.2 j.result (j.ensures (book_of st.args.book.now).edition st.requires.3) _ (sym c.spot_of.ensures ∙ c.in-Ok.is))

pub returns-in-Ok-fields : goal.returns-in-Ok-fields
returns-in-Ok-fields c =
    let st = c in
    let j = c.read_fields-read in
    delete_taken st.args.line.now st.args.book.now st.args.slots.now st.args.order.now st.args.n st.requires.2 j.result (j.ensures (book_of st.args.book.now).edition st.requires.3) st.requires.1 _ (sym c.spot_of.ensures ∙ c.in-Ok.is) c.in-Ok-fields.is _ c.free_slot.ensures

pub returns-in-Err-fields : goal.returns-in-Err-fields
returns-in-Err-fields c =
    let st = c in
    let j = c.read_fields-read in
    delete_refused st.args.line.now st.args.book.now st.args.slots.now st.args.order.now st.args.n st.requires.2 j.result (j.ensures (book_of st.args.book.now).edition st.requires.3) st.requires.1 _ _ c.in-Err-fields.is

pub returns-in-Err : goal.returns-in-Err
returns-in-Err c =
    let st = c in
    let j = c.read_fields-read in
    delete_missing st.args.line.now st.args.book.now st.args.slots.now st.args.order.now st.args.n st.requires.2 j.result (j.ensures (book_of st.args.book.now).edition st.requires.3) st.requires.1 _ (sym c.spot_of.ensures ∙ c.in-Err.is) _ c.and.result c.no_block.ensures c.and.ensures
