-- `block_change::add_block` meets its contract: 5, 8, and the rules of a row. Assumes nothing.
use mathlib.Core.Path.{◌≡◌}
use Prim.Native.Nat.{ℕ}
use native.Mathlib.Omega.{arith}
use lib.Dec.{lit≤}
use Rattle.fields.specs.Fields.{fields}
use Rattle.book.specs.Room.{book_of}
use Rattle.slip_line.specs.declared.Wish.TheVariants.{Add}
use Rattle.slip_line.proofs.Asking.{wish_size}
use Rattle.block_change.proofs.Granting.{add_full, add_room, add_faulty, add_version, add_refused, add_taken}
use Rattle.block_change.proofs.add_block.Goals as goal

pub returns-then-n-eq-ROWS : goal.returns-then-n-eq-ROWS
returns-then-n-eq-ROWS c =
    let st = c in
    add_full st.args.line.now st.args.book.now st.args.slots.now st.args.order.now st.args.n st.requires.2 st.requires.1 c.if-n-eq-ROWS.true _ c.too_many_rows.ensures

pub read_fields-read-requires : goal.read_fields-read-requires
read_fields-read-requires c =
    let st = c in
    (st.requires.0, wish_size (fields st.args.line.now) Add st.requires.1 (λ e. let z : ◌≡◌ {A = ℕ} 0 1 = cc in omega arith), lit≤ tt, ((book_of st.args.book.now).edition, st.requires.3))

pub enter-rules-requires : goal.enter-rules-requires
enter-rules-requires c =
    let st = c in
    let j = c.read_fields-read in
    let room = c.if-n-eq-ROWS.false in
    (st.requires.2, add_room st.args.line.now st.args.book.now st.args.slots.now st.args.order.now st.args.n st.requires.2 j.result (j.ensures (book_of st.args.book.now).edition st.requires.3) st.requires.1 room, add_version st.args.line.now st.args.book.now st.args.slots.now st.args.order.now st.args.n st.requires.2 j.result (j.ensures (book_of st.args.book.now).edition st.requires.3) st.requires.1 room c.in-Ok.is)

pub returns-in-Ok-rules : goal.returns-in-Ok-rules
returns-in-Ok-rules c =
    let st = c in
    let j = c.read_fields-read in
    let e = c.enter-rules in
    add_taken st.args.line.now st.args.book.now st.args.slots.now st.args.order.now st.args.n st.requires.2 j.result (j.ensures (book_of st.args.book.now).edition st.requires.3) st.requires.1 c.if-n-eq-ROWS.false c.in-Ok.is _ _ e.result e.ensures c.in-Ok-rules.is

pub returns-in-Err-rules : goal.returns-in-Err-rules
returns-in-Err-rules c =
    let st = c in
    let j = c.read_fields-read in
    let e = c.enter-rules in
    add_refused st.args.line.now st.args.book.now st.args.slots.now st.args.order.now st.args.n st.requires.2 j.result (j.ensures (book_of st.args.book.now).edition st.requires.3) st.requires.1 c.if-n-eq-ROWS.false c.in-Ok.is _ _ e.result e.ensures _ _ c.in-Err-rules.is

pub returns-in-Err : goal.returns-in-Err
returns-in-Err c =
    let st = c in
    let j = c.read_fields-read in
    add_faulty st.args.line.now st.args.book.now st.args.slots.now st.args.order.now st.args.n st.requires.2 j.result (j.ensures (book_of st.args.book.now).edition st.requires.3) st.requires.1 c.if-n-eq-ROWS.false _ _ c.in-Err.is
