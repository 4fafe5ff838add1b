-- `intake::lay_table` meets its contract: the shelf's rows come into the part lent, and the other parts stay. Assumes nothing.
use mathlib.Core.Path.{refl, sym, ap, ◌∙◌}
use Prim.Native.Nat.{ℕ}
use native.Mathlib.Omega.{arith}
use borrow.Author.Rules.{rules}
use Rattle.rows.specs.Room.{filled}
use Rattle.shelf.specs.Shelf.{shelved}
use Rattle.tables.specs.Columns.{key_width}
use Rattle.tables.proofs.Parts.{part_within}
use Rattle.book.proofs.Laying.{part_cut, lent_back, lent_holds, lent_length}
use Rattle.intake.proofs.lay_table.Goals as goal

pub overflow_add-end : goal.overflow_add-end
overflow_add-end c =
    let st = c in
    omega (arith, c.begin-begin.ensures, c.room.ensures, part_within st.args.t)

pub offset_bounds-book-begin : goal.offset_bounds-book-begin
offset_bounds-book-begin c =
    let st = c in
    omega (arith, c.begin-begin.ensures, c.room.ensures, part_within st.args.t)

pub slice_bounds-lay_out-end : goal.slice_bounds-lay_out-end
slice_bounds-lay_out-end c =
    let st = c in
    omega (arith, c.begin-begin.ensures, c.room.ensures, part_within st.args.t, st.requires.sound.long)

pub lay_out-requires : goal.lay_out-requires
lay_out-requires c =
    let st = c in
    let b = c.begin-begin in
    let r = c.room in
    let xs = st.args.book.now in
    let is = part_cut st.args.t xs b.result r.result b.ensures r.ensures in
    (st.requires.shelf, lent_length st.args.t xs st.requires.sound _ is ∙ sym st.requires.long, (lent_holds st.args.t xs st.requires.sound _ is (key_width st.args.t) refl).rest)

pub shape_of-book : goal.shape_of-book
shape_of-book c =
    let st = c in
    search (rules, c.begin-begin.ensures, c.room.ensures, part_within st.args.t, st.requires.sound.long)

pub returns : goal.returns
returns c =
    let st = c in
    let b = c.begin-begin in
    let r = c.room in
    let on = st.requires in
    let book = st.args.book.now in
    let xs = shelved st.args.slots.now st.args.order.now st.args.n in
    lent_back book on.sound st.args.t b.result r.result b.ensures r.ensures xs _
    (c.lay_out.ensures ∙ ap (λ (m : ℕ). filled m xs) (lent_length st.args.t book on.sound _ (part_cut st.args.t book b.result r.result b.ensures r.ensures)))
