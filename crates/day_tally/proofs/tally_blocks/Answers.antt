use mathlib.Core.Path.{refl, sym, ◌∙◌}
use Prim.Native.Nat.{◌≤◌, ◌<◌}
use native.Mathlib.Omega.{arith}
use lib.ListN.{length}
use Rattle.tables.specs.declared.Table.TheVariants.{Block}
use Rattle.book.specs.Room.{book_of}
use Rattle.keeping.proofs.Keeping.{keeps_sound}
use Rattle.questions.proofs.Sums.{block_seconds}
use Rattle.day_tally.proofs.Tallying.{book_short, sofar_none, sofar_most, sofar_next, sofar_all}
use Rattle.day_tally.proofs.tally_blocks.Goals as goal

pub count_rows-n-requires : goal.count_rows-n-requires
count_rows-n-requires c = keeps_sound c.args.book.now c.requires.0

pub loop-i-init : goal.loop-i-init
loop-i-init c =
    let st = c in
    let a = st.args in
    (c.count_rows-n.ensures.0, c.count_rows-n.ensures.1, sofar_none a.version a.number (book_of a.book.now).blocks a.tally.now _ st.requires.1 refl)

pub row_at-row-requires : goal.row_at-row-requires
row_at-row-requires c =
    let st = c in
    (keeps_sound st.args.book.now st.requires.0, omega (arith, c.loop-i.invariant.0))

pub add_block-at-requires : goal.add_block-at-requires
add_block-at-requires c =
    let st = c in
    let a = st.args in
    let xs = a.book.now in
    let at = c.loop-i in
    let more : at.i < length (book_of xs).blocks = omega (arith, at.invariant.0, c.loop-i-test.true) in
    let room : length (book_of xs).blocks ≤ 512 = omega (arith, at.invariant.0, at.invariant.1) in (
      omega (arith, at.invariant.2.few, at.invariant.2.long),
      sofar_most a.version a.number (book_of xs).blocks at.tally at.at at.i at.invariant.2 room (book_short xs st.requires.0) (omega (arith, at.invariant.2.few)),
      block_seconds xs st.requires.0 at.i c.row_at-row.result more c.row_at-row.ensures,
    )

pub loop-i-preserved : goal.loop-i-preserved
loop-i-preserved c =
    let st = c in
    let a = st.args in
    let xs = a.book.now in
    let at = c.loop-i in
    let row = c.row_at-row in
    let more : at.i < length (book_of xs).blocks = omega (arith, at.invariant.0, c.loop-i-test.true) in
    let room : length (book_of xs).blocks ≤ 512 = omega (arith, at.invariant.0, at.invariant.1) in (
      at.invariant.0,
      at.invariant.1,
      sofar_next a.version a.number (book_of xs).blocks at.tally at.at at.i at.invariant.2 ((keeps_sound xs st.requires.0).tables Block).rises more room row.result row.ensures _ _ c.add_block-at.ensures.0 c.add_block-at.ensures.1,
    )

pub shape_of-tally : goal.shape_of-tally
shape_of-tally c = c.loop-i.invariant.2.long ∙ sym c.requires.1

pub returns : goal.returns
returns c =
    let st = c in
    let a = st.args in
    let xs = a.book.now in
    let at = c.loop-i in
    let all : length (book_of xs).blocks ≤ at.i = omega (arith, at.invariant.0, c.loop-i-test.false) in
    let room : length (book_of xs).blocks ≤ 512 = omega (arith, at.invariant.0, at.invariant.1) in
    sofar_all a.version a.number (book_of xs).blocks at.tally at.at at.i at.invariant.2 all room (book_short xs st.requires.0) (omega (arith, at.invariant.2.few, at.invariant.1))
