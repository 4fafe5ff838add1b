-- `radio_hearing::keep_tail` meets its contract: the tail is kept behind the rest. Assumes nothing.
use native.Mathlib.Omega.{arith}
use lib.ListN.{take, drop}
use Rattle.cells.specs.declared.State.TheVariants.{Fresh}
use Rattle.lines.specs.Lines.{most_line, quoting_behind}
use Rattle.book.specs.Room.{book_of}
use Rattle.radio_hearing.proofs.Lines.{long_came, tail_came, tail_front}
use Rattle.radio_hearing.proofs.keep_tail.Goals as goal

pub returns-then-rest-tail : goal.returns-then-rest-tail
returns-then-rest-tail c =
    let st = c in
    long_came st.args.t st.args.from st.args.book.now st.args.lines.now st.requires.0 st.args.tail.now c.too_long-verdict.result (tail_front (book_of st.args.book.now).edition (quoting_behind Fresh (take st.args.from.rest (drop most_line st.args.lines.now))) st.args.tail.now st.requires.1 _ c.if-rest-tail.true) c.too_long-verdict.ensures st.args.lines.now

pub returns : goal.returns
returns c =
    let st = c in
    tail_came st.args.t st.args.from st.args.book.now st.args.lines.now st.requires.0 st.args.tail.now _ st.requires.1 (omega (arith, c.if-rest-tail.false, st.requires.0.rests)) c.write_bytes-n.ensures.1 c.write_bytes-n.result c.write_bytes-n.ensures.0
