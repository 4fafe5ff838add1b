-- `radio_hearing::end_line` meets its contract: the line where it lies, or put together. Assumes nothing.
use native.Mathlib.Omega.{arith}
use Rattle.lines.proofs.Lining.{line_from}
use Rattle.book.specs.Room.{book_of}
use Rattle.radio_hearing.proofs.Lines.{rest_length_lem, line_lies, line_together, line_short, same_line}
use Rattle.radio_hearing.proofs.end_line.Goals as goal

pub edition_of-edition-requires : goal.edition_of-edition-requires
edition_of-edition-requires c = c.requires.0.sound.long

pub slice_bounds-hear_line-end : goal.slice_bounds-hear_line-end
slice_bounds-hear_line-end c = (line_from c.edition_of-edition.result c.args.part.now 0 c.next_line-l.result (omega (arith, c.requires.3)) c.next_line-l.ensures).high

pub hear_line-requires : goal.hear_line-requires
hear_line-requires c =
    let st = c in
    let by = c.edition_of-edition in
    let ed = (book_of st.args.book.now).edition in
    let part = st.args.part.now in
    let lines = st.args.lines.now in
    let feed = st.args.feed in
    let r = st.args.from.rest in
    let same = line_lies ed part lines feed r by.result by.ensures c.next_line-l.result c.next_line-l.ensures st.requires.2 st.requires.3 c.if-rest-eq0.true in
    let few = line_short ed part lines feed r (rest_length_lem st.args.t st.args.from st.args.book.now lines st.requires.0) st.requires.3 _ same in
    (st.requires.0, omega (arith, few, st.requires.1))

pub returns-then-rest-eq0 : goal.returns-then-rest-eq0
returns-then-rest-eq0 c =
    let st = c in
    let heard = c.hear_line in
    let by = c.edition_of-edition in
    let ed = (book_of st.args.book.now).edition in
    let part = st.args.part.now in
    let lines = st.args.lines.now in
    let feed = st.args.feed in
    let r = st.args.from.rest in
    let same = line_lies ed part lines feed r by.result by.ensures c.next_line-l.result c.next_line-l.ensures st.requires.2 st.requires.3 c.if-rest-eq0.true in
    let few = line_short ed part lines feed r (rest_length_lem st.args.t st.args.from st.args.book.now lines st.requires.0) st.requires.3 _ same in
    (same_line ed part lines feed r st.args.t _ _ same _ _ _ _ _ heard.result heard.ensures.0, heard.ensures.1, omega (arith, few, heard.ensures.2), heard.ensures.3)

pub hear_line-requires-2 : goal.hear_line-requires-2
hear_line-requires-2 c =
    let st = c in
    let ed = (book_of st.args.book.now).edition in
    let part = st.args.part.now in
    let lines = st.args.lines.now in
    let feed = st.args.feed in
    let r = st.args.from.rest in
    let same = line_together ed part lines feed r _ c.put_together-end.result c.put_together-end.ensures.1 in
    let few = line_short ed part lines feed r (rest_length_lem st.args.t st.args.from st.args.book.now lines st.requires.0) st.requires.3 _ same in
    (st.requires.0, omega (arith, few, st.requires.1))

pub returns : goal.returns
returns c =
    let st = c in
    let heard = c.hear_line-2 in
    let ed = (book_of st.args.book.now).edition in
    let part = st.args.part.now in
    let lines = st.args.lines.now in
    let feed = st.args.feed in
    let r = st.args.from.rest in
    let same = line_together ed part lines feed r _ c.put_together-end.result c.put_together-end.ensures.1 in
    let few = line_short ed part lines feed r (rest_length_lem st.args.t st.args.from st.args.book.now lines st.requires.0) st.requires.3 _ same in
    (same_line ed part lines feed r st.args.t _ _ same _ _ _ _ _ heard.result heard.ensures.0, heard.ensures.1, omega (arith, few, heard.ensures.2), heard.ensures.3)
