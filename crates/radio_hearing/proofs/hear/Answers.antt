-- `radio_hearing::hear` meets its contract: the line that ends in the part first, then the others, then what is left. Assumes nothing.
use native.Mathlib.Omega.{arith}
use lib.ListN.{take, drop}
use Rattle.cells.specs.declared.State.TheVariants.{Fresh}
use Rattle.lines.specs.Lines.{most_line, quoting_behind}
use Rattle.book.specs.Room.{book_of}
use Rattle.radio_hearing.proofs.Lines.{feed_found, front_length, long_came, behind_line, stays_stopped, goes_on}
use Rattle.radio_hearing.proofs.hear.Goals as goal

pub edition_of-edition-requires : goal.edition_of-edition-requires
edition_of-edition-requires c = c.requires.0.sound.long

pub keep_tail-requires : goal.keep_tail-requires
keep_tail-requires c =
    let st = c in
    let part = st.args.part.now in
    let lines = st.args.lines.now in
    let r = st.args.from.rest in
    let ed = (book_of st.args.book.now).edition in
    (st.requires.0, omega (arith, feed_found c.edition_of-edition.result ed c.edition_of-edition.ensures lines part r c.first_feed-feed.result c.first_feed-feed.ensures, c.if-part-feed.true))

pub returns-then-rest-feed : goal.returns-then-rest-feed
returns-then-rest-feed c =
    let st = c in
    let part = st.args.part.now in
    let lines = st.args.lines.now in
    let r = st.args.from.rest in
    let ed = (book_of st.args.book.now).edition in
    let few = front_length ed (quoting_behind Fresh (take r (drop most_line lines))) part c.first_feed-feed.result (feed_found c.edition_of-edition.result ed c.edition_of-edition.ensures lines part r c.first_feed-feed.result c.first_feed-feed.ensures) (omega (arith, c.if-part-feed.false)) in
    long_came st.args.t st.args.from st.args.book.now lines st.requires.0 part c.too_long-verdict.result (omega (arith, few, c.if-rest-feed.true)) c.too_long-verdict.ensures lines

pub end_line-heard-requires : goal.end_line-heard-requires
end_line-heard-requires c =
    let st = c in
    let part = st.args.part.now in
    let lines = st.args.lines.now in
    let r = st.args.from.rest in
    let ed = (book_of st.args.book.now).edition in
    (st.requires.0, omega (arith, st.requires.1, c.if-part-feed.false), feed_found c.edition_of-edition.result ed c.edition_of-edition.ensures lines part r c.first_feed-feed.result c.first_feed-feed.ensures, omega (arith, c.if-part-feed.false), omega (arith, c.if-rest-feed.false, st.requires.0.rests))

pub hear_behind-requires : goal.hear_behind-requires
hear_behind-requires c =
    let st = c in
    let line = c.end_line-heard.ensures in
    (line.0.holds c.in-Ok.is, omega (arith, c.if-part-feed.false), omega (arith, line.1, st.requires.0.begun), omega (arith, line.2, st.requires.1), line.3)

pub returns-in-Err : goal.returns-in-Err
returns-in-Err c =
    let st = c in
    let part = st.args.part.now in
    let lines = st.args.lines.now in
    let r = st.args.from.rest in
    let ed = (book_of st.args.book.now).edition in
    let line = c.end_line-heard in
    let whole = behind_line st.args.t part st.args.from st.args.book.now lines st.requires.0 c.first_feed-feed.result (feed_found c.edition_of-edition.result ed c.edition_of-edition.ensures lines part r c.first_feed-feed.result c.first_feed-feed.ensures) (omega (arith, c.if-part-feed.false)) (omega (arith, c.if-rest-feed.false)) in
    stays_stopped st.args.t _ _ _ whole line.result _ _ line.ensures.0 _ c.in-Err.is _ _

pub returns-in-Ok : goal.returns-in-Ok
returns-in-Ok c =
    let st = c in
    let part = st.args.part.now in
    let lines = st.args.lines.now in
    let r = st.args.from.rest in
    let ed = (book_of st.args.book.now).edition in
    let line = c.end_line-heard in
    let whole = behind_line st.args.t part st.args.from st.args.book.now lines st.requires.0 c.first_feed-feed.result (feed_found c.edition_of-edition.result ed c.edition_of-edition.ensures lines part r c.first_feed-feed.result c.first_feed-feed.ensures) (omega (arith, c.if-part-feed.false)) (omega (arith, c.if-rest-feed.false)) in
    goes_on st.args.t _ _ _ whole line.result _ _ line.ensures.0 c.in-Ok.is _ _ c.hear_behind.result c.hear_behind.ensures
