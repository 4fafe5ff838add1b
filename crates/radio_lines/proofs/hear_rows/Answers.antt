-- `radio_lines::hear_rows` meets its contract: the rows are taken under the header that is kept. Assumes nothing.
use mathlib.Core.Path.{refl, sym, ap, ◌∙◌}
use native.Mathlib.Omega.{arith}
use lib.ListN.{length}
use borrow.Author.Tests.{eqb-true}
use Rattle.book.specs.Room.{book_of}
use Rattle.header.specs.Header.{header_check}
use Rattle.radio_lines.proofs.Bytes.{from_begin}
use Rattle.radio_lines.proofs.Lines.{head_guides, head_places, body_came, none_came}
use Rattle.radio_lines.proofs.hear_rows.Goals as goal

pub returns-then-is_empty : goal.returns-then-is_empty
returns-then-is_empty c =
    let a = c.args in
    (none_came a.t a.from a.book.now a.lines.now c.requires.0 a.body.now (eqb-true (length a.body.now) 0 (sym c.if-is_empty.ensures)) c.requires.3, refl)

pub edition_of-edition-requires : goal.edition_of-edition-requires
edition_of-edition-requires c = c.requires.0.sound.long

pub take_rows-taken-requires : goal.take_rows-taken-requires
take_rows-taken-requires c =
    let st = c in
    let hold = st.requires.0 in
    let read = c.read_header-heading in
    let by = c.edition_of-edition in
    let ed = (book_of st.args.book.now).edition in
    let passes = ap (header_check ed st.args.t) (from_begin st.args.lines.now st.args.from.head) ∙ hold.headed (λ e. omega (arith, st.requires.1)) in
    (head_guides by.result ed by.ensures st.args.t _ read.result read.ensures passes c.column_rules-columns.result c.column_rules-columns.ensures, hold.sound, hold.named, st.requires.2)

pub returns : goal.returns
returns c =
    let st = c in
    let hold = st.requires.0 in
    let read = c.read_header-heading in
    let by = c.edition_of-edition in
    let taken = c.take_rows-taken in
    let ed = (book_of st.args.book.now).edition in
    let same = from_begin st.args.lines.now st.args.from.head in
    let passes = ap (header_check ed st.args.t) same ∙ hold.headed (λ e. omega (arith, st.requires.1)) in (
      body_came st.args.t st.args.from st.args.book.now _ st.args.lines.now hold taken.result.verdict taken.ensures.sound taken.ensures.named st.args.body.now _ same st.requires.1 st.requires.3 st.requires.4 taken.result.line taken.ensures.next
          (taken.ensures.taken _ (head_places by.result ed by.ensures st.args.t _ read.result read.ensures passes)),
      refl,
    )
