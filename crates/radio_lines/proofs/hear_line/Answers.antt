-- `radio_lines::hear_line` meets its contract: the header, or a row. Assumes nothing.
use mathlib.Core.Path.{refl, ap, ◌∙◌}
use native.Mathlib.Omega.{arith}
use Rattle.editions.specs.declared.Edition.{Edition}
use Rattle.lines.specs.Lines.{line_after}
use Rattle.book.specs.Room.{book_of}
use Rattle.header.specs.Header.{header_check}
use Rattle.radio.proofs.Hearing.{line_after_lem, line_before}
use Rattle.radio_lines.proofs.Bytes.{from_begin}
use Rattle.radio_lines.proofs.Lines.{head_came, row_came}
use Rattle.radio_lines.proofs.hear_line.Goals as goal

pub edition_of-edition-requires : goal.edition_of-edition-requires
edition_of-edition-requires c = c.requires.0.sound.long

pub line_after-next-requires : goal.line_after-next-requires
line_after-next-requires c = c.requires.1

pub returns-then-i-eq-HEADER_LINE : goal.returns-then-i-eq-HEADER_LINE
returns-then-i-eq-HEADER_LINE c =
    let st = c in
    let heard = c.hear_head-verdict in
    let next = c.line_after-next in
    let by = c.edition_of-edition in (
      head_came st.args.t st.args.line.now st.args.from st.args.book.now st.args.lines.now _ st.requires.0 by.result by.ensures next.result next.ensures heard.result heard.ensures.0 heard.ensures.1 c.if-i-eq-HEADER_LINE.true,
      omega (arith, next.ensures, line_after_lem by.result st.args.from.line st.args.line.now),
      omega (arith, next.ensures, line_before by.result st.args.from.line st.args.line.now),
      refl,
    )

pub hear_row-verdict-requires : goal.hear_row-verdict-requires
hear_row-verdict-requires c =
    let st = c in
    let hold = st.requires.0 in
    (hold.sound, hold.named, ap (header_check (book_of st.args.book.now).edition st.args.t) (from_begin st.args.lines.now st.args.from.head) ∙ hold.headed c.if-i-eq-HEADER_LINE.false)

pub returns : goal.returns
returns c =
    let st = c in
    let heard = c.hear_row-verdict in
    let next = c.line_after-next in
    let by = c.edition_of-edition in (
      row_came st.args.t st.args.from st.args.book.now _ st.args.lines.now st.requires.0 heard.result heard.ensures.0 heard.ensures.1 st.args.line.now _ (from_begin st.args.lines.now st.args.from.head) c.if-i-eq-HEADER_LINE.false next.result
          (next.ensures ∙ ap (λ (x : Edition). line_after x st.args.from.line st.args.line.now) by.ensures) heard.ensures.2,
      omega (arith, next.ensures, line_after_lem by.result st.args.from.line st.args.line.now),
      omega (arith, next.ensures, line_before by.result st.args.from.line st.args.line.now),
      refl,
    )
