-- `radio_lines::hear_row` meets its contract: the line is taken under the header that is kept. Assumes nothing.
use Rattle.book.specs.Room.{book_of}
use Rattle.radio.specs.Radio.{header_in}
use Rattle.radio_lines.proofs.Lines.{head_guides, head_places}
use Rattle.radio_lines.proofs.hear_row.Goals as goal

pub edition_of-edition-requires : goal.edition_of-edition-requires
edition_of-edition-requires c = c.requires.0.long

pub take_line-requires : goal.take_line-requires
take_line-requires c =
    let st = c in
    let read = c.read_header-heading in
    let by = c.edition_of-edition in
    (head_guides by.result (book_of st.args.book.now).edition by.ensures st.args.t st.args.head.now read.result read.ensures st.requires.2 c.column_rules-columns.result c.column_rules-columns.ensures, st.requires.0, st.requires.1)

pub returns : goal.returns
returns c =
    let st = c in
    let read = c.read_header-heading in
    let by = c.edition_of-edition in
    let taken = c.take_line in
    let ed = (book_of st.args.book.now).edition in
    (taken.ensures.sound, taken.ensures.named, taken.ensures.taken (header_in ed st.args.t st.args.head.now) (head_places by.result ed by.ensures st.args.t st.args.head.now read.result read.ensures st.requires.2))
