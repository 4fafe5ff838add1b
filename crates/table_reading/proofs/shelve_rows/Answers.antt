-- `table_reading::shelve_rows` meets its contract: what the lines leave on the shelf is laid out where they are accepted. Assumes nothing.
use mathlib.Core.Path.{ap, ◌∙◌}
use borrow.Author.Rules.{rules}
use Rattle.lines.specs.Lines.{lines}
use Rattle.book.specs.Room.{book_of}
use Rattle.rules.proofs.Points.{referable}
use Rattle.table_lines.specs.Reading.{rows_read}
use Rattle.table_reading.proofs.Taking.{laid_accepted, rows_accepted, rows_refused}
use Rattle.table_reading.proofs.shelve_rows.Goals as goal

pub shelve-n-requires : goal.shelve-n-requires
shelve-n-requires c =
    let st = c in
    let r = referable st.args.t (book_of st.args.book.now) st.requires.2 in
    search rules

pub take_lines-filled-requires : goal.take_lines-filled-requires
take_lines-filled-requires c = (c.requires.0, c.shelve-n.ensures.0, c.requires.3)

pub lay_table-requires : goal.lay_table-requires
lay_table-requires c = c.take_lines-filled.ensures.on c.in-Ok.is

pub returns-in-Ok : goal.returns-in-Ok
returns-in-Ok c =
    let st = c in
    let shelved = c.shelve-n in
    let taken = c.take_lines-filled in
    let accepted = c.in-Ok.is in
    let left = laid_accepted st.args.t st.args.book.now _ _ taken.result.count (taken.ensures.on accepted) _ c.lay_table.ensures in
    rows_accepted st.args.t st.args.at.now st.args.bytes.now st.args.first st.args.book.now taken.result.verdict _ st.requires.0.headed st.requires.2
    (λ h kept. taken.ensures.taken h kept ∙ ap (rows_read st.args.t h st.args.first (lines (book_of st.args.book.now).edition st.args.bytes.now)) shelved.ensures.1) accepted _ left taken.result.line (taken.ensures.next accepted)

pub returns-in-Err : goal.returns-in-Err
returns-in-Err c =
    let st = c in
    let shelved = c.shelve-n in
    let taken = c.take_lines-filled in
    rows_refused st.args.t st.args.at.now st.args.bytes.now st.args.first st.args.book.now taken.result.verdict _ st.requires.0.headed st.requires.2
    (λ h kept. taken.ensures.taken h kept ∙ ap (rows_read st.args.t h st.args.first (lines (book_of st.args.book.now).edition st.args.bytes.now)) shelved.ensures.1) _ c.in-Err.is st.requires.1 taken.result.line
