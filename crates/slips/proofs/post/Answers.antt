-- `slips::post` meets its contract: 16 of the book, 1, and the lines. Assumes nothing.
use Rattle.std.specs.Prelude.{Err}
use mathlib.Core.Path.{sym, ap, ◌∙◌}
use Rattle.refusals.specs.Verdicts.{placed}
use Rattle.tables.specs.declared.Table.TheVariants.{StopPoint}
use Rattle.book.specs.Room.{book_of}
use Rattle.keeping.proofs.Keeping.{keeps_sound, keeps_rows}
use Rattle.keeping.proofs.Points.{points_named_lem}
use Rattle.slips.proofs.Posting.{call_unruled, call_long, call_lines}
use Rattle.slips.proofs.post.Goals as goal

pub returns-then-not-keeps_rule : goal.returns-then-not-keeps_rule
returns-then-not-keeps_rule c =
    let st = c in
    let s = st.args.slip.now in
    let xs = st.args.book.now in
    let work = st.args.work.now in
    call_unruled s xs work (Err c.on.result) (sym c.keeps_rule.ensures ∙ c.if-not-keeps_rule.true) (c.on.ensures ∙ ap (placed 0 0) c.bad_loan.ensures)

pub returns-then-slip-gt-MOST_BYTES : goal.returns-then-slip-gt-MOST_BYTES
returns-then-slip-gt-MOST_BYTES c =
    let st = c in
    let s = st.args.slip.now in
    let xs = st.args.book.now in
    let work = st.args.work.now in
    call_long s xs work st.requires (sym c.keeps_rule.ensures ∙ c.if-not-keeps_rule.false) (Err c.on-then-slip-gt-MOST_BYTES.result) c.if-slip-gt-MOST_BYTES.true (c.on-then-slip-gt-MOST_BYTES.ensures ∙ ap (placed 5 0) c.text_too_long.ensures)

pub take_whole-requires : goal.take_whole-requires
take_whole-requires c =
    let st = c in
    let xs = st.args.book.now in
    let keeps = sym c.keeps_rule.ensures ∙ c.if-not-keeps_rule.false in
    (keeps_sound xs keeps, points_named_lem (book_of xs) (book_of xs).points (keeps_rows xs keeps StopPoint), c.if-slip-gt-MOST_BYTES.false, st.requires)

pub returns : goal.returns
returns c =
    let st = c in
    let s = st.args.slip.now in
    let xs = st.args.book.now in
    let work = st.args.work.now in
    c.take_whole.ensures ∙ call_lines s xs work st.requires (sym c.keeps_rule.ensures ∙ c.if-not-keeps_rule.false) c.if-slip-gt-MOST_BYTES.false
