-- `block_change::take_slip_line` meets its contract: the wish of a line, then what its kind asks for. Assumes nothing.
use mathlib.Core.Path.{sym, ◌∙◌}
use Rattle.block_change.proofs.Granting.{line_unknown}
use Rattle.block_change.proofs.take_slip_line.Goals as goal

pub add_block-requires : goal.add_block-requires
add_block-requires c =
    (c.fields_of-marks.ensures, sym c.wish_of.ensures ∙ c.in-Add.is, c.requires.0, c.requires.1)

pub replace_block-requires : goal.replace_block-requires
replace_block-requires c =
    (c.fields_of-marks.ensures, sym c.wish_of.ensures ∙ c.in-Replace.is, c.requires.0, c.requires.1)

pub delete_block-requires : goal.delete_block-requires
delete_block-requires c =
    (c.fields_of-marks.ensures, sym c.wish_of.ensures ∙ c.in-Delete.is, c.requires.0, c.requires.1)

pub returns-in-Unknown : goal.returns-in-Unknown
returns-in-Unknown c =
    let st = c in
    line_unknown st.args.line.now st.args.book.now st.args.slots.now st.args.order.now st.args.n st.requires.0 (sym c.wish_of.ensures ∙ c.in-Unknown.is) _ c.unknown_line.ensures
