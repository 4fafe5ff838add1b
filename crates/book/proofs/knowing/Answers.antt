-- `book::knowing` meets its contract: a key stands in a table where it stands in the part lent. Assumes nothing.
use mathlib.Core.Path.{ap, sym, ◌∙◌}
use Rattle.rows.specs.Rows.{stands}
use Rattle.tables.specs.Columns.{key_width}
use Rattle.tables.proofs.References.{pair_width}
use Rattle.book.proofs.Laying as laying
use Rattle.book.proofs.knowing.Goals as goal

pub table_of-table-requires : goal.table_of-table-requires
table_of-table-requires c = c.requires.long

pub standing-requires : goal.standing-requires
standing-requires c =
    let st = c in
    laying.lent_holds st.args.t st.args.book.now st.requires _ c.table_of-table.ensures 3 (ap key_width (sym c.in-StopPoint.is))

pub standing-requires-in-Block : goal.standing-requires-in-Block
standing-requires-in-Block c =
    let st = c in
    laying.lent_holds st.args.t st.args.book.now st.requires _ c.table_of-table.ensures 4 (ap key_width (sym c.in-Block.is))

pub returns-in-StopPoint : goal.returns-in-StopPoint
returns-in-StopPoint c =
    let st = c in
    c.standing.ensures ∙ laying.lent_asked st.args.t st.args.book.now st.requires _ c.table_of-table.ensures (λ n l. stands n st.args.row l) 3 (ap key_width (sym c.in-StopPoint.is))

pub returns-in-Block : goal.returns-in-Block
returns-in-Block c =
    let st = c in
    c.standing-in-Block.ensures ∙ laying.lent_asked st.args.t st.args.book.now st.requires _ c.table_of-table.ensures (λ n l. stands n st.args.row l) 4 (ap key_width (sym c.in-Block.is))

-- a table that is neither that of points nor that of blocks has keys of two numbers
pub standing-requires-in_default : goal.standing-requires-in_default
standing-requires-in_default c =
    let st = c in
    laying.lent_holds st.args.t st.args.book.now st.requires _ c.table_of-table.ensures 2 (pair_width st.args.t c.in_default.not-StopPoint c.in_default.not-Block)

pub returns-in_default : goal.returns-in_default
returns-in_default c =
    let st = c in
    c.standing-in_default.ensures ∙ laying.lent_asked st.args.t st.args.book.now st.requires _ c.table_of-table.ensures (λ n l. stands n st.args.row l) 2 (pair_width st.args.t c.in_default.not-StopPoint c.in_default.not-Block)
