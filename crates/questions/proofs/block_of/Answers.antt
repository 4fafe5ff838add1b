-- `questions::block_of` meets its contract: the row is sought in the part of the blocks. Assumes nothing.
use mathlib.Core.Path.{◌∙◌}
use Rattle.rows.specs.Spots.{row_of}
use Rattle.rows.specs.Rows.{found}
use Rattle.tables.specs.declared.Table.TheVariants.{Block}
use Rattle.book.proofs.Laying as laying
use Rattle.questions.proofs.block_of.Goals as goal

pub table_of-table-requires : goal.table_of-table-requires
table_of-table-requires c = c.requires.long

pub row_of-requires : goal.row_of-requires
row_of-requires c =
    let st = c in
    let k = c.keys-k in
    laying.lent_holds Block st.args.book.now st.requires _ c.table_of-table.ensures k.result k.ensures

pub returns : goal.returns
returns c =
    let st = c in
    let k = c.keys-k in
    c.row_of.ensures ∙ laying.lent_asked Block st.args.book.now st.requires _ c.table_of-table.ensures (λ n l. row_of (found n st.args.row l)) k.result k.ensures
