-- `book::row_at` meets its contract: a table's rows come first in its part. Assumes nothing.
use mathlib.Core.Path.{sym}
use native.Mathlib.Omega.{arith}
use Rattle.tables.proofs.Parts.{part_within}
use Rattle.book.proofs.Laying as laying
use Rattle.book.proofs.row_at.Goals as goal

pub table_of-table-requires : goal.table_of-table-requires
table_of-table-requires c = c.requires.0.long

pub offset_bounds-table-i : goal.offset_bounds-table-i
offset_bounds-table-i c =
    let st = c in
    omega (arith, st.requires.1, laying.rows_few st.args.book.now st.requires.0 st.args.t, part_within st.args.t)

pub bounds-table-i : goal.bounds-table-i
bounds-table-i c =
    let st = c in
    omega (arith, st.requires.1, laying.lent_few st.args.t st.args.book.now st.requires.0 _ c.table_of-table.ensures)

pub returns : goal.returns
returns c =
    let st = c in
    sym (laying.lent_row st.args.t st.args.book.now st.requires.0 _ c.table_of-table.ensures st.args.i st.requires.1)
