-- `book::rows_of` meets its contract: the used rows of a part are the table's. Assumes nothing.
use mathlib.Core.Path.{refl, ap, ◌∙◌}
use Prim.Native.Nat.{ℕ}
use lib.ListN.{take}
use Rattle.rows.proofs.Room.{used_take}
use Rattle.book.proofs.Laying as laying
use Rattle.book.proofs.rows_of.Goals as goal

pub table_of-table-requires : goal.table_of-table-requires
table_of-table-requires c = c.requires.long

pub count-n-requires : goal.count-n-requires
count-n-requires c =
    let st = c in
    (laying.lent_holds st.args.t st.args.book.now st.requires _ c.table_of-table.ensures _ refl).rest

pub returns : goal.returns
returns c =
    let st = c in
    let part = c.table_of-table in
    ap (λ (n : ℕ). take n part.result.now) c.count-n.ensures ∙ used_take part.result.now ∙ laying.lent_rows st.args.t st.args.book.now st.requires _ part.ensures
