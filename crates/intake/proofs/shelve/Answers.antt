-- `intake::shelve` meets its contract: the table's rows stand in the first slots as they stood, and the order counts them. Assumes nothing.
use mathlib.Core.Path.{◌≡◌, ap, ◌∙◌}
use mathlib.Core.List.{List, ◌++◌, []}
use Prim.Native.Nat.{◌-◌}
use native.Mathlib.Omega.{arith}
use lib.ListN.{length, take, drop, set, get_or, length-set}
use Rattle.tables.specs.Parts.{room}
use Rattle.book.specs.Book.{rows}
use Rattle.book.specs.Room.{book_of}
use Rattle.words.specs.Words.{Row}
use Rattle.words.proofs.Lists as lists
use Rattle.shelf.specs.Shelf.{up_from}
use Rattle.tables.proofs.Parts.{part_within}
use Rattle.book.proofs.Laying.{lent_first, lent_length}
use Rattle.intake.proofs.Shelving.{shelf_on, shelf_same}
use Rattle.intake.proofs.shelve.Goals as goal
use Rattle.intake.proofs.shelve.Goals.{After-table_of-table}

pub table_of-table-requires : goal.table_of-table-requires
table_of-table-requires c = c.requires.0.long

-- a table's part has its room
long : (c : After-table_of-table) → length c.table_of-table.result.now ≡ room c.args.t
long c = lent_length c.args.t c.args.book.now c.requires.0 _ c.table_of-table.ensures

-- the table's first rows, which are copied
copied : (c : After-table_of-table) → take c.count_rows-used.result c.table_of-table.result.now ≡ rows c.args.t (book_of c.args.book.now)
copied c =
    let n = c.count_rows-used in
    let e : n.result - 0 ≡ n.result = omega arith in
    rw e at (lent_first c.args.t c.args.book.now c.requires.0 _ c.table_of-table.ensures n.result n.ensures.0)

pub number_slots-requires : goal.number_slots-requires
number_slots-requires c =
    let st = c in
    omega (arith, st.requires.3, part_within st.args.t)

pub bounds-table-i : goal.bounds-table-i
bounds-table-i c = omega (arith, long (goal.at.bounds-table-i c).After-table_of-table, c.count_rows-used.ensures.1)

pub loop-i-preserved : goal.loop-i-preserved
loop-i-preserved c =
    let w = c.loop-i in
    let i = w.i in
    let table = c.table_of-table.result.now in
    let h = long (goal.at.loop-i-preserved c).After-table_of-table in (
      simp length-set w.invariant.0,
      ap (λ (l : List Row). set l i (get_or table i [])) w.invariant.1
          ∙ lists.take_set [] table c.args.slots.now i (omega (arith, h, c.count_rows-used.ensures.1)) (omega (arith, c.requires.2, c.count_rows-used.ensures.1)),
    )

pub returns : goal.returns
returns c =
    let n = c.count_rows-used in
    let w = c.loop-i in
    let xs = c.args.book.now in
    let table = c.table_of-table.result.now in
    let e : w.i ≡ n.result = omega arith in
    let s =
    w.invariant.1
    ∙ ap (λ (i : _). take i table ++ drop i c.args.slots.now) e
    ∙ ap (λ (l : List Row). l ++ drop n.result c.args.slots.now) (copied (goal.at.returns c).After-table_of-table)
    in
    let full : length w.slots ≡ room c.args.t = w.invariant.0 ∙ c.requires.2 in
    let o = c.number_slots.ensures ∙ ap (up_from 0) c.requires.3 in (
      shelf_on c.args.t xs c.requires.0 _ _ _ n.result s full o n.ensures.0 c.requires.1,
      shelf_same c.args.t xs c.requires.0 _ _ _ n.result s full o n.ensures.0,
    )
