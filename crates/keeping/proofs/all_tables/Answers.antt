use mathlib.Core.Bool.{true}
use mathlib.Core.Path.{refl, sym, ◌∙◌}
use Prim.Native.Nat.{◌<◌}
use native.Mathlib.Omega.{arith}
use lib.ListN.{get_or}
use Rattle.tables.specs.Parts.{tables}
use Rattle.tables.specs.declared.Table.TheVariants.{VehicleType}
use Rattle.keeping.proofs.Keeping as keeping
use Rattle.keeping.proofs.all_tables.Goals as goal
use Rattle.keeping.proofs.all_tables.Goals.{then-book-ne-BOOK_ROWS-via-then-book-ne-BOOK_ROWS, then-book-ne-BOOK_ROWS-via-else-book-ne-BOOK_ROWS+then-not-marked}

pub returns-then-book-ne-BOOK_ROWS : goal.returns-then-book-ne-BOOK_ROWS
returns-then-book-ne-BOOK_ROWS c =
    let xs = c.args.book.now in
    elim c.then-book-ne-BOOK_ROWS.branch [
      | then-book-ne-BOOK_ROWS-via-then-book-ne-BOOK_ROWS w ↦ keeping.breaks xs (keeping.breaks_length xs w.if-book-ne-BOOK_ROWS.true)
      | then-book-ne-BOOK_ROWS-via-else-book-ne-BOOK_ROWS+then-not-marked w ↦ keeping.breaks xs (keeping.breaks_marks xs (sym w.marked.ensures ∙ w.if-not-marked.true))
    ]

pub returns : goal.returns
returns c =
    let xs = c.args.book.now in
    keeping.all_parts xs c.if-book-ne-BOOK_ROWS.false (sym c.marked.ensures ∙ c.if-not-marked.false) (keeping.by_place (keeping.held xs) (λ j h. let k : j < 6 = h in c.loop-t.invariant j (omega (arith, k, c.loop-t-test.false)))) true refl

pub returns-then-not-holding : goal.returns-then-not-holding
returns-then-not-holding c =
    let xs = c.args.book.now in
    keeping.breaks xs (keeping.breaks_part xs (get_or tables c.loop-t.t-index VehicleType) (sym c.holding.ensures ∙ c.if-not-holding.true))
