use mathlib.Core.Bool.{true}
use mathlib.Core.Path.{◌≡◌, sym, ap, subst, ◌∙◌}
use Prim.Native.Nat.{◌<◌}
use native.Mathlib.Omega.{arith}
use lib.ListN.{get_or, length}
use borrow.Author.Count.{below_more}
use Rattle.tables.specs.Parts.{tables}
use Rattle.tables.specs.declared.Table.TheVariants.{VehicleType, Calendar}
use Rattle.tables.specs.declared.Table.{Table}
use Rattle.book.specs.Room.{book_of}
use Rattle.rules.specs.Points.{Referable}
use Rattle.keeping.proofs.Points.{referable_next}
use Rattle.keeping.proofs.Keeping as keeping
use Rattle.keeping.proofs.keeps_rule.Goals as goal

pub returns-then-not-all_tables : goal.returns-then-not-all_tables
returns-then-not-all_tables c = sym (c.all_tables.ensures.1 c.if-not-all_tables.true)

pub loop-t-init : goal.loop-t-init
loop-t-init c = λ j h. absurd (omega arith)

pub lawful_rows-requires : goal.lawful_rows-requires
lawful_rows-requires c =
    let b = book_of c.args.book.now in
    let more : c.loop-t.t-index < length tables = c.loop-t-test.true in (
      c.all_tables.ensures.0 c.if-not-all_tables.false,
      subst (λ (u : Table). Referable u b) (sym (keeping.placed_alike tables c.loop-t.t-index VehicleType Calendar more)) (referable_next b c.loop-t.t-index c.loop-t.invariant),
    )

pub loop-t-preserved : goal.loop-t-preserved
loop-t-preserved c =
    let xs = c.args.book.now in
    let more : c.loop-t.t-index < length tables = c.loop-t-test.true in
    below_more (λ j. keeping.lawful_rows xs (get_or tables j Calendar) ≡ true) c.loop-t.t-index c.loop-t.invariant
    (ap (keeping.lawful_rows xs) (sym (keeping.placed_alike tables c.loop-t.t-index VehicleType Calendar more)) ∙ sym c.lawful_rows.ensures ∙ c.if-not-lawful_rows.false)

pub returns : goal.returns
returns c =
    let xs = c.args.book.now in
    let sound = c.all_tables.ensures.0 c.if-not-all_tables.false in
    sym (keeping.sound_keeps xs sound (keeping.by_place (keeping.lawful_rows xs) (λ j h. let k : j < 6 = h in c.loop-t.invariant j (omega (arith, k, c.loop-t-test.false)))))

pub returns-then-not-lawful_rows : goal.returns-then-not-lawful_rows
returns-then-not-lawful_rows c =
    let xs = c.args.book.now in
    sym (keeping.breaks_rows xs (get_or tables c.loop-t.t-index VehicleType) (sym c.lawful_rows.ensures ∙ c.if-not-lawful_rows.true))
