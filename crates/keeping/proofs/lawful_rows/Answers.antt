use mathlib.Core.List.{[]}
use mathlib.Core.Path.{sym, ap, ◌∙◌}
use native.Mathlib.Omega.{arith}
use Rattle.editions.specs.declared.Edition.{Edition}
use Rattle.tables.specs.Listing.{listed}
use Rattle.book.specs.Room.{book_of}
use Rattle.keeping.specs.Keeping.{lawful}
use Rattle.keeping.proofs.Keeping as keeping
use Rattle.keeping.proofs.lawful_rows.Goals as goal

pub edition_of-edition-requires : goal.edition_of-edition-requires
edition_of-edition-requires c = c.requires.0.long

pub is_lawful-requires : goal.is_lawful-requires
is_lawful-requires c = (c.requires.0, c.requires.1, c.column_rules-columns.ensures ∙ ap (λ (e : Edition). listed e c.args.t) c.edition_of-edition.ensures)

pub loop-row-preserved : goal.loop-row-preserved
loop-row-preserved c =
    c.loop-row.invariant
    ∙ keeping.all_next (lawful c.args.t (book_of c.args.book.now)) [] c.rows_of-row-items.result.now c.loop-row.row-index c.loop-row-test.true
    (sym c.is_lawful.ensures ∙ c.if-not-is_lawful.false)

pub returns : goal.returns
returns c =
    sym (c.loop-row.invariant
    ∙ keeping.all_end (lawful c.args.t (book_of c.args.book.now)) [] c.rows_of-row-items.result.now c.loop-row.row-index (omega (arith, c.loop-row-test.false)))

pub returns-then-not-is_lawful : goal.returns-then-not-is_lawful
returns-then-not-is_lawful c =
    sym (c.loop-row.invariant
    ∙ keeping.all_not (lawful c.args.t (book_of c.args.book.now)) [] c.rows_of-row-items.result.now c.loop-row.row-index c.loop-row-test.true
    (sym c.is_lawful.ensures ∙ c.if-not-is_lawful.true))
