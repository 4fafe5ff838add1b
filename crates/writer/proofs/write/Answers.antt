-- `writer::write` meets its contract: 16 by the test of the book rule, and then the blocks' part is written. Assumes nothing.
use mathlib.Core.Path.{◌≡◌, sym, ap, ◌∙◌}
use mathlib.Core.Bool.{true}
use native.Mathlib.Omega.{arith}
use lib.Dec.{ltb}
use lib.ListN.{length}
use Rattle.refusals.specs.Verdicts.{◌when◌, nowhere, output_short, Check}
use Rattle.tables.specs.declared.Table.TheVariants.{Block}
use Rattle.book.specs.Room.{book_of}
use Rattle.book.specs.Holding.{Sound}
use Rattle.book.proofs.Laying.{lent_length}
use Rattle.keeping.specs.Keeping.{keeps_rule}
use Rattle.keeping.proofs.Keeping.{keeps_sound}
use Rattle.writer.specs.Writing.{written}
use Rattle.writer.proofs.Answers.{bad_book, blocks_written}
use Rattle.writer.proofs.write.Goals as goal
use Rattle.writer.proofs.write.Goals.{Else-not-keeps_rule}

keeps : (c : Else-not-keeps_rule) → keeps_rule c.args.book.now ≡ true
keeps c = sym c.keeps_rule.ensures ∙ c.if-not-keeps_rule.false

sound : (c : Else-not-keeps_rule) → Sound c.args.book.now
sound c = keeps_sound c.args.book.now (keeps c)

pub returns-then-not-keeps_rule : goal.returns-then-not-keeps_rule
returns-then-not-keeps_rule c =
    let a = c.args in
    let b = a.book.now in
    bad_book (keeps_rule b) (nowhere (output_short when ltb (length a.out.now) (length (written (book_of b))))) (written (book_of b)) a.out.now
    c.unwritten.result.verdict c.unwritten.result.size
    (sym c.keeps_rule.ensures ∙ c.if-not-keeps_rule.true)
    (c.unwritten.ensures.0 ∙ ap (λ (k : Check). nowhere k) c.bad_loan.ensures) c.unwritten.ensures.1

pub count_rows-n-requires : goal.count_rows-n-requires
count_rows-n-requires c = sound (goal.at.count_rows-n-requires c).Else-not-keeps_rule

pub table_of-blocks-requires : goal.table_of-blocks-requires
table_of-blocks-requires c = (sound (goal.at.table_of-blocks-requires c).Else-not-keeps_rule).long

pub write_table-requires : goal.write_table-requires
write_table-requires c =
    let e = c in
    let long = lent_length Block e.args.book.now (sound (goal.at.write_table-requires c).Else-not-keeps_rule) _ c.table_of-blocks.ensures in
    (omega (arith, long, c.count_rows-n.ensures.1), omega (arith, long))

pub returns : goal.returns
returns c =
    let w = c.write_table in
    let blocks = c.table_of-blocks in
    let n = c.count_rows-n in
    let e = c in
    let b = e.args.book.now in
    let o = e.args.out.now in
    w.ensures ∙ blocks_written b _ o n.result blocks.ensures n.ensures.0 (keeps (goal.at.returns c).Else-not-keeps_rule)
