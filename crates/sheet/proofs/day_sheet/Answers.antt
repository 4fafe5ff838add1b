-- `sheet::day_sheet` meets its contract: by the verdict, and then by the test of the book rule. Assumes nothing.
use mathlib.Core.Path.{◌≡◌, sym, ap, ◌∙◌}
use mathlib.Core.Bool.{true}
use Rattle.refusals.specs.Verdicts.{nowhere, Check, Verdict}
use Rattle.book.specs.Room.{book_of}
use Rattle.keeping.specs.Keeping.{keeps_rule}
use Rattle.writer.proofs.Answers.{bad_book, good_book}
use Rattle.sheet.specs.Sheet.{sheet_text}
use Rattle.sheet.specs.Calls.{short_for, sheet_call}
use Rattle.sheet.proofs.day_sheet.Goals as goal
use Rattle.sheet.proofs.day_sheet.Goals.{Else-not-keeps_rule}

keeps : (c : Else-not-keeps_rule) → keeps_rule c.args.book.now ≡ true
keeps c = sym c.keeps_rule.ensures ∙ c.if-not-keeps_rule.false

pub returns-then-not-keeps_rule : goal.returns-then-not-keeps_rule
returns-then-not-keeps_rule c =
    let k = c in
    let a = k.args in
    let b = a.book.now in
    let o = a.out.now in
    bad_book (keeps_rule b) (short_for (sheet_text (book_of b)) o) (sheet_text (book_of b)) o c.unwritten.result.verdict c.unwritten.result.size
    (sym k.keeps_rule.ensures ∙ c.if-not-keeps_rule.true)
    (c.unwritten.ensures.0 ∙ ap (λ (n : Check). nowhere n) c.bad_loan.ensures) c.unwritten.ensures.1
    ∙ ap (λ (v : Verdict). sheet_call v b o) (sym k.in-Ok.is)

pub write_sheet-requires : goal.write_sheet-requires
write_sheet-requires c = keeps (goal.at.write_sheet-requires c).Else-not-keeps_rule

pub returns-else-not-keeps_rule : goal.returns-else-not-keeps_rule
returns-else-not-keeps_rule c =
    let e = c in
    let a = e.args in
    let b = a.book.now in
    let o = a.out.now in
    c.write_sheet.ensures
    ∙ good_book (keeps_rule b) (short_for (sheet_text (book_of b)) o) (sheet_text (book_of b)) o (keeps (goal.at.returns-else-not-keeps_rule c).Else-not-keeps_rule)
    ∙ ap (λ (v : Verdict). sheet_call v b o) (sym e.in-Ok.is)

pub returns-in-Err : goal.returns-in-Err
returns-in-Err c =
    let m = c in
    let a = m.args in
    c.write_refusal.ensures ∙ ap (λ (v : Verdict). sheet_call v a.book.now a.out.now) (sym m.in-Err.is)
