-- `radio_calls::open` meets its contract: at the right lengths, and by a known edition, all but the book's mark is zero. Assumes nothing.
use mathlib.Core.Path.{refl, ap, sym, ◌∙◌}
use Rattle.refusals.specs.Verdicts.{Verdict}
use Rattle.radio.specs.Room.{outcome}
use Rattle.radio_rule.specs.Lent.{slices}
use Rattle.radio_rule.proofs.Rule.{book_fits, numbers_fit, lines_fit}
use Rattle.radio_calls.proofs.Opening.{not_fit, not_known, opened}
use Rattle.radio_calls.proofs.open.Goals as goal

pub returns-then-not-fit : goal.returns-then-not-fit
returns-then-not-fit c =
    let a = c.args in
    let s = slices a.book.now a.kept.now a.lines.now in
    ap (λ (v : Verdict). outcome v s) c.bad_loan.ensures ∙ sym (not_fit a.edition a.book.now a.kept.now a.lines.now (sym c.fit.ensures ∙ c.if-not-fit.true))

pub empty-requires : goal.empty-requires
empty-requires c =
    let a = c.args in
    let fits = sym c.fit.ensures ∙ c.if-not-fit.false in
    (refl, book_fits a.book.now a.kept.now a.lines.now fits, numbers_fit a.book.now a.kept.now a.lines.now fits, lines_fit a.book.now a.kept.now a.lines.now fits)

pub returns-in-None : goal.returns-in-None
returns-in-None c =
    let a = c.args in
    let s = slices a.book.now a.kept.now a.lines.now in
    let fits = sym c.fit.ensures ∙ c.if-not-fit.false in
    ap (λ (v : Verdict). outcome v s) c.unknown_edition.ensures
    ∙ sym (not_known a.edition a.book.now a.kept.now a.lines.now fits (sym c.in-None.ensures))

pub returns-in-Some : goal.returns-in-Some
returns-in-Some c =
    let a = c.args in
    let fits = sym c.fit.ensures ∙ c.if-not-fit.false in
    opened a.edition a.book.now a.kept.now a.lines.now fits _ (sym c.in-Some.ensures) _ c.empty.ensures
