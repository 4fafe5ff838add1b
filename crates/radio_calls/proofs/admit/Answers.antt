-- `radio_calls::admit` meets its contract. Assumes nothing.
use mathlib.Core.Path.{sym, ◌∙◌}
use Rattle.radio_rule.specs.Lent.{slices}
use Rattle.radio_slices.proofs.Keeping.{numbers_long}
use Rattle.radio_calls.proofs.Turns.{not_kept, too_early, too_late, in_time}
use borrow.Author.Rules.{rules}
use Rattle.radio_calls.proofs.admit.Goals as goal

pub returns-then-not-keeps_radio : goal.returns-then-not-keeps_radio
returns-then-not-keeps_radio c =
    let a = c.args in
    c.bad_loan.ensures ∙ not_kept a.first a.last (slices a.book.now a.kept.now a.lines.now) (sym c.keeps_radio.ensures ∙ c.if-not-keeps_radio.true)

pub bounds-kept-0 : goal.bounds-kept-0
bounds-kept-0 c =
    let a = c.args in
    let long = numbers_long a.book.now a.kept.now a.lines.now (sym c.keeps_radio.ensures ∙ c.if-not-keeps_radio.false) in
    search rules

pub returns-then-turn-first : goal.returns-then-turn-first
returns-then-turn-first c =
    let a = c.args in
    let keeps = sym c.keeps_radio.ensures ∙ c.if-not-keeps_radio.false in
    c.out_of_turn.ensures ∙ too_early a.first a.last (slices a.book.now a.kept.now a.lines.now) keeps c.if-turn-first.true

pub returns-then-last-turn : goal.returns-then-last-turn
returns-then-last-turn c =
    let a = c.args in
    let keeps = sym c.keeps_radio.ensures ∙ c.if-not-keeps_radio.false in
    c.out_of_turn-then-last-turn.ensures ∙ too_late a.first a.last (slices a.book.now a.kept.now a.lines.now) keeps c.if-turn-first.false c.if-last-turn.true

pub returns : goal.returns
returns c =
    let a = c.args in
    let keeps = sym c.keeps_radio.ensures ∙ c.if-not-keeps_radio.false in
    in_time a.first a.last (slices a.book.now a.kept.now a.lines.now) keeps c.if-turn-first.false c.if-last-turn.false
