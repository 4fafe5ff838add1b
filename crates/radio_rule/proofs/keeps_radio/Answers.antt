-- `radio_rule::keeps_radio` meets its contract: the lengths, and then the numbers, the lines and the book. What is 16 is their law. Assumes nothing.
use mathlib.Core.Path.{sym, ap, ◌∙◌}
use Rattle.editions.specs.declared.Edition.{Edition}
use Rattle.radio_rule.specs.Testing.{lines_keep}
use Rattle.radio_rule.proofs.Rule.{unfit, by_numbers, by_lines, by_book}
use Rattle.radio_rule.proofs.keeps_radio.Goals as goal
use Rattle.radio_rule.proofs.keeps_radio.Goals.{then-fit, else-fit, then-numbers_keep, else-numbers_keep}

pub returns-then-lines_keep : goal.returns-then-lines_keep
returns-then-lines_keep c =
    let a = c.args in
    elim c.if-numbers_keep.branch [
      | then-numbers_keep w ↦
          elim c.if-fit.branch [
            | then-fit v ↦
                c.book_keeps.ensures
                ∙ sym (by_book a.book.now a.kept.now a.lines.now (sym c.fit.ensures ∙ v.if-fit.true) (sym v.numbers_keep.ensures ∙ sym v.value-is ∙ w.if-numbers_keep.true)
                (ap (λ (x : Edition). lines_keep x a.kept.now a.lines.now) (sym w.edition_of.ensures) ∙ sym w.lines_keep.ensures ∙ sym w.value-is ∙ c.if-lines_keep.true))
            | else-fit v ↦ cc
          ]
      | else-numbers_keep w ↦ cc
    ]

pub returns-else-lines_keep : goal.returns-else-lines_keep
returns-else-lines_keep c =
    let a = c.args in
    elim c.if-numbers_keep.branch [
      | then-numbers_keep w ↦
          elim c.if-fit.branch [
            | then-fit v ↦
                c.if-lines_keep.false
                ∙ sym (by_lines a.book.now a.kept.now a.lines.now (sym c.fit.ensures ∙ v.if-fit.true) (sym v.numbers_keep.ensures ∙ sym v.value-is ∙ w.if-numbers_keep.true)
                (ap (λ (x : Edition). lines_keep x a.kept.now a.lines.now) (sym w.edition_of.ensures) ∙ sym w.lines_keep.ensures ∙ sym w.value-is ∙ c.if-lines_keep.false))
            | else-fit v ↦ cc
          ]
      | else-numbers_keep w ↦
          elim c.if-fit.branch [
            | then-fit v ↦
                c.if-lines_keep.false
                ∙ sym (by_numbers a.book.now a.kept.now a.lines.now (sym c.fit.ensures ∙ v.if-fit.true) (sym v.numbers_keep.ensures ∙ sym v.value-is ∙ w.if-numbers_keep.false))
            | else-fit v ↦ c.if-lines_keep.false ∙ sym (unfit a.book.now a.kept.now a.lines.now (sym c.fit.ensures ∙ v.if-fit.false))
          ]
    ]
