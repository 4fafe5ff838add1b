-- `keeping::is_lawful` meets its contract, test by test. Assumes nothing.
use mathlib.Core.Path.{sym, ap, ◌∙◌}
use native.Mathlib.Omega.{arith}
use borrow.Author.Tests.{not-true, not-false}
use Prim.Native.Nat.{ℕ}
use lib.ListN.{take}
use Rattle.words.specs.Words.{same}
use Rattle.rows.specs.Rows.{wide}
use Rattle.tables.proofs.Figures.{kept_few}
use Rattle.refusals.specs.Verdicts.{passes}
use Rattle.book.specs.Room.{book_of}
use Rattle.keeping.proofs.Keeping as keeping
use Rattle.keeping.proofs.is_lawful.Goals as goal
use Rattle.keeping.proofs.is_lawful.Goals.{then-rest_zero, else-rest_zero, then-in_ranges, else-in_ranges}

pub rest_zero-requires : goal.rest_zero-requires
rest_zero-requires c = omega (arith, c.kept.ensures, kept_few c.args.t)

pub returns-then-not-time_fault : goal.returns-then-not-time_fault
returns-then-not-time_fault c =
    let a = c.args in
    elim c.if-in_ranges.branch [
      | then-in_ranges w ↦
          elim c.if-rest_zero.branch [
            | then-rest_zero v ↦
                c.is_ok.ensures.value
                ∙ sym (keeping.lawful_known a.t (book_of a.book.now) a.row
                (sym (c.rest_zero.ensures ∙ ap (λ (k : ℕ). same a.row (wide (take k a.row))) c.kept.ensures) ∙ v.if-rest_zero.true)
                (sym (v.in_ranges.ensures (book_of a.book.now).edition c.requires.2) ∙ (sym v.value-is ∙ w.if-in_ranges.true))
                (sym w.time_fault.ensures ∙ not-true w.time_fault.result (sym w.value-is ∙ c.if-not-time_fault.true))
                ∙ ap passes (sym c.unknown_reference.ensures))
            | else-rest_zero v ↦ cc
          ]
      | else-in_ranges w ↦ cc
    ]

pub returns-else-not-time_fault : goal.returns-else-not-time_fault
returns-else-not-time_fault c =
    let a = c.args in
    elim c.if-rest_zero.branch [
      | then-rest_zero v ↦
          elim c.if-in_ranges.branch [
            | then-in_ranges w ↦
                c.if-not-time_fault.false
                ∙ sym (keeping.lawful_time a.t (book_of a.book.now) a.row
                (sym (c.rest_zero.ensures ∙ ap (λ (k : ℕ). same a.row (wide (take k a.row))) c.kept.ensures) ∙ v.if-rest_zero.true)
                (sym (v.in_ranges.ensures (book_of a.book.now).edition c.requires.2) ∙ (sym v.value-is ∙ w.if-in_ranges.true))
                (sym w.time_fault.ensures ∙ not-false w.time_fault.result (sym w.value-is ∙ c.if-not-time_fault.false)))
            | else-in_ranges w ↦
                c.if-not-time_fault.false
                ∙ sym (keeping.lawful_range a.t (book_of a.book.now) a.row
                (sym (c.rest_zero.ensures ∙ ap (λ (k : ℕ). same a.row (wide (take k a.row))) c.kept.ensures) ∙ v.if-rest_zero.true)
                (sym (v.in_ranges.ensures (book_of a.book.now).edition c.requires.2) ∙ (sym v.value-is ∙ w.if-in_ranges.false)))
          ]
      | else-rest_zero v ↦
          c.if-not-time_fault.false
          ∙ sym (keeping.lawful_rest a.t (book_of a.book.now) a.row
          (sym (c.rest_zero.ensures ∙ ap (λ (k : ℕ). same a.row (wide (take k a.row))) c.kept.ensures) ∙ v.if-rest_zero.false))
    ]
