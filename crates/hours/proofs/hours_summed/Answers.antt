use mathlib.Core.Path.{refl, sym, ◌∙◌}
use native.Mathlib.Omega.{arith}
use lib.Ieee.{of_bits}
use Rattle.keeping.proofs.Keeping.{keeps_sound}
use Rattle.questions.proofs.Sums.{each_seconds}
use Rattle.hours.proofs.Each.{each_more, each_same, each_end}
use Rattle.hours.proofs.hours_summed.Goals as goal
use Rattle.hours.proofs.hours_summed.Goals.{then-of_type, else-of_type}

pub rows_of-blocks-requires : goal.rows_of-blocks-requires
rows_of-blocks-requires c = keeps_sound c.args.book.now c.requires

pub loop-row-init : goal.loop-row-init
unfolding of_bits
loop-row-init c = refl

pub hours-sum-requires : goal.hours-sum-requires
hours-sum-requires c =
    let rows = c.rows_of-blocks in
    omega (arith, each_seconds c.args.book.now rows.result.now c.requires rows.ensures c.loop-row.row-index c.loop-row-test.true, c.seconds_of.ensures)

pub loop-row-preserved : goal.loop-row-preserved
loop-row-preserved c =
    let a = c.args in
    let rs = c.rows_of-blocks.result.now in
    let l = c.loop-row in
    let here = c.loop-row-test.true in
    elim c.if-of_type.branch [
      | then-of_type w ↦
          rw (w.sum-is, w.hours-sum.ensures, w.seconds_of.ensures) (l.invariant ∙ each_more a.version a.number rs l.sum l.row-index here (sym w.if-of_type.ensures))
      | else-of_type w ↦ rw w.sum-is (l.invariant ∙ each_same a.version a.number rs l.sum l.row-index here (sym w.if-of_type.ensures))
    ]

pub returns : goal.returns
returns c =
    let a = c.args in
    let rows = c.rows_of-blocks in
    let l = c.loop-row in
    rw rows.ensures at (sym (l.invariant ∙ each_end a.version a.number rows.result.now l.sum l.row-index c.loop-row-test.false))
