use mathlib.Core.Path.{sym}
use native.Mathlib.Omega.{arith}
use Rattle.rules.specs.Rules as questions
use Rattle.keeping.proofs.Keeping.{keeps_sound}
use Rattle.questions.proofs.Sums as sums
use Rattle.questions.proofs.blocks_summed.Goals as goal
use Rattle.questions.proofs.blocks_summed.Goals.{then-of_type, else-of_type}

pub rows_of-row-items-requires : goal.rows_of-row-items-requires
rows_of-row-items-requires c = keeps_sound c.args.book.now c.requires

pub overflow_add-seconds : goal.overflow_add-seconds
overflow_add-seconds c =
    let rows = c.rows_of-row-items in
    let most = sums.each_seconds c.args.book.now rows.result.now c.requires rows.ensures c.loop-row.row-index c.loop-row-test.true in
    omega (arith, most, c.seconds_of-seconds.ensures, c.loop-row.invariant.0.bound, sums.blocks_few c.args.book.now rows.result.now c.requires rows.ensures)

pub loop-row-preserved : goal.loop-row-preserved
loop-row-preserved c =
    let a = c.args in
    let rows = c.rows_of-row-items in
    let rs = rows.result.now in
    let l = c.loop-row in
    let here = c.loop-row-test.true in
    let most = sums.each_seconds a.book.now rs c.requires rows.ensures l.row-index here in
    elim c.if-of_type.branch [
      | then-of_type w ↦
          rw (w.seconds-is, w.count-is, w.seconds_of-seconds.ensures) (
            sums.summed_more questions.seconds a.version a.number rs 999999 l.row-index l.seconds l.invariant.0 here (sym w.if-of_type.ensures) most,
            sums.summed_more (λ x. 1) a.version a.number rs 1 l.row-index l.count l.invariant.1 here (sym w.if-of_type.ensures) (omega arith),
          )
      | else-of_type w ↦
          rw (w.seconds-is, w.count-is) (
            sums.summed_same questions.seconds a.version a.number rs 999999 l.row-index l.seconds l.invariant.0 here (sym w.if-of_type.ensures),
            sums.summed_same (λ x. 1) a.version a.number rs 1 l.row-index l.count l.invariant.1 here (sym w.if-of_type.ensures),
          )
    ]

pub returns : goal.returns
returns c =
    let a = c.args in
    let rows = c.rows_of-row-items in
    let rs = rows.result.now in
    let l = c.loop-row in
    let over = c.loop-row-test.false in (
      rw rows.ensures at (sums.summed_all questions.seconds a.version a.number rs 999999 l.row-index l.seconds l.invariant.0 over),
      rw rows.ensures at (sums.summed_all (λ x. 1) a.version a.number rs 1 l.row-index l.count l.invariant.1 over),
    )
