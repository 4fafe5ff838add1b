use Prim.Native.Nat.{◌≤◌}
use native.Mathlib.Omega.{arith}
use lib.ListN.{length}
use Rattle.tables.specs.declared.Table.TheVariants.{Calendar}
use Rattle.book.proofs.Laying.{orderly_book}
use Rattle.keeping.proofs.Keeping.{keeps_sound}
use Rattle.day_tally.specs.Tally.{shares}
use Rattle.seasons.proofs.Summing.{sofar_next, sofar_all}
use Rattle.seasons.proofs.days_summed.Goals as goal

pub rows_of-days-requires : goal.rows_of-days-requires
rows_of-days-requires c = keeps_sound c.args.book.now c.requires.0

pub overflow_add-sum : goal.overflow_add-sum
overflow_add-sum c =
    let a = c.args in
    let rows = c.rows_of-days in
    let l = c.loop-day in
    let next = sofar_next a.first a.last a.version (shares a.tally.now a.at) rows.result.now l.day-index l.sum l.invariant c.loop-day-test.true c.requires.3 c.on_day-sum.result c.on_day-sum.ensures in
    let few : length rows.result.now ≤ 800 = rw rows.ensures ((orderly_book a.book.now (keeps_sound a.book.now c.requires.0)).few Calendar) in
    omega (arith, next.bound)

pub loop-day-preserved : goal.loop-day-preserved
loop-day-preserved c =
    let a = c.args in
    let l = c.loop-day in
    sofar_next a.first a.last a.version (shares a.tally.now a.at) c.rows_of-days.result.now l.day-index l.sum l.invariant c.loop-day-test.true c.requires.3 c.on_day-sum.result c.on_day-sum.ensures

pub returns : goal.returns
returns c =
    let a = c.args in
    let rows = c.rows_of-days in
    let l = c.loop-day in
    rw rows.ensures at (sofar_all a.first a.last a.version (shares a.tally.now a.at) rows.result.now l.day-index l.sum l.invariant c.loop-day-test.false)
