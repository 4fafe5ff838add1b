use mathlib.Core.Path.{refl, ap, ◌∙◌}
use mathlib.Core.List.{[]}
use native.Mathlib.Omega.{arith}
use lib.ListN.{length, length-take, take}
use Rattle.words.proofs.Lists.{ended}
use Rattle.cells.proofs.Joining.{ended_more_length}
use Rattle.writer.specs.Writing.{row_line}
use Rattle.writer.proofs.RowLines.{all_lines}
use Rattle.writer.proofs.lines_length.Goals as goal

pub loop-row-init : goal.loop-row-init
unfolding ended
loop-row-init c = (omega arith, refl)

pub loop-row-preserved : goal.loop-row-preserved
loop-row-preserved c =
    let rows = take c.args.n c.args.list.now in
    (omega arith, omega (arith, ended_more_length row_line [] 10 rows c.loop-row.row-index c.loop-row-test.true))

pub returns : goal.returns
returns c =
    let a = c.args in
    let l = c.loop-row in
    (l.invariant.1 ∙ ap length (all_lines row_line (take a.n a.list.now) l.row-index c.loop-row-test.false), omega (arith, length-take a.n a.list.now))
