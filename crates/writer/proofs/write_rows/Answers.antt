use mathlib.Core.Path.{refl, ap, ◌∙◌}
use mathlib.Core.List.{[]}
use Prim.Native.Nat.{◌+◌, ◌≤◌}
use native.Mathlib.Omega.{arith}
use lib.ListN.{length, take, get_or}
use Rattle.words.specs.Words.{Bytes}
use Rattle.words.proofs.Lists.{ended}
use Rattle.cells.proofs.Joining.{ended_more_length}
use Rattle.numbers.specs.Putting.{put}
use Rattle.numbers.proofs.Putting.{length_rest}
use Rattle.number_lines.proofs.RowLines.{lent_more}
use Rattle.writer.specs.Writing.{row_line}
use Rattle.writer.proofs.RowLines.{all_lines, next_fits}
use Rattle.writer.proofs.write_rows.Goals as goal
use Rattle.writer.proofs.write_rows.Goals.{In-loop-row}

-- the row at the place reached has room
row_fits : (c : In-loop-row) → c.loop-row.at + (length (row_line (get_or (take c.args.n c.args.list.now) c.loop-row.row-index [])) + 1) ≤ length c.args.out.now
row_fits c =
    next_fits row_line [] (take c.args.n c.args.list.now) c.loop-row.row-index c.loop-row.at (length c.args.out.now) c.loop-row-test.true c.loop-row.invariant.0 c.requires.1

pub loop-row-init : goal.loop-row-init
unfolding ended
loop-row-init c = (refl, refl)

pub slice_bounds-write_row-count : goal.slice_bounds-write_row-count
slice_bounds-write_row-count c = omega (arith, row_fits (goal.at.slice_bounds-write_row-count c).In-loop-row, c.loop-row.auto.out)

pub write_row-at-requires : goal.write_row-at-requires
write_row-at-requires c =
    let l = c.loop-row in
    rw (length_rest l.out l.at) (omega (arith, row_fits (goal.at.write_row-at-requires c).In-loop-row, l.auto.out))

pub loop-row-preserved : goal.loop-row-preserved
loop-row-preserved c =
    let a = c.args in
    let rows = take a.n a.list.now in
    let l = c.loop-row in
    let w = c.write_row-at in
    let here = c.loop-row-test.true in (
      omega (arith, ended_more_length row_line [] 10 rows l.row-index here, w.ensures.0, l.invariant.0),
      lent_more row_line [] 10 rows l.row-index here a.out.now l.out w.new.out l.at l.invariant.0 l.invariant.1 w.ensures.1,
    )

pub returns : goal.returns
returns c =
    let a = c.args in
    let l = c.loop-row in
    let all = all_lines row_line (take a.n a.list.now) l.row-index c.loop-row-test.false in
    (l.invariant.0 ∙ ap length all, l.invariant.1 ∙ ap (λ (t : Bytes). put t a.out.now) all)
