use mathlib.Core.Path.{refl}
use mathlib.Core.List.{[], ◌∷◌, ◌++◌, map}
use native.Mathlib.Omega.{arith}
use lib.ListN.{take}
use lib.Seq.{take_all}
use mathlib.Core.Path.{◌≡◌}
use Rattle.words.proofs.Lists.{ended}
use Rattle.cells.proofs.Joining.{ended_more_length}
use Rattle.numbers.specs.Numbers.{decimal}
use Rattle.numbers.proofs.Putting.{lent, length_rest}
use Rattle.number_lines.proofs.RowLines.{lent_more, last_closed, last_room, cell_room}
use Rattle.number_lines.proofs.write_numbers.Goals as goal
use Rattle.number_lines.proofs.write_numbers.Goals.{After-loop-n}

-- behind the loop all others are put
all_passed : (c : After-loop-n) → take c.loop-n.n-index c.in-Some.others.now ≡ c.in-Some.others.now
all_passed c = take_all c.loop-n.n-index c.in-Some.others.now (omega arith)

pub loop-n-init : goal.loop-n-init
unfolding ended
loop-n-init c = (refl, refl)

pub write_cell-at-requires : goal.write_cell-at-requires
write_cell-at-requires c =
    let l = c.loop-n in
    rw (length_rest l.out l.at) (omega (arith, cell_room c.args.separator c.args.numbers.now c.in-Some.others.now c.in-Some.last.now l.n-index c.in-Some.ensures.cases.0 c.loop-n-test.true, c.requires.1))

pub loop-n-preserved : goal.loop-n-preserved
loop-n-preserved c =
    let l = c.loop-n in
    let w = c.write_cell-at in
    let others = c.in-Some.others.now in (
      omega (arith, ended_more_length decimal 0 c.args.separator others l.n-index (omega arith)),
      lent_more decimal 0 c.args.separator others l.n-index (omega arith) c.args.out.now l.out w.new.out l.at l.invariant.0 l.invariant.1 w.ensures.1,
    )

pub write_cell-requires : goal.write_cell-requires
write_cell-requires c =
    let l = c.loop-n in
    let at_last = rw (all_passed (goal.at.write_cell-requires c).After-loop-n) at l.invariant.0 in
    rw (length_rest l.out l.at) (omega (arith, at_last, last_room c.args.separator c.args.numbers.now c.in-Some.others.now c.in-Some.last.now c.in-Some.ensures.cases.0, c.requires.1))

pub returns : goal.returns
returns c =
    let l = c.loop-n in
    let w = c.write_cell in
    let sep = c.args.separator in
    let others = c.in-Some.others.now in
    let last = c.in-Some.last.now in
    let whole = c.in-Some.ensures.cases.0 in
    let all = all_passed (goal.at.returns c).After-loop-n in
    let at_last = rw all at l.invariant.0 in (
      omega (arith, at_last, last_room sep c.args.numbers.now others last whole),
      rw (last_closed sep 10 c.args.numbers.now others last whole) at (lent (ended sep (map decimal others)) (decimal last ++ (10 ∷ [])) c.args.out.now l.out w.new.out l.at at_last (rw all at l.invariant.1) w.ensures.1),
    )
