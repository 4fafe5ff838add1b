use mathlib.Core.Path.{◌≡◌}
use Prim.Native.Nat.{◌-◌, ◌+◌, ◌^◌, ◌≤◌, ◌<◌}
use native.Mathlib.Omega.{arith}
use lib.ListN.{get_or}
use Rattle.numbers.specs.Numbers.{decimal}
use Rattle.numbers.proofs.Decimals.{power_le}
use Rattle.numbers.proofs.Writing.{decimal_some, decimal_short}
use Rattle.numbers.proofs.Powers.{power_at, power_next_left, none_written, digit_written, last_written, twenty_reach, first_of_twenty}
use Rattle.numbers.proofs.write_number.Goals as goal
use Rattle.numbers.proofs.write_number.Goals.{After-loop-i, At-loop-i, then-last-eq-LAST_POWER, else-last-eq-LAST_POWER}

-- the power at a place
power-here : (c : At-loop-i) → c.loop-i.i < c.digit_count-count.result - 1 → get_or c.powers_of_ten-powers.result.now (c.digit_count-count.result - 1 - c.loop-i.i) 0 ≡ 10 ^ (c.digit_count-count.result - 1 - c.loop-i.i)
power-here c h = rw c.powers_of_ten-powers.ensures (power_at (c.digit_count-count.result - 1 - c.loop-i.i) (omega arith))

-- behind the loop what is left is the last digit
last-left : (c : After-loop-i) → (c.digit_count-count.result ≡ c.loop-i.i + 1) × (c.loop-i.left < 10)
last-left c =
    let w = c.digit_count-count.result in
    let some : 1 ≤ w = omega (arith, decimal_some c.args.n) in
    let one : w - c.loop-i.i ≡ 1 = omega arith in
    (omega arith, rw one at c.loop-i.invariant.2.2)

pub overflow_sub-last : goal.overflow_sub-last
overflow_sub-last c = omega (arith, decimal_some c.args.n)

pub overflow_sub-left : goal.overflow_sub-left
overflow_sub-left c = omega (arith, twenty_reach c.args.n c.digit_count-count.result c.digit_count-count.ensures c.if-last-eq-LAST_POWER.true)

pub loop-i-init : goal.loop-i-init
loop-i-init c =
    let w = c.digit_count-count in
    elim c.if-last-eq-LAST_POWER.branch [
      | then-last-eq-LAST_POWER t ↦ rw (t.out-is, t.left-is, t.first-is) (omega (arith, t.if-last-eq-LAST_POWER.true), omega (arith, t.if-last-eq-LAST_POWER.true), first_of_twenty c.args.n w.result c.args.out.now w.ensures (omega arith) t.if-last-eq-LAST_POWER.true c.ranges.n.fits)
      | else-last-eq-LAST_POWER t ↦ rw (t.out-is, t.left-is, t.first-is) (omega arith, (let e = t.if-last-eq-LAST_POWER.false in omega (arith, decimal_short c.args.n c.ranges.n.fits)), none_written c.args.n w.result c.args.out.now w.ensures)
    ]

pub digit_of-d-requires : goal.digit_of-d-requires
digit_of-d-requires c =
    let w = c.digit_count-count.result in
    let here = power-here (goal.at.digit_of-d-requires c).At-loop-i c.loop-i-test.true in
    (omega (arith, here, power_next_left w c.loop-i.i (omega arith), c.loop-i.invariant.2), omega (arith, here, power_le (w - 1 - c.loop-i.i) 18 (omega (arith, c.loop-i.invariant.1))))

pub loop-i-preserved : goal.loop-i-preserved
loop-i-preserved c =
    let l = c.loop-i in
    let w = c.digit_count-count in
    let d = c.digit_of-d in
    (omega arith, omega arith, digit_written (decimal c.args.n) w.result c.args.out.now l.out l.left l.i _ d.result.digit d.result.left w.ensures (omega arith) (omega arith) l.invariant.2 (power-here (goal.at.loop-i-preserved c).At-loop-i c.loop-i-test.true) d.ensures.0 d.ensures.1 d.ensures.2)

pub overflow_cast-out : goal.overflow_cast-out
overflow_cast-out c = record { fits = omega (arith, (last-left (goal.at.overflow_cast-out c).After-loop-i).1) }

pub overflow_add-out-2 : goal.overflow_add-out-2
overflow_add-out-2 c = record { fits = omega (arith, (last-left (goal.at.overflow_add-out-2 c).After-loop-i).1) }

pub bounds-out-last : goal.bounds-out-last
bounds-out-last c = omega (arith, c.loop-i.invariant.2.0, (last-left (goal.at.bounds-out-last c).After-loop-i).0)

pub returns : goal.returns
returns c =
    let l = c.loop-i in
    let w = c.digit_count-count in
    let last = (last-left (goal.at.returns c).After-loop-i).0 in
    let i : w.result - 1 ≡ l.i = omega (arith, last) in
    (w.ensures, rw i (last_written (decimal c.args.n) w.result c.args.out.now l.out l.left l.i w.ensures (omega arith) last l.invariant.2))
