use mathlib.Core.Path.{◌≡◌, refl, ◌∙◌}
use Prim.Native.Nat.{◌+◌, ◌-◌, ◌≤◌}
use native.Mathlib.Omega.{arith}
use lib.ListN.{length, get_or}
use Rattle.words.proofs.Lists.{ended}
use Rattle.cells.proofs.Joining.{ended_more_length, parted_length}
use Rattle.numbers.specs.Numbers.{decimal}
use Rattle.numbers.proofs.Writing.{decimal_short}
use Rattle.number_lines.proofs.numbers_length.Goals as goal
use Rattle.number_lines.proofs.numbers_length.Goals.{After-digit_count}

digits-few : (c : After-digit_count) → c.digit_count.result ≤ 20
digits-few c =
    let i = c.loop-n.n-index in
    omega (arith, decimal_short (get_or c.args.numbers.now i 0) (c.type_inv.numbers i).fits)

pub loop-n-init : goal.loop-n-init
unfolding ended
loop-n-init c = (omega arith, λ separator. refl)

pub overflow_add-size : goal.overflow_add-size
overflow_add-size c = omega (arith, digits-few (goal.at.overflow_add-size c).After-digit_count)

pub overflow_add-size-in-loop-n : goal.overflow_add-size-in-loop-n
overflow_add-size-in-loop-n c = omega (arith, digits-few (goal.at.overflow_add-size-in-loop-n c).After-digit_count, c.requires.1)

pub loop-n-preserved : goal.loop-n-preserved
loop-n-preserved c =
    let l = c.loop-n in
    let numbers = c.args.numbers.now in
    (omega (arith, digits-few (goal.at.loop-n-preserved c).After-digit_count), λ separator. omega (arith, l.invariant.1 separator, ended_more_length decimal 0 separator numbers l.n-index (omega arith)))

pub returns : goal.returns
returns c =
    let l = c.loop-n in
    let numbers = c.args.numbers.now in
    let some : length numbers ≡ (length numbers - 1) + 1 = omega (arith, c.requires.0) in
    let e : l.n-index ≡ (length numbers - 1) + 1 = omega arith in
    ((λ separator. rw e at (l.invariant.1 separator) ∙ parted_length decimal 0 separator numbers (length numbers - 1) some), omega arith)
