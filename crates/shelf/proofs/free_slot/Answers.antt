-- `shelf::free_slot` meets its contract: the later slots close the place of the one that is free, which comes behind them. Assumes nothing.
use mathlib.Core.Path.{◌≡◌, refl, ap, ◌∙◌}
use mathlib.Core.List.{List}
use Prim.Native.Nat.{ℕ, suc, ◌+◌, ◌-◌, ◌<◌}
use native.Mathlib.Omega.{arith}
use lib.ListN.{length, get_or, set, length-set}
use Rattle.shelf.proofs.Shifts as shifts
use Rattle.shelf.proofs.free_slot.Goals as goal

pub loop-i-init : goal.loop-i-init
loop-i-init c =
    let e : c.args.at + 1 - suc c.args.at ≡ 0 = omega arith in
    (refl, rw e (shifts.closed_start 0 c.args.order.now c.args.at))

pub loop-i-preserved : goal.loop-i-preserved
loop-i-preserved c =
    let w = c.loop-i in
    let xs = c.args.order.now in
    let a = c.args.at in
    let i = w.i in
    let m = i - suc a in
    let e : i - 1 ≡ a + m = omega (arith, w.auto.i) in
    let f : suc (a + m) ≡ i = omega (arith, w.auto.i) in
    let g : suc m ≡ i + 1 - suc a = omega (arith, w.auto.i) in
    let h : suc (a + m) < length xs = omega (arith, w.auto.i, c.loop-i-test.true, c.requires.1) in (
      simp length-set w.invariant.0,
      ap (λ (l : List ℕ). set l (i - 1) (get_or l i 0)) w.invariant.1 ∙ rw (e, ← g) (rw f at (shifts.closed_next 0 xs a m h)),
    )

pub returns : goal.returns
returns c =
    let w = c.loop-i in
    let xs = c.args.order.now in
    let n = c.args.n in
    let a = c.args.at in
    let slot = get_or xs a 0 in
    let m = n - suc a in
    let e : w.i ≡ n = omega (arith, w.auto.i, w.auto.i-end, c.loop-i-test.false, c.requires.0) in
    let f : n - 1 ≡ a + m = omega (arith, c.requires.0) in
    let g : suc (a + m) ≡ n = omega (arith, c.requires.0) in
    let h : a + m < length xs = omega (arith, c.requires.0, c.requires.1) in
    ap (λ (l : List ℕ). set l (n - 1) slot) (w.invariant.1 ∙ ap (λ (j : ℕ). shifts.closed xs a (j - suc a)) e)
    ∙ rw f (shifts.closed_set 0 xs a m h slot ∙ rw g)
