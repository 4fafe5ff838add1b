-- `shelf::put_slot` meets its contract: the row comes into the first free slot, and that slot into the place that the later ones leave. Assumes nothing.
use mathlib.Core.Path.{◌≡◌, refl, ap, ◌∙◌}
use mathlib.Core.List.{List}
use Prim.Native.Nat.{ℕ, ◌-◌, ◌+◌, ◌<◌, ◌≤◌}
use native.Mathlib.Omega.{arith}
use lib.ListN.{get_or, set, length-set}
use Rattle.shelf.proofs.Shelving.{slot_within}
use Rattle.shelf.proofs.Shifts as shifts
use Rattle.shelf.proofs.put_slot.Goals as goal

pub bounds-slots-from : goal.bounds-slots-from
bounds-slots-from c = rw c.from.ensures (slot_within c.args.slots.now c.args.order.now c.args.n c.requires.0 c.args.n (omega (arith, c.requires.0.long, c.requires.1)))

pub loop-i-init : goal.loop-i-init
loop-i-init c = (c.requires.2, refl, shifts.opened_start 0 c.args.order.now c.args.n (omega (arith, c.requires.0.long, c.requires.1)))

pub loop-i-preserved : goal.loop-i-preserved
loop-i-preserved c =
    let w = c.loop-i in
    let i = w.i in
    let more : 0 < i = omega (arith, c.loop-i-test.true) in
    let within : i ≤ c.args.n = omega (arith, w.auto.i) in
    let e : i - 1 + 1 ≡ i = omega arith in (
      omega (arith, c.loop-i-test.true),
      simp length-set w.invariant.1,
      rw e (ap (λ (l : List ℕ). set l i (get_or l (i - 1) 0)) w.invariant.2 ∙ shifts.opened_next 0 c.args.order.now c.args.n (omega (arith, c.requires.0.long, c.requires.1)) i more within),
    )

pub returns : goal.returns
returns c =
    let xs = c.args.order.now in
    let n = c.args.n in
    let a = c.args.at in
    let slot = get_or xs n 0 in
    let e : c.loop-i.i ≡ a = omega (arith, c.loop-i.auto.i, c.loop-i-test.false, c.loop-i.invariant.0) in (
      ap (λ (i : ℕ). set c.args.slots.now i c.args.row) c.from.ensures,
      ap (λ (l : List ℕ). set l a slot) (c.loop-i.invariant.2 ∙ ap (shifts.opened xs n) e)
          ∙ shifts.opened_set 0 xs n (omega (arith, c.requires.0.long, c.requires.1)) a slot c.requires.2,
    )
