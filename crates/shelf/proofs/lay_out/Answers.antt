use mathlib.Core.Path.{◌≡◌, sym, ap, ◌∙◌}
use mathlib.Core.List.{List, []}
use native.Mathlib.Omega.{arith}
use lib.ListN.{length, get_or, set, length-set}
use Rattle.words.specs.Words.{Row}
use Rattle.words.proofs.Lists as lists
use Rattle.shelf.specs.Shelf.{shelved}
use Rattle.shelf.proofs.Shelving.{length_shelved, slot_within, get_d_shelved}
use Rattle.shelf.proofs.Slots.{laid_over, laid_cleared}
use Rattle.shelf.proofs.lay_out.Goals as goal

pub bounds-slots-slot : goal.bounds-slots-slot
bounds-slots-slot c =
    rw c.from-slot.ensures (slot_within c.args.slots.now c.args.order.now c.args.n c.requires.0 c.loop-i.i (omega (arith, c.requires.0.few)))

pub loop-i-preserved : goal.loop-i-preserved
loop-i-preserved c =
    let slots = c.args.slots.now in
    let order = c.args.order.now in
    let n = c.args.n in
    let xs = shelved slots order n in
    let i = c.loop-i.i in
    let l : length xs ≡ n = length_shelved slots order n c.requires.0 in
    let next : get_or slots c.from-slot.result [] ≡ get_or xs i [] =
    ap (λ (j : _). get_or slots j []) c.from-slot.ensures ∙ sym (get_d_shelved slots order n c.requires.0 i (omega arith)) in (
      simp length-set c.loop-i.invariant.0,
      ap (λ (r : Row). set c.loop-i.list i r) next
          ∙ ap (λ (ls : List Row). set ls i (get_or xs i [])) c.loop-i.invariant.1
          ∙ lists.take_set [] xs c.args.list.now i (omega arith) (omega (arith, c.requires.0.few, c.requires.1)),
    )

pub returns-then-n-before : goal.returns-then-n-before
returns-then-n-before c =
    let slots = c.args.slots.now in
    let order = c.args.order.now in
    let n = c.args.n in
    let e : c.loop-i.i ≡ n = omega arith in
    laid_cleared (shelved slots order n) c.args.list.now c.loop-i.list n (length_shelved slots order n c.requires.0) (omega (arith, c.requires.0.few, c.requires.1)) c.loop-i.invariant.0
    (rw e at c.loop-i.invariant.1) c.requires.2 c.count-before.result c.count-before.ensures c.if-n-before.true c.clear.new.list c.clear.ensures

pub returns-else-n-before : goal.returns-else-n-before
returns-else-n-before c =
    let slots = c.args.slots.now in
    let order = c.args.order.now in
    let n = c.args.n in
    let e : c.loop-i.i ≡ n = omega arith in
    laid_over (shelved slots order n) c.args.list.now c.loop-i.list n (length_shelved slots order n c.requires.0) (omega (arith, c.requires.0.few, c.requires.1)) c.loop-i.invariant.0
    (rw e at c.loop-i.invariant.1) c.requires.2 (omega (arith, c.count-before.ensures, c.if-n-before.false))
