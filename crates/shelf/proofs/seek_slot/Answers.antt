use mathlib.Core.Path.{◌≡◌, sym, ap, ◌∙◌}
use mathlib.Core.List.{[]}
use Prim.Native.Nat.{◌-◌, ◌≤◌, ◌<◌}
use native.Mathlib.Omega.{arith}
use lib.ListN.{length, get_or}
use borrow.Author.Rules.{rules}
use Rattle.rows.specs.Rows.{key_order}
use Rattle.rows.proofs.Places as places
use Rattle.shelf.specs.Shelf.{shelved}
use Rattle.shelf.proofs.Shelving.{length_shelved, slot_within, get_d_shelved}
use Rattle.shelf.proofs.seek_slot.Goals as goal
use Rattle.shelf.proofs.seek_slot.Goals.{in-Less, in-Greater, After-compare, After-shared_slice_known-in-slots-1, Joined-compare}

within : (c : After-shared_slice_known-in-slots-1) →
    let at = c in
    let st = at in
    get_or st.args.order.now at.slots.probe 0 < length st.args.slots.now
within c =
    let at = c in
    let st = at in
    slot_within st.args.slots.now st.args.order.now st.args.n st.requires.0 at.slots.probe (search rules)

-- what the row that is looked at says
seen : (c : After-compare) →
    let at = c in
    let st = at in
    key_order st.args.k st.args.row.now (get_or (shelved st.args.slots.now st.args.order.now st.args.n) at.slots.probe []) ≡ c.compare.result
seen c =
    let at = c in
    let st = at in
    ap (key_order st.args.k st.args.row.now) (rw c.from-slot.ensures (get_d_shelved st.args.slots.now st.args.order.now st.args.n st.requires.0 at.slots.probe (search rules)))
    ∙ sym c.compare.ensures

among : (c : After-compare) →
    let at = c in
    let st = at in
    at.slots.probe < length (shelved st.args.slots.now st.args.order.now st.args.n)
among c =
    let st = c in
    let l = length_shelved st.args.slots.now st.args.order.now st.args.n st.requires.0 in
    omega arith

-- where the arms meet: low and high bracket the place, and are closer than they were
met : (c : Joined-compare) →
    (c.slots.probe < length (shelved c.args.slots.now c.args.order.now c.args.n)) →
    (key_order c.args.k c.args.row.now (get_or (shelved c.args.slots.now c.args.order.now c.args.n) c.slots.probe []) ≡ c.compare.result) →
    let low = c.match-compare.low in
    let high = c.match-compare.high in
    let at = c in
    let st = at in
    (low ≤ high) × (high ≤ st.args.n) × (high - low < at.slots.high - at.slots.low)
    × places.Bracket st.args.k st.args.row.now (shelved st.args.slots.now st.args.order.now st.args.n) low high
met c within_rows looked_at =
    let at = c in
    let st = at in
    let k = st.args.k in
    let row = st.args.row.now in
    let xs = shelved st.args.slots.now st.args.order.now st.args.n in
    let low = at.slots.low in
    let high = at.slots.high in
    let probe = at.slots.probe in
    elim c.match-compare.branch [
      | in-Less w ↦
          let l = w.low-is in
          let h = w.high-is in
          (omega arith, omega arith, omega arith, rw (l, h) (places.bracket_down k row xs low high st.requires.1 at.slots.invariant.4 probe within_rows (looked_at ∙ w.in-Less.is)))
      | in-Greater w ↦
          let l = w.low-is in
          let h = w.high-is in
          (omega arith, omega arith, omega arith, rw (l, h) (places.bracket_up k row xs low high st.requires.1 at.slots.invariant.4 probe within_rows (looked_at ∙ w.in-Greater.is)))
    ]

pub slots-init : goal.slots-init
slots-init c =
    let n = c.args.n in
    let xs = shelved c.args.slots.now c.args.order.now n in
    let l : length xs ≡ n = length_shelved c.args.slots.now c.args.order.now n c.requires.0 in
    (search rules, search rules, search rules, omega (arith, c.saturating_sub-probe.ensures), places.bracket_start c.args.k c.args.row.now xs n (omega arith))

pub bounds-slots-slot : goal.bounds-slots-slot
bounds-slots-slot c = rw c.from-slot.ensures (within (goal.at.bounds-slots-slot c).After-shared_slice_known-in-slots-1)

pub returns-in-Equal : goal.returns-in-Equal
returns-in-Equal c =
    let at = c in
    let st = at in
    let xs = shelved st.args.slots.now st.args.order.now st.args.n in
    sym (places.bracket_at st.args.k st.args.row.now xs at.slots.low at.slots.high st.requires.1 at.slots.invariant.4
    at.slots.probe (among (goal.at.returns-in-Equal c).After-compare) (seen (goal.at.returns-in-Equal c).After-compare ∙ c.in-Equal.is))

pub overflow_sub-probe : goal.overflow_sub-probe
overflow_sub-probe c = (met (goal.at.overflow_sub-probe c).Joined-compare (among (goal.at.overflow_sub-probe c).After-compare) (seen (goal.at.overflow_sub-probe c).After-compare)).0

pub overflow_add-probe : goal.overflow_add-probe
overflow_add-probe c = let m = met (goal.at.overflow_add-probe c).Joined-compare (among (goal.at.overflow_add-probe c).After-compare) (seen (goal.at.overflow_add-probe c).After-compare) in search rules

pub slots-smaller-then-ends : goal.slots-smaller-then-ends
slots-smaller-then-ends c = (met (goal.at.slots-smaller-then-ends c).Joined-compare (among (goal.at.slots-smaller-then-ends c).After-compare) (seen (goal.at.slots-smaller-then-ends c).After-compare)).2

pub slots-preserved-then-ends : goal.slots-preserved-then-ends
slots-preserved-then-ends c =
    let m = met (goal.at.slots-preserved-then-ends c).Joined-compare (among (goal.at.slots-preserved-then-ends c).After-compare) (seen (goal.at.slots-preserved-then-ends c).After-compare) in
    (m.0, m.1, search rules, search rules, m.3)

pub slots-smaller : goal.slots-smaller
slots-smaller c = (met (goal.at.slots-smaller c).Joined-compare (among (goal.at.slots-smaller c).After-compare) (seen (goal.at.slots-smaller c).After-compare)).2

pub slots-preserved : goal.slots-preserved
slots-preserved c =
    let m = met (goal.at.slots-preserved c).Joined-compare (among (goal.at.slots-preserved c).After-compare) (seen (goal.at.slots-preserved c).After-compare) in
    (m.0, m.1, search rules, search rules, m.3)

pub returns : goal.returns
returns c =
    let at = c in
    let st = at in
    let xs = shelved st.args.slots.now st.args.order.now st.args.n in
    sym (places.bracket_gap st.args.k st.args.row.now xs at.slots.low at.slots.high st.requires.1 at.slots.invariant.4 c.slots-test.false)
