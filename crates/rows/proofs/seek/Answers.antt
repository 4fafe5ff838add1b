use mathlib.Core.Path.{◌≡◌, sym, ◌∙◌}
use Prim.Native.Nat.{◌+◌, ◌-◌, ◌/◌}
use lib.ListN.{length}
use borrow.Author.Rules.{rules}
use Rattle.rows.specs.Room.{used}
use Rattle.rows.proofs.Room.{used_within}
use Rattle.rows.proofs.Places as places
use Rattle.rows.proofs.seek.Goals as goal
use Rattle.rows.proofs.seek.Goals.{After-order_at}

-- what the row at the middle says
seen : (c : After-order_at) →
    let at = c in
    let st = at in
    places.order_at st.args.k st.args.row st.args.list.now (at.rows.low + (at.rows.high - at.rows.low) / 2) ≡ c.order_at.result
seen c = sym c.order_at.ensures

pub rows-init : goal.rows-init
rows-init c = let xs = c.args.list.now in (search rules, places.bracket_start c.args.k c.args.row (used xs) (length xs) (used_within xs))

pub rows-preserved-in-Less : goal.rows-preserved-in-Less
rows-preserved-in-Less c =
    let at = c in
    let st = at in
    let mid = at.rows.low + (at.rows.high - at.rows.low) / 2 in (
      search rules,
      places.slice_down st.args.k st.args.row st.args.list.now at.rows.low at.rows.high st.requires at.rows.invariant.1
          mid (search rules) (seen (goal.at.rows-preserved-in-Less c).After-order_at ∙ c.in-Less.is),
    )

pub returns-in-Equal : goal.returns-in-Equal
returns-in-Equal c =
    let at = c in
    let st = at in
    let mid = at.rows.low + (at.rows.high - at.rows.low) / 2 in
    sym (places.slice_at st.args.k st.args.row st.args.list.now at.rows.low at.rows.high st.requires at.rows.invariant.1
    mid (search rules) (seen (goal.at.returns-in-Equal c).After-order_at ∙ c.in-Equal.is))

pub rows-preserved : goal.rows-preserved
rows-preserved c =
    let at = c in
    let st = at in
    let mid = at.rows.low + (at.rows.high - at.rows.low) / 2 in (
      search rules,
      places.slice_up st.args.k st.args.row st.args.list.now at.rows.low at.rows.high st.requires at.rows.invariant.1
          mid (search rules) (seen (goal.at.rows-preserved c).After-order_at ∙ c.in-Greater.is),
    )

pub returns : goal.returns
returns c =
    let at = c in
    let st = at in
    sym (places.bracket_gap st.args.k st.args.row (used st.args.list.now) at.rows.low at.rows.high st.requires.rises at.rows.invariant.1 c.rows-test.false)
