-- `rows::holding` meets its contract: the test, part by part. Assumes nothing.
use mathlib.Core.Path.{sym, ◌∙◌}
use native.Mathlib.Omega.{arith}
use Rattle.rows.proofs.Room as room
use Rattle.rows.proofs.holding.Goals as goal

pub rises-requires : goal.rises-requires
rises-requires c = omega (arith, room.used_within c.args.list.now, c.first_unused-n.ensures)

pub blank_from-requires : goal.blank_from-requires
blank_from-requires c = omega (arith, room.used_within c.args.list.now, c.first_unused-n.ensures)

pub returns-then-rises : goal.returns-then-rises
returns-then-rises c =
    let n = c.first_unused-n in
    c.blank_from.ensures ∙ sym (room.holds_on c.args.k n.result c.args.list.now n.ensures (sym c.rises.ensures ∙ c.if-rises.true))

pub returns-else-rises : goal.returns-else-rises
returns-else-rises c =
    let n = c.first_unused-n in
    c.if-rises.false ∙ sym (room.holds_not c.args.k n.result c.args.list.now n.ensures (sym c.rises.ensures ∙ c.if-rises.false))
