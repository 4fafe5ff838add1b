-- `day_tally::add` meets its contract. Assumes nothing.
use mathlib.Core.Path.{refl}
use borrow.Author.Tests.{eq-eqb, ne_eqb}
use Rattle.day_tally.specs.Tally.{kind_at}
use Rattle.day_tally.proofs.add.Goals as goal

pub returns-then-last-kind : goal.returns-then-last-kind
returns-then-last-kind c =
    let a = c.args in
    rw (eq-eqb (kind_at a.tally.now a.at) a.kind c.if-last-kind.true) (refl, refl)

pub returns : goal.returns
returns c =
    let a = c.args in
    rw (ne_eqb (kind_at a.tally.now a.at) a.kind c.if-last-kind.false) (refl, refl)
