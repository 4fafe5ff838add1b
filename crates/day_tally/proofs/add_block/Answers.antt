-- `day_tally::add_block` meets its contract: a block of another type adds nothing. Assumes nothing.
use mathlib.Core.Path.{◌≡◌, refl, sym, ◌∙◌}
use mathlib.Core.Bool.{true, false}
use Rattle.questions.specs.Questions.{of_type}
use Rattle.day_tally.proofs.add_block.Goals as goal

pub returns-then-not-of_type : goal.returns-then-not-of_type
returns-then-not-of_type c =
    let a = c.args in
    let e : of_type a.version a.number a.row ≡ false = sym c.of_type.ensures ∙ c.if-not-of_type.true in
    rw e (refl, refl)

pub returns : goal.returns
returns c =
    let a = c.args in
    let e : of_type a.version a.number a.row ≡ true = sym c.of_type.ensures ∙ c.if-not-of_type.false in
    rw (e, ← c.seconds_of-more.ensures) c.add.ensures
