-- `column_names::place_in` meets its contract: the first of the parts that is the name. Assumes nothing.
use mathlib.Core.Bool.{true, false}
use mathlib.Core.Path.{◌≡◌}
use lib.Dec.{eqb}
use lib.ListN.{length}
use borrow.Author.Rules.{rules}
use borrow.Author.Tests.{tests}
use Rattle.std.specs.Cmp.Lexicographic.{pointwise}
use Rattle.std.proofs.lemmas.Iterator.{IsFirst-from_position}
use Rattle.std.proofs.lemmas.Iterator.Splits.{YieldsList-from_slice_split}
use Rattle.std.proofs.option.Match.{if_some, if_none}
use Rattle.column_names.proofs.Naming.{place_at, place_none}
use Rattle.column_names.proofs.place_in.Goals as goal

pub returns-in-Some : goal.returns-in-Some
returns-in-Some c =
    let name = c.args.name.now in
    place_at c.args.names.now name c.in-Some.i
    (if_some _ _ _ c.in-Some.is
    (IsFirst-from_position _ _ _ (λ x. pointwise eqb name x ≡ true) (λ x. pointwise eqb name x ≡ false) c.position.ensures.ran
    (YieldsList-from_slice_split _ _ c.args.names.now c.split.ensures.rest c.split.ensures.done c.split.ensures.closure (λ x r q k. search (rules, tests)))
    (λ x q k. search (rules, tests)) (λ x q k. search (rules, tests))))

pub returns-in-None : goal.returns-in-None
returns-in-None c =
    let name = c.args.name.now in
    place_none c.args.names.now name
    (if_none _ _ c.in-None.is
    (IsFirst-from_position _ _ _ (λ x. pointwise eqb name x ≡ true) (λ x. pointwise eqb name x ≡ false) c.position.ensures.ran
    (YieldsList-from_slice_split _ _ c.args.names.now c.split.ensures.rest c.split.ensures.done c.split.ensures.closure (λ x r q k. search (rules, tests)))
    (λ x q k. search (rules, tests)) (λ x q k. search (rules, tests))))
