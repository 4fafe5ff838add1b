-- `rows::first_unused` meets its contract: the place of the first row whose VERSION is 0. Assumes nothing.
use mathlib.Core.Path.{◌∙◌}
use lib.Dec.{eqb}
use borrow.Author.Rules.{rules}
use borrow.Author.Tests.{tests}
use Rattle.std.proofs.lemmas.Iterator.{YieldsList-from_slice}
use Rattle.std.proofs.lemmas.Iterator.Search.{position_from_yields_List}
use Rattle.rows.specs.Rows.{column}
use Rattle.rows.proofs.Room.{first_place}
use Rattle.rows.proofs.first_unused.Goals as goal

pub returns : goal.returns
returns c =
    let rows = c.args.list.now in
    let place = position_from_yields_List (λ row. eqb (column 1 row) 0) _ _ _ c.position.ensures.ran (YieldsList-from_slice rows cc) (λ x b q k. search (rules, tests)) in
    c.unwrap_or.ensures ∙ first_place rows c.position.result place
