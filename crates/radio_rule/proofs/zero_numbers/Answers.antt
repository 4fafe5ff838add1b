-- `radio_rule::zero_numbers` meets its contract: all are zero. Assumes nothing.
use mathlib.Core.Path.{◌∙◌}
use lib.Dec.{eqb}
use borrow.Author.Rules.{rules}
use borrow.Author.Tests.{tests}
use Rattle.std.proofs.lemmas.Iterator.{YieldsList-from_slice}
use Rattle.std.proofs.lemmas.Iterator.Search.{all_from_yields_List}
use Rattle.radio_rule.proofs.Zeros.{all_zeros}
use Rattle.radio_rule.proofs.zero_numbers.Goals as goal

pub returns : goal.returns
returns c =
    let list = c.args.list.now in
    all_from_yields_List (λ x. eqb x 0) _ _ _ c.all.ensures.ran (YieldsList-from_slice list cc) (λ x b q k. search (rules, tests)) ∙ all_zeros list
