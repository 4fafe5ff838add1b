-- `rows::blank_from` meets its contract: all those rows are blank. Assumes nothing.
use mathlib.Core.Path.{◌≡◌, ◌∙◌}
use Prim.Native.Nat.{◌-◌}
use native.Mathlib.Omega.{arith}
use lib.ListN.{length, take, drop, length-drop}
use lib.Seq.{take_all}
use borrow.Author.Rules.{rules}
use borrow.Author.Tests.{tests}
use Rattle.std.proofs.lemmas.Iterator.{YieldsList-from_slice}
use Rattle.std.proofs.lemmas.Iterator.Search.{all_from_yields_List}
use Rattle.words.specs.Words.{same}
use Rattle.rows.specs.Room.{zeros}
use Rattle.rows.proofs.Room.{all_blank}
use Rattle.rows.proofs.blank_from.Goals as goal

pub returns : goal.returns
returns c =
    let left = length c.args.list.now - c.args.n in
    let rows = drop c.args.n c.args.list.now in
    let l = length-drop c.args.n c.args.list.now in
    let e : take left rows ≡ rows = take_all left rows (omega arith) in
    all_from_yields_List (λ row. same row zeros) _ _ _ c.all.ensures.ran (YieldsList-from_slice rows cc) (λ x b q k. search (rules, tests)) ∙ all_blank rows left l
