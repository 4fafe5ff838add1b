-- `book::count_rows` meets its contract: no table has more rows than room. Assumes nothing.
use native.Mathlib.Omega.{arith}
use mathlib.Core.List.{List}
use mathlib.Core.Path.{ap}
use lib.ListN.{length}
use Rattle.words.specs.Words.{Row}
use Rattle.book.proofs.Laying.{rows_few}
use Rattle.book.proofs.count_rows.Goals as goal

pub returns : goal.returns
returns c =
    let e = ap (λ (l : List Row). length l) c.rows_of.ensures in
    (e, omega (arith, e, rows_few c.args.book.now c.requires c.args.t))
