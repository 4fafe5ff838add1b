-- `header::lowest_missing` meets its contract: the columns are asked from the first one on. Assumes nothing.
use mathlib.Core.Path.{◌≡◌}
use mathlib.Core.List.{List}
use Prim.Native.Nat.{ℕ, ◌+◌, ◌≤◌}
use lib.ListN.{drop}
use Rattle.tables.specs.Columns.{columns_of}
use Rattle.header.specs.Header.{missing_from, missing}
use Rattle.header.specs.Heading.{most_columns, places}
use Rattle.header.proofs.lowest_missing.Given as goal

abbrev pub invariant-columns : goal.invariant-columns
invariant-columns l =
    (l.count ≤ most_columns)
    × ((h : List ℕ) → l.at ≡ places h → missing l.fn.edition l.fn.t h ≡ missing_from (l.k + 1) (drop l.k (columns_of l.fn.edition l.fn.t)) h)
    × (l.lowest ≡ 0)
