-- `keeping::in_ranges` meets its contract: the numbers before place i are in their ranges. Assumes nothing.
use mathlib.Core.Path.{◌≡◌}
use Prim.Native.Nat.{◌≤◌}
use lib.ListN.{take}
use Rattle.editions.specs.declared.Edition.{Edition}
use Rattle.tables.specs.Listing.{listed}
use Rattle.tables.specs.Columns.{kept_width, columns_of}
use Rattle.keeping.specs.Keeping.{ranged}
use Rattle.keeping.proofs.Keeping as keeping
use Rattle.keeping.proofs.in_ranges.Given as goal

abbrev pub invariant-loop-i : goal.invariant-loop-i
invariant-loop-i l =
    record {
      whole : l.i-end ≡ kept_width l.fn.t;
      few : l.i-end ≤ 11;
      left : (e : Edition) → l.columns ≡ listed e l.fn.t → ranged (columns_of e l.fn.t) (take (kept_width l.fn.t) l.row) ≡ keeping.ranged_from e l.i l.fn.t l.row;
    }
