-- A block's two times: which test decides 11, and how long a block runs. Assumes nothing.
use mathlib.Core.Path.{◌≡◌, refl}
use mathlib.Core.Bool.{Bool, true, false, not}
use Prim.Native.Nat.{ℕ, ◌+◌, ◌-◌, ◌≤◌, ◌<◌}
use native.Mathlib.Omega.{arith}
use lib.Dec.{ltb}
use lib.ListN.{get_or}
use borrow.Author.Tests.{ltb-true, lt-ltb, le-ltb}
use Rattle.words.specs.Words.{Row, whether◌then◌else◌}
use Rattle.words.proofs.Lists.{and_left, and_right}
use Rattle.tables.specs.declared.Table.{Table}
use Rattle.tables.specs.declared.Table.TheVariants.{VehicleType, Depot, Stop, StopPoint, Block, Calendar}
use Rattle.rules.specs.Rules.{day, within_day, ends_lower, overnight, time_fault, seconds}

module _ (row : Row) where
  abbrev begins : ℕ
  begins = get_or row 7 0

  abbrev ends : ℕ
  ends = get_or row 10 0

  -- seconds ----------------------------------------------------------------------------------------------------------------------------

  pub overnight_ends : overnight row ≡ true → (ends < day) × (begins < day) × (ends < begins)
  overnight_ends e =
      let w : within_day row ≡ true = and_left (within_day row) (ends_lower row) e in (
        ltb-true ends day (and_right (ltb begins day) (ltb ends day) w),
        ltb-true begins day (and_left (ltb begins day) (ltb ends day) w),
        ltb-true ends begins (and_right (within_day row) (ends_lower row) e),
      )

  pub seconds_overnight : overnight row ≡ true → seconds row ≡ ends + day - begins
  seconds_overnight e = rw e

  pub seconds_plain : overnight row ≡ false → seconds row ≡ ends - begins
  seconds_plain e = rw e

  -- a block that runs into the next day is shorter than a day
  pub seconds_most : (most : ℕ) → day ≤ most → ends ≤ most → seconds row ≤ most
  seconds_most most d h = go (overnight row) refl
    where
      go : (o : Bool) → overnight row ≡ o → (whether o then ends + day - begins else ends - begins) ≤ most
      go true e = omega (arith, d, (overnight_ends e).2)
      go false e = omega (arith, h)
