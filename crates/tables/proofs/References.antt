-- The tables that a match leaves to its last arm. Assumes nothing.
use mathlib.Core.Path.{◌≡◌, refl}
use Rattle.tables.specs.Columns.{key_width}
use Rattle.tables.specs.declared.Table.{Table}
use Rattle.tables.specs.declared.Table.TheVariants.{VehicleType, Depot, Stop, StopPoint, Block, Calendar}

-- those that a match leaves behind stop points and blocks have a key of two
pub pair_width : (t : Table) → (t ≡ StopPoint → ⊥) → (t ≡ Block → ⊥) → 2 ≡ key_width t
pair_width VehicleType p q = refl
pair_width Depot p q = refl
pair_width Stop p q = refl
pair_width StopPoint p q = absurd (p refl)
pair_width Block p q = absurd (q refl)
pair_width Calendar p q = refl
