-- The parts of the book: each has its table's room, and lies within the book. Assumes nothing.
use mathlib.Core.Path.{◌≡◌, refl}
use mathlib.Core.List.{◌∷◌, ◌++◌}
use Prim.Native.Nat.{◌+◌, ◌≤◌, suc}
use lib.Dec.{lit≤}
use lib.ListN.{get_or, take, drop}
use Rattle.tables.specs.declared.Table.{Table}
use Rattle.tables.specs.declared.Table.TheVariants.{VehicleType, Depot, Stop, StopPoint, Block, Calendar}
use Rattle.tables.specs.Parts.{room, begin, book_rows, part_of, tables}

-- no table has more room than the calendar
pub room_most : (t : Table) → room t ≤ 800
room_most VehicleType = lit≤ tt
room_most Depot = lit≤ tt
room_most Stop = lit≤ tt
room_most StopPoint = lit≤ tt
room_most Block = lit≤ tt
room_most Calendar = lit≤ tt

pub part_within : (t : Table) → begin t + room t ≤ book_rows
part_within VehicleType = lit≤ tt
part_within Depot = lit≤ tt
part_within Stop = lit≤ tt
part_within StopPoint = lit≤ tt
part_within Block = lit≤ tt
part_within Calendar = lit≤ tt

-- a table stands at its part's place in the order
pub in_order : (t : Table) → get_or tables (part_of t) Calendar ≡ t
in_order VehicleType = refl
in_order Depot = refl
in_order Stop = refl
in_order StopPoint = refl
in_order Block = refl
in_order Calendar = refl

-- the tables before it, itself, and those behind it
pub around_table : (t : Table) → tables ≡ take (part_of t) tables ++ (t ∷ drop (suc (part_of t)) tables)
around_table VehicleType = refl
around_table Depot = refl
around_table Stop = refl
around_table StopPoint = refl
around_table Block = refl
around_table Calendar = refl
