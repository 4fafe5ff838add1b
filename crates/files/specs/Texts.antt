-- The texts of a folder in one lent room.
-- Inner: no promise and no contract of a public function speaks of it.
use Rattle.std.specs.Prelude.{List, ℕ, suc, ◌≤◌, length, take, drop}
use Rattle.lines.specs.Lines.{most_bytes}
use Rattle.tables.specs.declared.Table.{Table}
use Rattle.tables.specs.declared.Table.TheVariants.{VehicleType, Depot, Stop, StopPoint, Block, Calendar}
use Rattle.files.specs.declared.Delivery.{Delivery}

-- so many bytes from a place on; as many as there are where there are fewer
abbrev pub text_at : ℕ → ℕ → List ℕ → List ℕ
text_at from size room = take size (drop from room)

-- room for a text: one byte more than it may have
abbrev pub text_room : ℕ
text_room = suc most_bytes

-- the text of a table
abbrev pub text_of : Delivery → Table → List ℕ
text_of d VehicleType = d.types.now
text_of d Depot = d.depots.now
text_of d Stop = d.stops.now
text_of d StopPoint = d.points.now
text_of d Block = d.blocks.now
text_of d Calendar = d.days.now

-- no text is longer than its room
pub record Roomy (d : Delivery) : Type 0 where
  pub types : length d.types.now ≤ text_room
  pub depots : length d.depots.now ≤ text_room
  pub stops : length d.stops.now ≤ text_room
  pub points : length d.points.now ≤ text_room
  pub blocks : length d.blocks.now ≤ text_room
  pub days : length d.days.now ≤ text_room
