-- The reading of a delivery.
use Rattle.std.specs.Prelude.{◌≡◌}
use Rattle.words.specs.Words.{Bytes}
use Rattle.editions.specs.declared.Edition.{Edition}
use Rattle.tables.specs.declared.Table.TheVariants.{VehicleType, Depot, Stop, StopPoint, Block, Calendar}
use Rattle.book.specs.Book.{empty_by, Book}
use Rattle.book.specs.Result.{Result, leaves, ◌▹◌}
use Rattle.table_reading.specs.Reading.{table_read}

-- the six texts
pub record Delivery : Type 0 where
  pub types : Bytes
  pub depots : Bytes
  pub stops : Bytes
  pub points : Bytes
  pub blocks : Bytes
  pub days : Bytes

-- "in this order: tables 1 to 4", stop_point "between stop and vehicle_block", day_type_calendar "read last"; by the edition that is "chosen by the caller for a whole
-- delivery", which the book keeps from the first table on
unfoldable pub reading : Edition → Delivery → Result
reading e d =
    leaves (empty_by e)
    ▹ table_read VehicleType d.types
    ▹ table_read Depot d.depots
    ▹ table_read Stop d.stops
    ▹ table_read StopPoint d.points
    ▹ table_read Block d.blocks
    ▹ table_read Calendar d.days

-- "The book rule: it is a book that some accepted delivery leaves.": of some edition
abbrev pub Left : Book → Type 0
Left b = (e : Edition) × ((d : Delivery) × (reading e d ≡ leaves b))
