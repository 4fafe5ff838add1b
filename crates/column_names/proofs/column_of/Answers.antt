-- `column_names::column_of` meets its contract. Each arm asks its table's names, which are its columns' names. Assumes nothing.
use mathlib.Core.Path.{◌∙◌}
use Rattle.words.specs.Words.{bytes}
use Rattle.cells.specs.Cells.{parted}
use Rattle.tables.specs.declared.Table.TheVariants.{Depot, Stop, StopPoint, Calendar}
use Rattle.tables.specs.Columns.{columns_of}
use Rattle.column_names.proofs.Naming.{named, named_block}
use Rattle.column_names.proofs.column_of.Goals as goal

pub returns-in-VehicleType : goal.returns-in-VehicleType
returns-in-VehicleType c = c.vehicle_type_column.ensures ∙ rw c.in-VehicleType.is

pub returns-in-Depot : goal.returns-in-Depot
unfolding parted columns_of bytes
returns-in-Depot c = c.column_in.ensures ∙ (named c.args.edition Depot c.args.name.now ∙ rw c.in-Depot.is)

pub returns-in-Stop : goal.returns-in-Stop
unfolding parted columns_of bytes
returns-in-Stop c = c.column_in-in-Stop.ensures ∙ (named c.args.edition Stop c.args.name.now ∙ rw c.in-Stop.is)

pub returns-in-StopPoint : goal.returns-in-StopPoint
unfolding parted columns_of bytes
returns-in-StopPoint c = c.column_in-in-StopPoint.ensures ∙ (named c.args.edition StopPoint c.args.name.now ∙ rw c.in-StopPoint.is)

pub returns-in-Block : goal.returns-in-Block
unfolding parted columns_of bytes
returns-in-Block c = c.column_in-in-Block.ensures ∙ (named_block c.args.edition c.args.name.now ∙ rw c.in-Block.is)

pub returns-in-Calendar : goal.returns-in-Calendar
unfolding parted columns_of bytes
returns-in-Calendar c = c.column_in-in-Calendar.ensures ∙ (named c.args.edition Calendar c.args.name.now ∙ rw c.in-Calendar.is)
