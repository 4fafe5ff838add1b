-- `column_names::vehicle_type_column` meets its contract: the names of each edition are those of its columns. Assumes nothing.
use mathlib.Core.Path.{◌∙◌}
use Rattle.words.specs.Words.{bytes}
use Rattle.cells.specs.Cells.{parted}
use Rattle.editions.specs.declared.Edition.TheVariants.{Dino21, Dino23}
use Rattle.tables.specs.declared.Table.TheVariants.{VehicleType}
use Rattle.tables.specs.Columns.{columns_of}
use Rattle.column_names.proofs.Naming.{named}
use Rattle.column_names.proofs.vehicle_type_column.Goals as goal

pub returns-in-Dino21 : goal.returns-in-Dino21
unfolding parted columns_of bytes
returns-in-Dino21 c = c.column_in.ensures ∙ (named Dino21 VehicleType c.args.name.now ∙ rw c.in-Dino21.is)

pub returns-in-Dino23 : goal.returns-in-Dino23
unfolding parted columns_of bytes
returns-in-Dino23 c = c.column_in-in-Dino23.ensures ∙ (named Dino23 VehicleType c.args.name.now ∙ rw c.in-Dino23.is)
