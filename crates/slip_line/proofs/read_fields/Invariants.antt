-- `slip_line::read_fields` meets its contract: the fields before place i pass, and their numbers stand in the row. Assumes nothing.
use mathlib.Core.Path.{◌≡◌}
use Rattle.std.specs.Prelude.{Ok}
use Rattle.fields.specs.Fields.{fields}
use Rattle.editions.specs.declared.Edition.{Edition}
use Rattle.tables.specs.Listing.{listed}
use Rattle.tables.specs.declared.Table.TheVariants.{Block}
use Rattle.slip_line.specs.SlipLine.{numbers, bad_field}
use Rattle.slip_line.proofs.Numbers.{bad_from, row_sofar}
use Rattle.slip_line.proofs.read_fields.Given as goal

abbrev pub invariant-columns : goal.invariant-columns
invariant-columns l =
    (l.row ≡ row_sofar l.i (numbers (fields l.line)))
    × ((e : Edition) → l.columns ≡ listed e Block → bad_field e (numbers (fields l.line)) ≡ bad_from e l.i (numbers (fields l.line)))
    × (l.check ≡ Ok tt)
