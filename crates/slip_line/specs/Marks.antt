-- Where the fields of a line of a slip stand on it, and what the code reads them as.
-- Inner: no promise and no contract of a public function speaks of it.
use Rattle.std.specs.Prelude.{List, map, ◌≡◌, length}
use Rattle.words.specs.Words.{Bytes}
use Rattle.cells.specs.Marks.{BoundsOf}
use Rattle.numbers.specs.Numbers.{value}
use Rattle.fields.specs.Fields.{fields}
use Rattle.fields.specs.Marks.{field_bounds}
use Rattle.fields.specs.declared.Fields.{Fields}
use Rattle.rows.specs.Rows.{wide}
use Rattle.editions.specs.declared.Edition.{Edition}
use Rattle.values.specs.Judged.{rowed}
use Rattle.values.specs.declared.Judged.{Judged}
use Rattle.slip_line.specs.SlipLine.{bad_field}

-- what the code answers of the fields `fs` behind the kind: what is wrong with one, and their row
abbrev pub fields_read : Edition → List Bytes → Judged
fields_read e fs = rowed (bad_field e fs) (wide (map value fs))

-- where the fields of a line stand on it
abbrev pub FieldsOf : Bytes → Fields → Type 0
FieldsOf line marks = (marks.count ≡ length (fields line)) × BoundsOf (fields line) field_bounds marks.bounds
