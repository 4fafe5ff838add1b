-- How many fields of a slip line have bounds.
-- Inner: no promise and no contract of a public function speaks of it.
use Rattle.std.specs.Prelude.{ℕ, suc}

-- a slip line's letter and the 11 numbers of a block: a line of more fields is of no kind
abbrev pub most_fields : ℕ
most_fields = 12

-- where the first begins, and where each ends
abbrev pub field_bounds : ℕ
field_bounds = suc most_fields
