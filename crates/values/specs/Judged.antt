-- What the code takes content, and a line, for.
-- Inner: no promise and no contract of a public function speaks of it.
use Rattle.std.specs.Prelude.{Bool, not, ℕ, Option, Some, None, eqb, ltb, length, Ok, Err}
use Rattle.words.specs.Words.{Bytes, whether◌then◌else◌, Row}
use Rattle.refusals.specs.Verdicts.{passes, cell_empty, cell_too_long, not_digits, out_of_range, Check, fault}
use Rattle.numbers.specs.Decimals.{decimal_of}
use Rattle.rows.specs.Room.{zeros}
use Rattle.tables.specs.declared.Sort.{Sort}
use Rattle.tables.specs.declared.Sort.TheVariants.{Decimal, Text}
use Rattle.tables.specs.declared.Rules.{Rules}
use Rattle.tables.specs.Columns.{in_range}
use Rattle.values.specs.declared.Value.{Value}
use Rattle.values.specs.Values.{cell_check}
use Rattle.values.specs.declared.Judged.{Judged}
use Rattle.values.specs.declared.Value.TheVariants as value-is

-- whether content has any of the four faults; at which column says nothing of it
abbrev pub breaks : Rules → Bytes → Bool
breaks x s = not (passes (cell_check 0 x s))

-- the value of a fault
abbrev pub against : Check → Value
against (Ok _) = value-is.Empty
against (Err f) = value-is.Bad f.number

-- a value by the length of its content: what is empty, what is too long, and else what is given
abbrev pub by_length : Rules → ℕ → Value → Value
by_length x n v =
    whether eqb n 0
    then (whether x.required then against (cell_empty 0) else value-is.Empty)
    else (whether ltb x.width n then against (cell_too_long 0) else v)

-- what digits are to a column
abbrev pub by_digits : Rules → Option ℕ → Value
by_digits x None = against (not_digits 0)
by_digits x (Some n) = whether in_range x n then value-is.Number n else against (out_of_range 0)

abbrev pub by_sort : Sort → Rules → Bytes → Value
by_sort Decimal x s = by_digits x (decimal_of x.width s)
by_sort Text x s = value-is.Text

abbrev pub value_of : Rules → Bytes → Value
value_of x s = by_length x (length s) (by_sort x.sort x s)

-- the check of a value at column k
abbrev pub check_of : ℕ → Value → Check
check_of k (value-is.Number n) = Ok tt
check_of k value-is.Text = Ok tt
check_of k value-is.Empty = Ok tt
check_of k (value-is.Bad n) = Err (fault n k)

-- the number that a row keeps of a value
abbrev pub kept_number : Value → ℕ
kept_number (value-is.Number n) = n
kept_number value-is.Text = 0
kept_number value-is.Empty = 0
kept_number (value-is.Bad n) = 0

-- what a line with a fault comes to
abbrev pub unkept : Check → Judged
unkept fault = record { check = fault; row = zeros }

-- a line that passes is its row
abbrev pub rowed : Check → Row → Judged
rowed (Ok _) row = record { check = Ok tt; row = row }
rowed (Err f) row = unkept (Err f)
