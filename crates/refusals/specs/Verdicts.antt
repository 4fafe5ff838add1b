-- The numbers of refusal, the order of checks, and what an answer is on paper.
use Rattle.std.specs.Prelude.{Bool, true, false, List, [], ◌∷◌, ℕ, Ok, Err, Result, is_ok}
use Rattle.std.specs.Result.{result_and}
use Rattle.refusals.specs.declared.Fault.{Fault}
use Rattle.refusals.specs.declared.Place.{Place}
use Rattle.refusals.specs.declared.Cell.{Cell}
use Rattle.refusals.specs.declared.Cell.TheVariants.{Number, Text, Empty, Equip21, Flags23}

-- what a check of a line finds: a fault, or that it passes
abbrev pub Check : Type 0
Check = Result (Unit {0}) Fault

-- what is answered: a place of refusal, or that it is accepted
abbrev pub Verdict : Type 0
Verdict = Result (Unit {0}) Place

abbrev pub fault : ℕ → ℕ → Fault
fault number column = record { number = number; column = column }

-- "Numbers of refusal": the number and the column of each. What is given is the column, or the cell "counted from 1"; a line and a
-- table are put on below.
-- "text over 65,536 bytes"
abbrev pub text_too_long : Check
text_too_long = Err (fault 1 0)

-- "required column missing", at the "lowest missing"
abbrev pub column_missing : ℕ → Check
column_missing column = Err (fault 2 column)

-- "known column twice", at the "number of the column whose repeat is leftmost"
abbrev pub column_twice : ℕ → Check
column_twice column = Err (fault 3 column)

-- "more than 32 header cells"
abbrev pub too_many_cells : Check
too_many_cells = Err (fault 4 0)

-- "more than 512 rows"; of the calendar "row 801 is 5"
abbrev pub too_many_rows : Check
too_many_rows = Err (fault 5 0)

-- "quote or byte fault", at the "cell counted from 1"
abbrev pub quote_fault : ℕ → Check
quote_fault cell = Err (fault 6 cell)

-- "cell count differs from header"
abbrev pub cell_count : Check
cell_count = Err (fault 7 0)

-- "8 stays for content that is not digits"
abbrev pub not_digits : ℕ → Check
not_digits column = Err (fault 8 column)

-- "key stands in an earlier row (A: in the book)"
abbrev pub key_stands : Check
key_stands = Err (fault 9 0)

-- "reference finds no row"
abbrev pub no_row : ℕ → Check
no_row column = Err (fault 10 column)

-- "an end below its begin where either is 86,400 or more", at column 11
abbrev pub ends_early : Check
ends_early = Err (fault 11 11)

-- "slip line of unknown kind or field count"
abbrev pub unknown_line : Check
unknown_line = Err (fault 12 0)

-- "slip names a block not in the book"
abbrev pub no_block : Check
no_block = Err (fault 13 0)

-- "output shorter than the text to write"
abbrev pub output_short : Check
output_short = Err (fault 14 0)

-- "asked table, column, line, type or block does not exist"
abbrev pub not_there : Check
not_there = Err (fault 15 0)

-- "handed-in book breaks the book rule, or a lent length is wrong"
abbrev pub bad_loan : Check
bad_loan = Err (fault 16 0)

-- "a line of more than 2,048 bytes is 17 at column 0"
abbrev pub line_too_long : Check
line_too_long = Err (fault 17 0)

-- "a table closed with more or fewer bytes than announced is 18 at 0, 0"
abbrev pub length_differs : Check
length_differs = Err (fault 18 0)

-- "19 empty where required"
abbrev pub cell_empty : ℕ → Check
cell_empty column = Err (fault 19 column)

-- "20 content longer than the width"
abbrev pub cell_too_long : ℕ → Check
cell_too_long column = Err (fault 20 column)

-- "21 outside the named range", and "a day that is no date of the years 1600 to 9999"
abbrev pub out_of_range : ℕ → Check
out_of_range column = Err (fault 21 column)

-- "an unknown edition is 22"
abbrev pub unknown_edition : Check
unknown_edition = Err (fault 22 0)

-- "a span end that is no such date is 23"
abbrev pub no_date : Check
no_date = Err (fault 23 0)

-- the order of checks -------------------------------------------------------------------------------------------------------

infixr 20 ◌⊳◌
infix 25 ◌when◌
infixr 15 ◌before◌
-- the check, given exactly in its case
abbrev pub ◌when◌ : Check → Bool → Check
c when true = c
c when false = Ok tt

-- "The first fault ends the reading": the first of two checks that fails. A chain of checks is read from top to bottom
abbrev pub ◌⊳◌ : Check → Check → Check
c ⊳ next = result_and c next

abbrev pub passes : Check → Bool
passes c = is_ok c

-- the same of verdicts
abbrev pub ◌before◌ : Verdict → Verdict → Verdict
Ok _ before v = v
Err p before v = Err p

-- places -----------------------------------------------------------------------------------------------------------------------

abbrev pub place : ℕ → ℕ → ℕ → ℕ → Place
place number table line column = record { number = number; table = table; line = line; column = column }

-- a check made on this line of this table
abbrev pub placed : ℕ → ℕ → Check → Verdict
placed table line (Ok _) = Ok tt
placed table line (Err f) = Err (place f.number table line f.column)

-- 1: "0, 0"; "The table number belongs to each place"
abbrev pub in_text : ℕ → Check → Verdict
in_text table c = placed table 0 c

-- 2, 3, 4, and 6 in the header: line 1
abbrev pub in_header : ℕ → Check → Verdict
in_header table c = placed table 1 c

-- 14, 15, 16, 22, 23: "0, 0", and the table number is 0 too
abbrev pub nowhere : Check → Verdict
nowhere c = placed 0 0 c

-- "this paper's number and values" ---------------------------------------------------------------------------------------------

-- a verdict is its number, table, line and column
abbrev pub paper : Verdict → List ℕ
paper (Ok _) = 0 ∷ 0 ∷ 0 ∷ 0 ∷ []
paper (Err p) = p.number ∷ p.table ∷ p.line ∷ p.column ∷ []

-- the answer for a cell is 1 and a number, or 2 and a stretch of text by its start and length, or nothing: "every answer but a text hands
-- back an empty stretch". "A 2 there means a ramp, in 2.1 lift or ramp; the cell answer must name which": the access equipment of a vehicle
-- type is 3 and its number by 2.1, 4 and its flags by 2.3
abbrev pub values : Cell → List ℕ
values (Number n) = 1 ∷ n ∷ 0 ∷ 0 ∷ []
values (Text start len) = 2 ∷ 0 ∷ start ∷ len ∷ []
values Empty = 0 ∷ 0 ∷ 0 ∷ 0 ∷ []
values (Equip21 n) = 3 ∷ n ∷ 0 ∷ 0 ∷ []
values (Flags23 n) = 4 ∷ n ∷ 0 ∷ 0 ∷ []
