-- What content is to a column.
use Rattle.std.specs.Prelude.{not, List, [], ◌∷◌, ℕ, suc, eqb, ltb, length, Ok}
use Rattle.words.specs.Words.{Bytes, whether◌then◌else◌}
use Rattle.refusals.specs.Verdicts.{◌when◌, ◌⊳◌, cell_empty, cell_too_long, not_digits, out_of_range, Check}
use Rattle.numbers.specs.Numbers.{all_digits, value}
use Rattle.tables.specs.declared.Sort.{Sort}
use Rattle.tables.specs.declared.Sort.TheVariants.{Decimal, Text}
use Rattle.tables.specs.declared.Rules.{Rules}
use Rattle.tables.specs.Columns.{in_range, Column}

-- content that is neither empty nor too long: "8 stays for content that is not digits", "21 outside the named range". A text may be any
abbrev pub said_check : Sort → ℕ → Rules → Bytes → Check
said_check Decimal k x s = not_digits k when not (all_digits s) ⊳ out_of_range k when not (in_range x (value s))
said_check Text k x s = Ok tt

-- what is wrong with the content of column k: "19 empty where required; 20 content longer than the width; .. where two hold, 20 comes first"
abbrev pub cell_check : ℕ → Rules → Bytes → Check
cell_check k x s =
    whether eqb (length s) 0
    then cell_empty k when x.required
    else (cell_too_long k when ltb x.width (length s) ⊳ said_check x.sort k x s)

-- "8 by column number", and with it 19, 20 and 21: the first column, from k on, whose content has a fault
unfoldable pub bad_cell : ℕ → List Column → List Bytes → Check
bad_cell k [] ss = Ok tt
bad_cell k (x ∷ xs) [] = Ok tt
bad_cell k (x ∷ xs) (s ∷ ss) = cell_check k x.rules s ⊳ bad_cell (suc k) xs ss
