-- The day sheet.
use Rattle.std.specs.Prelude.{List, ◌∷◌, map, [], ◌++◌, ℕ, length}
use Rattle.words.specs.Words.{Bytes, Row, bytes}
use Rattle.refusals.specs.declared.Place.{Place}
use Rattle.cells.specs.Cells.{parted}
use Rattle.numbers.specs.Numbers.{decimal}
use Rattle.rows.specs.Rows.{column}
use Rattle.book.specs.Book.{Book}
use Rattle.questions.specs.Questions.{seconds_of, count_of}
use Rattle.writer.specs.Writing.{lines_written}

-- "Fields are parted by tabs"
abbrev pub sheet_line : Bytes → List ℕ → Bytes
sheet_line letter ns = parted 9 (letter ∷ map decimal ns)

-- "one `T` line a type (version, number, seconds, count)"
abbrev pub type_line : List Row → Row → Bytes
type_line blocks x =
    let v = column 1 x in
    let n = column 2 x in
    sheet_line (bytes "T") (v ∷ n ∷ seconds_of v n blocks ∷ count_of v n blocks ∷ [])

-- "then `S` with the counts of types and blocks"
abbrev pub sum_line : Book → Bytes
sum_line b = sheet_line (bytes "S") (length b.types ∷ length b.blocks ∷ [])

-- "one `T` line a type by rising key", then the sums; "a line feed ends each line"
abbrev pub sheet_text : Book → Bytes
sheet_text b = lines_written (map (type_line b.blocks) b.types ++ (sum_line b ∷ []))

-- "or only `X` with number, table, line, column"
abbrev pub refusal_text : Place → Bytes
refusal_text p = lines_written (sheet_line (bytes "X") (p.number ∷ p.table ∷ p.line ∷ p.column ∷ []) ∷ [])

-- the room that is lent for a sheet: 512 T lines of at most 28 bytes, and the S line, or the X line, fit in it
abbrev pub sheet_room : ℕ
sheet_room = 16384
