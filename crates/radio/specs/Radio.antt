-- The delivery by radio: what is kept between parts, and what each call makes of it.
use Rattle.std.specs.Prelude.{[], ◌∷◌, ◌++◌, Bool, true, false, ◌&&◌, not, ℕ, suc, ltb, eqb, length, Ok, Err}
use Rattle.words.specs.Words.{Bytes, whether◌then◌else◌}
use Rattle.refusals.specs.Verdicts.{◌⊳◌, ◌when◌, placed, in_text, in_header, nowhere, text_too_long, not_there, length_differs, Check, Verdict}
use Rattle.refusals.specs.declared.Place.{Place}
use Rattle.editions.specs.declared.Edition.{Edition}
use Rattle.cells.specs.Cells.{cut, cells_of}
use Rattle.cells.specs.declared.State.TheVariants.{Fresh}
use Rattle.lines.specs.Lines.{ends_row, quoting_behind, line_after, most_bytes, most_line}
use Rattle.tables.specs.Columns.{number}
use Rattle.tables.specs.declared.Table.{Table}
use Rattle.tables.specs.declared.Table.TheVariants.{VehicleType, Depot, Stop, StopPoint, Block, Calendar}
use Rattle.book.specs.Book.{Book, empty_by, entered}
use Rattle.book.specs.Result.{Result, refused, leaves, unless, ◌▹◌}
use Rattle.header.specs.Header.{Header, header, header_check}
use Rattle.row_line.specs.RowLine.{row_read}
use Rattle.table_lines.specs.Reading.{judged}
use Rattle.table_reading.specs.Reading.{table_read}

-- the meaning ----------------------------------------------------------------------------------------------------------------

-- "an announced length over 65,536 is 1, before 18"
abbrev pub length_check : ℕ → ℕ → Check
length_check announced come =
    text_too_long when ltb most_bytes announced
    ⊳ length_differs when not (eqb announced come)

-- a table of which so many bytes were announced and these came: 18 is "in place of that table's other faults", and where the announced bytes
-- have come, "verdict, place and book are those of the whole reading"
abbrev pub heard : Table → ℕ → Bytes → Book → Result
heard t a s b = unless (in_text (number t) (length_check a (length s))) (table_read t s b)

-- a delivery by radio: of each table the announced length, and the bytes that came
pub record Sending : Type 0 where
  pub announced : Table → ℕ
  pub sent : Table → Bytes

-- the tables in the order of the reading, by "the delivery's edition": "The first fault ends the reading"
unfoldable pub hearing : Edition → Sending → Result
hearing e d =
    leaves (empty_by e)
    ▹ heard VehicleType (d.announced VehicleType) (d.sent VehicleType)
    ▹ heard Depot (d.announced Depot) (d.sent Depot)
    ▹ heard Stop (d.announced Stop) (d.sent Stop)
    ▹ heard StopPoint (d.announced StopPoint) (d.sent StopPoint)
    ▹ heard Block (d.announced Block) (d.sent Block)
    ▹ heard Calendar (d.announced Calendar) (d.sent Calendar)

-- "What is kept between parts" ------------------------------------------------------------------------------------------------

-- what the bytes of a table came to so far
pub data Course : Type 0 where
  -- a fault: nothing else is kept
  stopped : Place → Course
  -- the book with the rows so far, the number of the line that is not finished, the header line (none while that number is 1), and what came
  -- of the unfinished line
  going : Book → ℕ → Bytes → Bytes → Course

pub data Radio : Type 0 where
  -- this table is to be announced; what the tables before it came to
  awaits : Table → Result → Radio
  -- this table is announced: its length, how many bytes came, and what they came to
  hears : Table → ℕ → ℕ → Course → Radio
  -- all tables are closed
  over : Result → Radio

-- a length is counted to 65,537, which stands for all that are longer
abbrev pub most_counted : ℕ
most_counted = suc most_bytes

abbrev pub counted : ℕ → ℕ
counted n = whether ltb most_bytes n then most_counted else n

-- of an unfinished line so many bytes are kept: the last may be a carriage return that is dropped
abbrev pub kept_line : ℕ
kept_line = suc most_line

-- a byte ----------------------------------------------------------------------------------------------------------------------

-- on, unless there is a refusal
abbrev pub onward : Verdict → Course → Course
onward (Ok _) c = c
onward (Err p) c = stopped p

abbrev pub header_in : Edition → Table → Bytes → Header
header_in e t head = header e t (cells_of (cut e head))

-- a line that is whole. "Line 1 is the header."
abbrev pub head_heard : Table → Bytes → Book → Course
head_heard t line b = onward (in_header (number t) (header_check b.edition t line)) (going b (line_after b.edition 1 line) line [])

-- and any other is a row, judged on the book as the earlier ones left it
abbrev pub row_heard : Table → Bytes → Book → ℕ → Bytes → Course
row_heard t line b i head =
    let h = header_in b.edition t head in
    onward (placed (number t) i (judged t h line b)) (going (entered t (row_read b.edition t h line) b) (line_after b.edition i line) head [])

unfoldable pub line_heard : Table → Bytes → Book → ℕ → Bytes → Course
line_heard t line b i head = whether eqb i 1 then head_heard t line b else row_heard t line b i head

-- whether a byte behind these of a line ends it: "A line feed ends a line"; 2.3: "A row ends at the first line feed outside a cell's quotes"
unfoldable pub ends_line : Edition → Bytes → ℕ → Bool
ends_line e rest x = ends_row e (quoting_behind Fresh rest) x

-- "one carriage return just before it is dropped"
unfoldable pub ended : Bytes → Bytes
ended [] = []
ended (x ∷ []) = whether eqb x 13 then [] else x ∷ []
ended (x ∷ (y ∷ ys)) = x ∷ ended (y ∷ ys)

-- a byte of the table: it ends the line, or is kept with it; where no more are kept the line is too long whatever follows, and its 17, or 5, is
-- certain
unfoldable pub byte_heard : Table → ℕ → Course → Course
byte_heard t x (stopped p) = stopped p
byte_heard t x (going b i head rest) =
    whether ends_line b.edition rest x then line_heard t (ended rest) b i head
    else whether ltb (length rest) kept_line then going b i head (rest ++ (x ∷ []))
    else line_heard t (rest ++ (x ∷ [])) b i head

-- all bytes have come -----------------------------------------------------------------------------------------------------------

abbrev pub none : Bytes → Bool
none [] = true
none (x ∷ xs) = false

abbrev pub came_to : Course → Result
came_to (stopped p) = refused p
came_to (going b i head rest) = leaves b

-- "A last line may lack its line feed; after a final line feed no further line begins." "A text of length 0 counts as one header line with one
-- empty cell."
unfoldable pub finished : Table → Course → Result
finished t (stopped p) = refused p
finished t (going b i head rest) = whether not (eqb i 1) && none rest then leaves b else came_to (line_heard t rest b i head)

-- whether a fault of an earlier table stands: it is told by its place
abbrev pub fault_before : Table → Course → Bool
fault_before t (stopped p) = not (eqb p.table (number t))
fault_before t (going b i head rest) = false

-- what a table comes to when it is closed: "The first fault ends the reading", and 1 or 18 stands "in place of that table's other faults"
unfoldable pub closing : Table → ℕ → ℕ → Course → Result
closing t a n c = whether fault_before t c then came_to c else unless (in_text (number t) (length_check a n)) (finished t c)

-- the calls -------------------------------------------------------------------------------------------------------------------

pub data Call : Type 0 where
  announce : ℕ → Call
  part : Bytes → Call
  close : Call

-- "both editions stay, chosen by the caller for a whole delivery"
abbrev pub start : Edition → Radio
start e = awaits VehicleType (leaves (empty_by e))

-- the table behind this one, "in this order"
abbrev pub next : Table → Result → Radio
next VehicleType r = awaits Depot r
next Depot r = awaits Stop r
next Stop r = awaits StopPoint r
next StopPoint r = awaits Block r
next Block r = awaits Calendar r
next Calendar r = over r

abbrev pub begun : Result → Course
begun (refused p) = stopped p
begun (leaves b) = going b 1 [] []

-- "The length of each table is announced before its first byte."
abbrev pub announced : ℕ → Radio → Radio
announced a (awaits t r) = hears t (counted a) 0 (begun r)
announced a (hears t m n c) = hears t m n c
announced a (over r) = over r

-- a byte is counted, and read unless all that were announced have come
abbrev pub byte_taken : ℕ → Radio → Radio
byte_taken x (awaits t r) = awaits t r
byte_taken x (hears t a n c) = hears t a (counted (suc n)) (whether ltb n a then byte_heard t x c else c)
byte_taken x (over r) = over r

-- "Please take each table in parts, cut anywhere"
unfoldable pub part_taken : Bytes → Radio → Radio
part_taken [] k = k
part_taken (x ∷ xs) k = part_taken xs (byte_taken x k)

abbrev pub closed : Radio → Radio
closed (awaits t r) = awaits t r
closed (hears t a n c) = next t (closing t a n c)
closed (over r) = over r

abbrev pub after : Call → Radio → Radio
after (announce a) k = announced a k
after (part s) k = part_taken s k
after close k = closed k

-- "a call out of turn is 15 and does nothing"
abbrev pub in_turn : Call → Radio → Bool
in_turn (announce a) (awaits t r) = true
in_turn (announce a) (hears t m n c) = false
in_turn (announce a) (over r) = false
in_turn (part s) (awaits t r) = false
in_turn (part s) (hears t m n c) = true
in_turn (part s) (over r) = false
in_turn close (awaits t r) = false
in_turn close (hears t m n c) = true
in_turn close (over r) = false

-- what stands between calls: the book so far, or the fault
abbrev pub standing : Radio → Result
standing (awaits t r) = r
standing (hears t a n c) = came_to c
standing (over r) = r

abbrev pub verdict_of : Result → Verdict
verdict_of (refused p) = Err p
verdict_of (leaves b) = Ok tt

-- a close answers the verdict of the tables that are closed, any other call that it was taken
abbrev pub said : Call → Radio → Verdict
said (announce a) k = Ok tt
said (part s) k = Ok tt
said close k = verdict_of (standing k)

abbrev pub answer : Call → Radio → Verdict
answer c k = whether in_turn c k then said c (after c k) else nowhere not_there
