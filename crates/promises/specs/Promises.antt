-- The three demands, as statements over the definitions. Each is a type; whoever has an element of it has a proof.
use Rattle.std.specs.Prelude.{◌≡◌, List, [], ◌∷◌, map, ◌++◌, ◌↔◌, ◌⊎◌, false, true, not, Bool, ◌&&◌, ◌||◌, ◌≤◌, ℕ, zero, suc, ◌<◌, ◌+◌, ◌-◌, ◌^◌, Float, length, replicate, get_or, take, drop, eqb, ltb, leb, Some, None, Ok, Err}
use Rattle.words.specs.Words.{Bytes, Row, whether◌then◌else◌, same}
use Rattle.refusals.specs.declared.Place.{Place}
use Rattle.refusals.specs.Verdicts.{placed, ◌when◌, nowhere, not_there, passes, paper, Verdict, Check, fault}
use Rattle.lines.specs.Lines.{lines, row_lines, slip_lines, line_after, overlong, most_bytes}
use Rattle.cells.specs.Cells.{stretch}
use Rattle.fields.specs.Fields.{fields}
use Rattle.rows.specs.Room.{zeros}
use Rattle.rows.specs.Rows.{rising, stands, found, column, removed, same_key}
use Rattle.editions.specs.Editions.{choice}
use Rattle.editions.specs.declared.Edition.{Edition}
use Rattle.tables.specs.Columns.{number, key_width, columns_of, kept_width, column_at, references}
use Rattle.tables.specs.Parts.{book_rows}
use Rattle.tables.specs.declared.Table.{Table}
use Rattle.tables.specs.declared.Table.TheVariants.{VehicleType, Depot, Stop, StopPoint, Block, Calendar}
use Rattle.tables.specs.declared.Rules.{Rules}
use Rattle.tables.specs.declared.Sort.{Sort}
use Rattle.tables.specs.declared.Sort.TheVariants as sort-is
use Rattle.book.specs.Result.{refused, leaves, Result}
use Rattle.book.specs.Book.{Book, empty, empty_by, entered, rows, knows}
use Rattle.book.specs.Room.{laid}
use Rattle.keeping.specs.Keeping.{keeps_rule}
use Rattle.questions.specs.Calls.{type_answered, type_call, block_answered, block_call, TypePermits, BlockPermits}
use Rattle.questions.specs.Questions.{seconds_of, count_of, seven, of_type, total}
use Rattle.header.specs.Header.{header_of, top_faults, member}
use Rattle.questions.specs.declared.TypeAnswer.{TypeAnswer}
use Rattle.questions.specs.declared.BlockAnswer.{BlockAnswer}
use Rattle.row_line.specs.RowLine.{row_read}
use Rattle.table_lines.specs.Reading.{judged}
use Rattle.table_reading.specs.Reading.{table_read}
use Rattle.delivery.specs.Delivery.{Delivery, reading, Left}
use Rattle.delivery.specs.Calls.{read_call, ReadPermits}
use Rattle.delivery.specs.Calls as read-call
use Rattle.radio.specs.Radio.{Call}
use Rattle.radio.specs.Room.{Slices}
use Rattle.radio.specs.Room as radio-is
use Rattle.radio_calls.specs.Calls.{OpenPermits, RadioPermits}
use Rattle.cell_question.specs.CellQuestion.{cell_asked, cell_paper, cell_at, first_line, stretch_of, CellPermits, StretchPermits}
use Rattle.cell_question.specs.declared.CellAnswer.{CellAnswer}
use Rattle.slip_line.specs.declared.Wish.{Wish}
use Rattle.slip_line.specs.declared.Wish.TheVariants.{Add, Replace, Delete, Unknown}
use Rattle.slip_line.specs.SlipLine.{wish, numbers, bad_field, row_in}
use Rattle.block_change.specs.Change.{slip_check, slip_leaves}
use Rattle.slips.specs.Slips.{posting, posted}
use Rattle.slips.specs.Calls.{slip_call, slip_outcome, work_rows, SlipPermits}
use Rattle.writer.specs.Calls.{write_call, WritePermits}
use Rattle.slips.specs.Calls as slip-call
use Rattle.day.specs.Calls.{DayPermits, day_call}
use Rattle.writer.specs.Writing.{written, lines_written, names_line, row_line}
use Rattle.writer.specs.Calls as write-call
use Rattle.sheet.specs.Calls.{sheet_call, SheetPermits}
use Rattle.sheet.specs.Sheet.{sheet_room}
use Rattle.seasons.specs.Calls.{SeasonPermits}
use Rattle.seasons.specs.declared.SeasonAnswer.{SeasonAnswer}
use Rattle.hours.specs.Calls.{HoursPermits, SeasonHoursPermits}
use Rattle.hours.specs.declared.HoursAnswer.{HoursAnswer}
use Rattle.hours.specs.declared.SeasonHours.{SeasonHours}
use Rattle.abi.specs.Calls as for-c
use Rattle.fault_mark.specs.Marks.{MarkPermits, NumberedPermits}
use Rattle.fault_mark.specs.declared.Mark.{Mark}
use Rattle.promises.specs.Sheet.{sheet}

-- Demand 1 ----------------------------------------------------------------------------------------------------------------

-- "Every call takes every input and comes back." No contract of a public function has a `requires`, and each cites one relation: what it permits
-- of the answer together with all that is lent, by what was handed in.
-- "two permitted outcomes are proved the same"
abbrev pub Single : (A : Type 0) → (A → Type 0) → Type 0
Single A permits = (one other : A) → permits one → permits other → one ≡ other

-- "The statement on each public function determines its answer and the final content of everything lent, for good and bad input alike"
abbrev pub Determined : Type 0
Determined = ((n : ℕ) (d : Delivery) (book : List Row) → Single read-call.Outcome (ReadPermits n d book))
    × ((n : ℕ) (s : Bytes) (table line k : ℕ) → Single CellAnswer (CellPermits n s table line k))
    × ((n : ℕ) (s : Bytes) (table line k : ℕ) → Single Bytes (StretchPermits n s table line k))
    × ((s : Bytes) (book work : List Row) → Single slip-call.Outcome (SlipPermits s book work))
    × ((n : ℕ) (d : Delivery) (s : Bytes) (book work : List Row) → Single slip-call.Outcome (DayPermits n d s book work))
    × ((book : List Row) (version type : ℕ) → Single TypeAnswer (TypePermits book version type))
    × ((book : List Row) (version day depot block : ℕ) → Single BlockAnswer (BlockPermits book version day depot block))
    × ((book : List Row) (version type first last : ℕ) → Single SeasonAnswer (SeasonPermits book version type first last))
    × ((book : List Row) (version type : ℕ) → Single HoursAnswer (HoursPermits book version type))
    × ((book : List Row) (version type first last : ℕ) → Single SeasonHours (SeasonHoursPermits book version type first last))
    × ((book : List Row) (out : Bytes) → Single write-call.Outcome (WritePermits book out))
    × ((v : Verdict) (book : List Row) (out : Bytes) → Single write-call.Outcome (SheetPermits v book out))
    × ((e : Edition) (s : Bytes) (p : Place) → Single Mark (MarkPermits e s p))
    × ((n : ℕ) (line : Bytes) → Single Bytes (NumberedPermits n line))
    × ((n : ℕ) (s : Slices) → Single radio-is.Outcome (OpenPermits n s))
    × ((c : Call) (s : Slices) → Single radio-is.Outcome (RadioPermits c s))

-- and on each for C: the returned number, the place, and what else is lent
abbrev pub DeterminedForC : Type 0
DeterminedForC = ((n : ℕ) (d : Delivery) (book : List Row) → Single (ℕ × List ℕ × List Row) (λ o. for-c.ReadPermits n d book o.0 o.1 o.2))
    × ((s : Bytes) (book work : List Row) → Single (ℕ × List ℕ × List Row × List Row) (λ o. for-c.SlipPermits s book work o.0 o.1 o.2 o.3))
    × ((n : ℕ) (s : Bytes) (table line k : ℕ) → Single (ℕ × List ℕ × List ℕ) (λ o. for-c.CellPermits n s table line k o.0 o.1 o.2))
    × ((book : List Row) (version type : ℕ) → Single (ℕ × List ℕ × List ℕ) (λ o. for-c.TypePermits book version type o.0 o.1 o.2))
    × ((book : List Row) (version day depot block : ℕ) → Single (ℕ × List ℕ × List ℕ) (λ o. for-c.BlockPermits book version day depot block o.0 o.1 o.2))
    × ((book : List Row) (version type first last : ℕ) → Single (ℕ × List ℕ × List ℕ) (λ o. for-c.SeasonPermits book version type first last o.0 o.1 o.2))
    × ((book : List Row) (version type : ℕ) → Single (ℕ × List ℕ × List Float) (λ o. for-c.HoursPermits book version type o.0 o.1 o.2))
    × ((book : List Row) (version type first last : ℕ) → Single (ℕ × List ℕ × List Float) (λ o. for-c.SeasonHoursPermits book version type first last o.0 o.1 o.2))
    × ((book : List Row) (out : Bytes) → Single (ℕ × List ℕ × List ℕ × Bytes) (λ o. for-c.WritePermits book out o.0 o.1 o.2 o.3))
    × ((call : radio-is.Outcome) → Single (ℕ × List ℕ × Slices) (λ o. for-c.RadioPermits call o.0 o.1 o.2))

-- "A fault gets one number and a place, by a fixed order": the order is that of the tables (`DeliveryRefused`), of the lines of each
-- (`RefusedAtFirst`, `SlipRefusedAtFirst`), and on a line that of the checks (`headerCheck`, `judged`, `lineJudged`). Which numbers there are, each
-- with the columns that it can name, is data.
-- "0" in the paper's column of places
abbrev pub unnamed : ℕ → Bool
unnamed k = eqb k 0

-- a "cell counted from 1", known or not: a text of 65,536 bytes has none behind the 65,537th
abbrev pub any_cell : ℕ → Bool
any_cell k = ltb 0 k && leb k (suc most_bytes)

-- "A d cell is 1 to N digits"; "A d column with no range named takes every number of its width, zero too."; of days a date is named
abbrev pub of_numbers : Sort → Bool
of_numbers sort-is.Decimal = true
of_numbers sort-is.Text = false

abbrev pub range_named : Rules → Bool
range_named x = x.date || not (eqb x.low 0 && eqb x.high (10 ^ x.width - 1))

-- a column of the table, a required one, one of numbers, one with a range, one that refers to another table
abbrev pub any_column : Edition → Table → ℕ → Bool
any_column e t k = ltb 0 k && leb k (length (columns_of e t))

abbrev pub required_column : Edition → Table → ℕ → Bool
required_column e t k = ltb 0 k && (column_at e t (k - 1)).rules.required

abbrev pub number_column : Edition → Table → ℕ → Bool
number_column e t k = ltb 0 k && of_numbers (column_at e t (k - 1)).rules.sort

abbrev pub ranged_column : Edition → Table → ℕ → Bool
ranged_column e t k = number_column e t k && range_named (column_at e t (k - 1)).rules

abbrev pub referring_column : Table → ℕ → Bool
referring_column t k = member k (map (λ x. x.column) (references t))

-- "line, 11", of a block alone
abbrev pub end_column : Table → ℕ → Bool
end_column t k = eqb (number t) (number Block) && eqb k 11

-- a number of refusal, and the columns that it can name
pub record Numbered : Type 0 where
  pub number : ℕ
  pub column : ℕ → Bool

infix 70 ◌naming◌
abbrev pub ◌naming◌ : ℕ → (ℕ → Bool) → Numbered
n naming f = record { number = n; column = f }

-- "Numbers of refusal": of a text, of its header (line 1), and of a row
abbrev pub text_numbers : List Numbered
text_numbers = 1 naming unnamed ∷ []

abbrev pub header_numbers : Edition → Table → List Numbered
header_numbers e t =
    17 naming unnamed ∷
    6 naming any_cell ∷
    4 naming unnamed ∷
    3 naming any_column e t ∷
    2 naming required_column e t ∷ []

abbrev pub row_numbers : Edition → Table → List Numbered
row_numbers e t =
    5 naming unnamed ∷
    17 naming unnamed ∷
    6 naming any_cell ∷
    7 naming unnamed ∷
    19 naming required_column e t ∷
    20 naming any_column e t ∷
    8 naming number_column e t ∷
    21 naming ranged_column e t ∷
    11 naming end_column t ∷
    9 naming unnamed ∷
    10 naming referring_column t ∷ []

-- and of a slip's line
abbrev pub slip_numbers : Edition → List Numbered
slip_numbers e =
    12 naming unnamed ∷
    5 naming unnamed ∷
    19 naming required_column e Block ∷
    20 naming any_column e Block ∷
    8 naming number_column e Block ∷
    21 naming ranged_column e Block ∷
    11 naming end_column Block ∷
    9 naming unnamed ∷
    13 naming unnamed ∷
    10 naming referring_column Block ∷ []

-- the number is one of these, and names such a column
unfoldable pub among : List Numbered → ℕ → ℕ → Bool
among [] n k = false
among (x ∷ xs) n k = whether eqb n x.number then x.column k else among xs n k

-- a refusal on paper: number, table, line, column. In a text of table t, by its line, of which a text has no more than bytes
abbrev pub given_in : Edition → Table → List ℕ → Bool
given_in e t p =
    let line = get_or p 2 0 in
    let numbers = whether eqb line 0 then text_numbers else whether eqb line 1 then header_numbers e t else row_numbers e t in
    leb line (suc most_bytes) && eqb (get_or p 1 0) (number t) && among numbers (get_or p 0 0) (get_or p 3 0)

-- in a slip, whose table number is 5
abbrev pub given_in_slip : Edition → List ℕ → Bool
given_in_slip e p =
    let line = get_or p 2 0 in
    let numbers = whether eqb line 0 then text_numbers else slip_numbers e in
    leb line (suc most_bytes) && eqb (get_or p 1 0) 5 && among numbers (get_or p 0 0) (get_or p 3 0)

-- a reading gives no other number at no other place
abbrev pub ReadingNumbered : Type 0
ReadingNumbered = (e : Edition) (d : Delivery) (p : Place) → reading e d ≡ refused p → (t : Table) × (given_in e t (paper (Err p)) ≡ true)

-- nor does a slip
abbrev pub SlipNumbered : Type 0
SlipNumbered = (s : Bytes) (b : Book) (p : Place) → posting s b ≡ refused p → given_in_slip b.edition (paper (Err p)) ≡ true

-- "this paper's number and values": of a verdict its number, table, line and column (`paper`), of a cell's answer its four (`values`).
-- "(0 for 0, 14, 15, 16)", and 22: a number without a place
abbrev pub unplaced : ℕ → List ℕ
unplaced n = n ∷ 0 ∷ 0 ∷ 0 ∷ []

-- "A refused reading leaves an empty book", and "2.1 after a refused reading"
abbrev pub RefusedReadingEmpties : Type 0
RefusedReadingEmpties = (n : ℕ) (d : Delivery) (slice : List Row) (p : Place) → length slice ≡ book_rows → (read_call n d slice).verdict ≡ Err p →
    (read_call n d slice).book ≡ laid empty

-- "an unknown edition is 22, right after 16", with no place: of a reading, of a day and of a cell question
abbrev pub UnknownEditionRefused : Type 0
UnknownEditionRefused = (n : ℕ) → choice n ≡ None →
    ((d : Delivery) (slice : List Row) → length slice ≡ book_rows → paper (read_call n d slice).verdict ≡ unplaced 22)
    × ((d : Delivery) (s : Bytes) (book work : List Row) → length book ≡ book_rows → length work ≡ work_rows → paper (day_call n d s book work).verdict ≡ unplaced 22)
    × ((s : Bytes) (table line k : ℕ) → cell_paper (cell_asked n s table line k) ≡ unplaced 22 ++ replicate 4 0)

-- "a refused slip the book untouched"; the working area ends all zero
abbrev pub RefusedSlipKeeps : Type 0
RefusedSlipKeeps = (s : Bytes) (book work : List Row) (p : Place) → (slip_call s book work).verdict ≡ Err p → (slip_call s book work).book ≡ book

abbrev pub WorkCleared : Type 0
WorkCleared = (s : Bytes) (book work : List Row) → length work ≡ work_rows → (slip_call s book work).work ≡ replicate work_rows zeros

-- "a refused writing the output untouched"
abbrev pub RefusedWritingKeeps : Type 0
RefusedWritingKeeps = (book : List Row) (out : Bytes) (p : Place) → (write_call book out).verdict ≡ Err p →
    ((write_call book out).size ≡ 0) × ((write_call book out).out ≡ out)

-- nor does a refused sheet touch it
abbrev pub RefusedSheetKeeps : Type 0
RefusedSheetKeeps = (v : Verdict) (book : List Row) (out : Bytes) (p : Place) → (sheet_call v book out).verdict ≡ Err p →
    ((sheet_call v book out).size ≡ 0) × ((sheet_call v book out).out ≡ out)

-- what is lent at another length is 16 and stays as it came
abbrev pub WrongBookStays : Type 0
WrongBookStays = (n : ℕ) (d : Delivery) (slice : List Row) → (length slice ≡ book_rows → ⊥) →
    (paper (read_call n d slice).verdict ≡ unplaced 16) × ((read_call n d slice).book ≡ slice)

abbrev pub WrongWorkStays : Type 0
WrongWorkStays = (s : Bytes) (book work : List Row) → (length work ≡ work_rows → ⊥) →
    (paper (slip_call s book work).verdict ≡ unplaced 16) × ((slip_call s book work).book ≡ book) × ((slip_call s book work).work ≡ work)

-- lent to a day likewise, "before all else: that one stays as it came, and the rest ends as after any refusal": the book empty, the working
-- area all zero
abbrev pub WrongDayLoanStays : Type 0
WrongDayLoanStays = (n : ℕ) (d : Delivery) (s : Bytes) (book work : List Row) →
    let day = day_call n d s book work in
    ((length book ≡ book_rows → ⊥) → (paper day.verdict ≡ unplaced 16) × (day.book ≡ book))
    × ((length work ≡ work_rows → ⊥) → (paper day.verdict ≡ unplaced 16) × (day.work ≡ work))
    × (length book ≡ book_rows → (length work ≡ work_rows → ⊥) → day.book ≡ laid empty)
    × (length work ≡ work_rows → day.work ≡ replicate work_rows zeros)

-- no answer comes of what the lent rows held before a reading, nor before a day, nor of the working area of a slip or a day
abbrev pub LentRowsUnread : Type 0
LentRowsUnread = ((n : ℕ) (d : Delivery) (book other : List Row) → length book ≡ book_rows → length other ≡ book_rows → read_call n d book ≡ read_call n d other)
    × ((s : Bytes) (book work area : List Row) → length work ≡ work_rows → length area ≡ work_rows → slip_call s book work ≡ slip_call s book area)
    × ((n : ℕ) (d : Delivery) (s : Bytes) (book other work area : List Row) → length book ≡ book_rows → length other ≡ book_rows → length work ≡ work_rows → length area ≡ work_rows → day_call n d s book work ≡ day_call n d s other area)

-- 16 is the answer too to a book that no accepted delivery leaves
abbrev pub BadBookRefused : Type 0
BadBookRefused = (book : List Row) → ((b : Book) → Left b → book ≡ laid b → ⊥) →
    ((s : Bytes) (work : List Row) → paper (slip_call s book work).verdict ≡ unplaced 16)
    × ((out : Bytes) → paper (write_call book out).verdict ≡ unplaced 16)
    × ((version type : ℕ) →
    let answer = type_call book version type in
    (paper answer.verdict ≡ unplaced 16) × (answer.seconds ≡ 0) × (answer.count ≡ 0))
    × ((version day depot block : ℕ) →
    let answer = block_call book version day depot block in
    (paper answer.verdict ≡ unplaced 16) × (answer.numbers ≡ replicate 7 0))
    × ((out : Bytes) → paper (sheet_call (Ok tt) book out).verdict ≡ unplaced 16)

-- and every lent slice ends as long as it came
abbrev pub LengthsKept : Type 0
LengthsKept = ((n : ℕ) (d : Delivery) (slice : List Row) → length (read_call n d slice).book ≡ length slice)
    × ((s : Bytes) (book work : List Row) → (length (slip_call s book work).book ≡ length book) × (length (slip_call s book work).work ≡ length work))
    × ((book : List Row) (out : Bytes) → length (write_call book out).out ≡ length out)
    × ((n : ℕ) (d : Delivery) (s : Bytes) (book work : List Row) → (length (day_call n d s book work).book ≡ length book) × (length (day_call n d s book work).work ≡ length work))
    × ((v : Verdict) (book : List Row) (out : Bytes) → length (sheet_call v book out).out ≡ length out)

-- Demand 2 ----------------------------------------------------------------------------------------------------------------

-- "accepted if no row breaks a rule, else the first fault": said of lines that are judged in turn, each on the book as those above leave it.
-- `check` is the judgement of a line, `step` what a line leaves
-- the book that lines leave
unfoldable pub onward : (Bytes → Book → Book) → List Bytes → Book → Book
onward step [] b = b
onward step (l ∷ ls) b = onward step ls (step l b)

-- line i, counted from 0, judged on the book that the lines above it leave
abbrev pub check_at : (Bytes → Book → Check) → (Bytes → Book → Book) → List Bytes → ℕ → Book → Check
check_at check step ls i b = check (get_or ls i []) (onward step (take i ls) b)

-- no line breaks a rule, and the book is what they leave
pub record Faultless (check : Bytes → Book → Check) (step : Bytes → Book → Book) (ls : List Bytes) (b c : Book) : Type 0 where
  pub passing : (i : ℕ) → i < length ls → check_at check step ls i b ≡ Ok tt
  pub left : c ≡ onward step ls b

-- the first fault: it has the place, and every line above it passes. `line` is the number of line i, counted from 0
pub record FirstFault (check : Bytes → Book → Check) (step : Bytes → Book → Book) (table : ℕ) (line : ℕ → ℕ) (ls : List Bytes) (b : Book) (p : Place) : Type 0 where
  pub at : ℕ
  pub inside : at < length ls
  pub fault : placed table (line at) (check_at check step ls at b) ≡ Err p
  pub above : (i : ℕ) → i < at → check_at check step ls i b ≡ Ok tt

-- the row lines of a text, behind the header, and the rows that they say
abbrev pub row_lines_of : Edition → Bytes → List Bytes
row_lines_of e s = row_lines (lines e s)

abbrev pub rows_of : Edition → Table → Bytes → List Row
rows_of e t s = map (row_read e t (header_of e t s)) (row_lines_of e s)

-- "its line is the one it starts on": the line of row line i, counted from 0, of lines of which the first starts on line `first`
unfoldable pub start_of : Edition → ℕ → List Bytes → ℕ → ℕ
start_of e first [] i = first
start_of e first (l ∷ ls) zero = first
start_of e first (l ∷ ls) (suc i) = start_of e (line_after e first l) ls i

abbrev pub row_start : Edition → Bytes → ℕ → ℕ
row_start e s i = start_of e (first_line e s) (row_lines_of e s) i

-- what a row line leaves
abbrev pub row_step : Edition → Table → Bytes → Bytes → Book → Book
row_step e t s l b = entered t (row_read e t (header_of e t s) l) b

-- a table is accepted exactly if nothing is wrong before its rows, and no row breaks a rule
abbrev pub AcceptedExactly : Type 0
AcceptedExactly = (t : Table) (s : Bytes) (b c : Book) →
    (table_read t s b ≡ leaves c)
    ↔ ((top_faults b.edition t s ≡ Ok tt) × Faultless (judged t (header_of b.edition t s)) (row_step b.edition t s) (row_lines_of b.edition s) b c)

-- and refused exactly at the first fault
abbrev pub RefusedAtFirst : Type 0
RefusedAtFirst = (t : Table) (s : Bytes) (b : Book) (p : Place) →
    (table_read t s b ≡ refused p)
    ↔ ((top_faults b.edition t s ≡ Err p)
    ⊎ ((top_faults b.edition t s ≡ Ok tt) × FirstFault (judged t (header_of b.edition t s)) (row_step b.edition t s) (number t) (row_start b.edition s) (row_lines_of b.edition s) b p))

-- a slip likewise, of at most 65,536 bytes
abbrev pub SlipAcceptedExactly : Type 0
SlipAcceptedExactly = (s : Bytes) (b c : Book) → (posting s b ≡ leaves c) ↔ ((overlong s ≡ false) × Faultless slip_check slip_leaves (slip_lines s) b c)

abbrev pub SlipRefusedAtFirst : Type 0
SlipRefusedAtFirst = (s : Bytes) (b : Book) (p : Place) →
    (posting s b ≡ refused p)
    ↔ (((overlong s ≡ true) × (paper (Err p) ≡ 1 ∷ 5 ∷ 0 ∷ 0 ∷ [])) ⊎ ((overlong s ≡ false) × FirstFault slip_check slip_leaves 5 suc (slip_lines s) b p))

-- the six tables in order: each is read on the book that the ones before it leave
pub record InOrder (e : Edition) (d : Delivery) (b : Book) : Type 0 where
  pub behind_types : Book
  pub behind_depots : Book
  pub behind_stops : Book
  pub behind_points : Book
  pub behind_blocks : Book
  pub types : table_read VehicleType d.types (empty_by e) ≡ leaves behind_types
  pub depots : table_read Depot d.depots behind_types ≡ leaves behind_depots
  pub stops : table_read Stop d.stops behind_depots ≡ leaves behind_stops
  pub points : table_read StopPoint d.points behind_stops ≡ leaves behind_points
  pub blocks : table_read Block d.blocks behind_points ≡ leaves behind_blocks
  pub days : table_read Calendar d.days behind_blocks ≡ leaves b

abbrev pub DeliveryInOrder : Type 0
DeliveryInOrder = (e : Edition) (d : Delivery) (b : Book) → (reading e d ≡ leaves b) ↔ InOrder e d b

-- and the first table that is refused ends the reading
pub data FaultyTable (e : Edition) (d : Delivery) (p : Place) : Type 0 where
  in_types : table_read VehicleType d.types (empty_by e) ≡ refused p → FaultyTable e d p
  in_depots : (b : Book) → table_read VehicleType d.types (empty_by e) ≡ leaves b → table_read Depot d.depots b ≡ refused p → FaultyTable e d p
  in_stops : (b c : Book) → table_read VehicleType d.types (empty_by e) ≡ leaves b → table_read Depot d.depots b ≡ leaves c →
      table_read Stop d.stops c ≡ refused p → FaultyTable e d p
  in_points : (b c f : Book) → table_read VehicleType d.types (empty_by e) ≡ leaves b → table_read Depot d.depots b ≡ leaves c →
      table_read Stop d.stops c ≡ leaves f → table_read StopPoint d.points f ≡ refused p → FaultyTable e d p
  in_blocks : (b c f g : Book) → table_read VehicleType d.types (empty_by e) ≡ leaves b → table_read Depot d.depots b ≡ leaves c →
      table_read Stop d.stops c ≡ leaves f → table_read StopPoint d.points f ≡ leaves g → table_read Block d.blocks g ≡ refused p → FaultyTable e d p
  in_days : (b c f g h : Book) → table_read VehicleType d.types (empty_by e) ≡ leaves b → table_read Depot d.depots b ≡ leaves c →
      table_read Stop d.stops c ≡ leaves f → table_read StopPoint d.points f ≡ leaves g → table_read Block d.blocks g ≡ leaves h →
      table_read Calendar d.days h ≡ refused p → FaultyTable e d p

abbrev pub DeliveryRefused : Type 0
DeliveryRefused = (e : Edition) (d : Delivery) (p : Place) → (reading e d ≡ refused p) ↔ FaultyTable e d p

-- "which the book keeps"
abbrev pub EditionKept : Type 0
EditionKept = (e : Edition) (d : Delivery) (b : Book) → reading e d ≡ leaves b → b.edition ≡ e

-- the text of a table
abbrev pub text_of : Table → Delivery → Bytes
text_of VehicleType d = d.types
text_of Depot d = d.depots
text_of Stop d = d.stops
text_of StopPoint d = d.points
text_of Block d = d.blocks
text_of Calendar d = d.days

-- how many of the rows are this row
unfoldable pub copies : Row → List Row → ℕ
copies row [] = 0
copies row (x ∷ xs) = (whether same row x then 1 else 0) + copies row xs

-- the book of an accepted delivery holds exactly the rows of its texts, by rising key
abbrev pub RowsExactly : Type 0
RowsExactly = (e : Edition) (d : Delivery) (b : Book) (t : Table) → reading e d ≡ leaves b →
    (rising (key_width t) (rows t b) ≡ true)
    × (length (rows t b) ≡ length (rows_of e t (text_of t d)))
    × ((row : Row) → copies row (rows t b) ≡ copies row (rows_of e t (text_of t d)))

-- and so a key stands, and has a row, in the book as it does in its text
abbrev pub KeysExactly : Type 0
KeysExactly = (e : Edition) (d : Delivery) (b : Book) (t : Table) (key : Row) → reading e d ≡ leaves b →
    (stands (key_width t) key (rows t b) ≡ stands (key_width t) key (rows_of e t (text_of t d)))
    × (found (key_width t) key (rows t b) ≡ found (key_width t) key (rows_of e t (text_of t d)))

-- and a type has the seconds and the count of the text's rows
abbrev pub TotalsExactly : Type 0
TotalsExactly = (e : Edition) (d : Delivery) (b : Book) (version type : ℕ) → reading e d ≡ leaves b →
    (seconds_of version type b.blocks ≡ seconds_of version type (rows_of e Block d.blocks))
    × (count_of version type b.blocks ≡ count_of version type (rows_of e Block d.blocks))

-- so the questions on the lent book answer from the rows of the texts. Type: 15, or seconds and count
abbrev pub TypesAnswered : Type 0
TypesAnswered = (e : Edition) (d : Delivery) (b : Book) (version type : ℕ) → reading e d ≡ leaves b →
    let there = stands 2 (version ∷ type ∷ []) (rows_of e VehicleType d.types) in
    let blocks = rows_of e Block d.blocks in
    type_call (laid b) version type ≡ type_answered (nowhere (not_there when not there)) (seconds_of version type blocks) (count_of version type blocks)

-- Block: 15, or its seven non-key numbers
abbrev pub BlocksAnswered : Type 0
BlocksAnswered = (e : Edition) (d : Delivery) (b : Book) (version day depot block : ℕ) → reading e d ≡ leaves b →
    let key = version ∷ day ∷ depot ∷ block ∷ [] in
    let blocks = rows_of e Block d.blocks in
    block_call (laid b) version day depot block ≡ block_answered (nowhere (not_there when not (stands 4 key blocks))) (seven (found 4 key blocks))

-- the row of row line i, counted from 0
abbrev pub row_at : Edition → Table → Bytes → ℕ → Row
row_at e t s i = row_read e t (header_of e t s) (get_or (row_lines_of e s) i [])

-- "cells .. exactly those of document 01": no cell of an accepted table is refused, on any of its row lines and in any column
abbrev pub CellsAccepted : Type 0
CellsAccepted = (n : ℕ) (e : Edition) (d : Delivery) (b : Book) (t : Table) (i k : ℕ) → choice n ≡ Some e → reading e d ≡ leaves b → i < length (row_lines_of e (text_of t d)) → 1 ≤ k → k ≤ length (columns_of e t) →
    (cell_asked n (text_of t d) (number t) (row_start e (text_of t d) i) k).verdict ≡ Ok tt

-- and in a column that the book keeps the answer is the number in that line's row, which stands in the book
abbrev pub CellsAgree : Type 0
CellsAgree = (n : ℕ) (e : Edition) (d : Delivery) (b : Book) (t : Table) (i k : ℕ) → choice n ≡ Some e → reading e d ≡ leaves b → i < length (row_lines_of e (text_of t d)) → 1 ≤ k → k ≤ kept_width t →
    (cell_paper (cell_asked n (text_of t d) (number t) (row_start e (text_of t d) i) k) ≡ 0 ∷ 0 ∷ 0 ∷ 0 ∷ 1 ∷ column k (row_at e t (text_of t d) i) ∷ 0 ∷ 0 ∷ [])
    × (found (key_width t) (row_at e t (text_of t d) i) (rows t b) ≡ row_at e t (text_of t d) i)

-- "The stretch is the caller's own bytes between the quotes, or the whole cell where unquoted": it stands in the text where the answer says
abbrev pub StretchesAgree : Type 0
StretchesAgree = (n : ℕ) (e : Edition) (t : Table) (s : Bytes) (line k : ℕ) → choice n ≡ Some e → (column_at e t (k - 1)).rules.sort ≡ sort-is.Text → (cell_asked n s (number t) line k).verdict ≡ Ok tt →
    stretch_of s (cell_asked n s (number t) line k).cell ≡ stretch (cell_at e t s line k)

-- the delivery with another text of blocks
abbrev pub with_blocks : Bytes → Delivery → Delivery
with_blocks s d = record { types = d.types; depots = d.depots; stops = d.stops; points = d.points; blocks = s; days = d.days }

-- "Blocks written out and read back give the same book": with the same other tables
abbrev pub ReadsBack : Type 0
ReadsBack = (e : Edition) (d : Delivery) (b : Book) → reading e d ≡ leaves b → reading e (with_blocks (written b) d) ≡ leaves b

-- "and written again the same text": whatever delivery came first
abbrev pub WritesAgain : Type 0
WritesAgain = (e : Edition) (d : Delivery) (b c : Book) → reading e d ≡ leaves b → reading e (with_blocks (written b) d) ≡ leaves c → written c ≡ written b

-- what is written is never too long to be read
abbrev pub WrittenFits : Type 0
WrittenFits = (b : Book) → Left b → length (written b) ≤ most_bytes

-- a write call answers the text's length and puts the text at the head of the output, or is 14 where there is no room for it
abbrev pub WriteCallAnswers : Type 0
WriteCallAnswers = (b : Book) (out : Bytes) → Left b →
    (length (written b) ≤ length out → write_call (laid b) out ≡ write-call.outcome (Ok tt) (length (written b)) (written b ++ drop (length (written b)) out))
    × (length out < length (written b) →
    let w = write_call (laid b) out in
    (paper w.verdict ≡ unplaced 14) × (w.size ≡ 0) × (w.out ≡ out))

-- a day is the reading, and then the slip on the book that an accepted one leaves, whatever was lent
abbrev pub DayCallAnswers : Type 0
DayCallAnswers = (n : ℕ) (e : Edition) (d : Delivery) (s : Bytes) (book work : List Row) → choice n ≡ Some e → length book ≡ book_rows → length work ≡ work_rows →
    ((p : Place) → reading e d ≡ refused p → day_call n d s book work ≡ slip-call.outcome (Err p) (laid empty) (replicate work_rows zeros))
    × ((b : Book) → reading e d ≡ leaves b → day_call n d s book work ≡ slip_outcome (posting s b) (laid b) work)

-- "one `T` line a type .. then `S` ..; or only `X`": what the calls for a day and then for its sheet leave in the output is the sheet of the
-- delivery and the slip, 16 and 14 aside
abbrev pub SheetCallAnswers : Type 0
SheetCallAnswers = (n : ℕ) (e : Edition) (d : Delivery) (s : Bytes) (book work : List Row) (out : Bytes) →
    choice n ≡ Some e → length book ≡ book_rows → length work ≡ work_rows → length (sheet e d s) ≤ length out →
    let day = day_call n d s book work in
    sheet_call day.verdict day.book out ≡ write-call.outcome (Ok tt) (length (sheet e d s)) (sheet e d s ++ drop (length (sheet e d s)) out)

-- no sheet is longer than what `daysheet` lends for it
abbrev pub SheetFits : Type 0
SheetFits = (e : Edition) (d : Delivery) (s : Bytes) → length (sheet e d s) ≤ sheet_room

-- so the bytes that the sheet call counts, which `daysheet` prints, are the sheet
abbrev pub SheetPrinted : Type 0
SheetPrinted = (n : ℕ) (e : Edition) (d : Delivery) (s : Bytes) (book work : List Row) (out : Bytes) →
    choice n ≡ Some e → length book ≡ book_rows → length work ≡ work_rows → length out ≡ sheet_room →
    let day = day_call n d s book work in
    let written = sheet_call day.verdict day.book out in
    take written.size written.out ≡ sheet e d s

-- reading, writing and reading by the calls: the same book again, whatever was lent
abbrev pub CallsReadBack : Type 0
CallsReadBack = (n : ℕ) (e : Edition) (d : Delivery) (b : Book) (book : List Row) (out : Bytes) → choice n ≡ Some e → reading e d ≡ leaves b → length book ≡ book_rows → length (written b) ≤ length out →
    let w = write_call (read_call n d book).book out in
    read_call n (with_blocks (take w.size w.out) d) book ≡ read_call n d book

-- "The book rule: it is a book that some accepted delivery leaves." The test of the rule holds exactly of these books
abbrev pub RuleTested : Type 0
RuleTested = (slice : List Row) → (keeps_rule slice ≡ true) ↔ ((b : Book) × Left b × (slice ≡ laid b))

-- Demand 3 ----------------------------------------------------------------------------------------------------------------

-- the book behind a run of slips, accepted or not
unfoldable pub run : List Bytes → Book → Book
run [] b = b
run (s ∷ ss) b = run ss (posted s b)

-- "After any run of slips, some refused, every answer equals the one got by reading afresh the delivery with its block rows, in the
-- writer's form, as the accepted slips leave them": the whole book does, and every answer is one about the book
abbrev pub RunReadsAfresh : Type 0
RunReadsAfresh = (e : Edition) (d : Delivery) (b : Book) (ss : List Bytes) → reading e d ≡ leaves b → reading e (with_blocks (written (run ss b)) d) ≡ leaves (run ss b)

abbrev pub accepted : Result → Bool
accepted (refused p) = false
accepted (leaves b) = true

-- What an accepted slip stores: "a slip call that stores nothing" is ruled out, and "one that honours the first slip and merely says yes later".
-- "`A` and 11 numbers: add. `R` and 11: replace": the row that a line brings
abbrev pub brings : Wish → Row → List Row
brings Unknown row = []
brings Add row = row ∷ []
brings Replace row = row ∷ []
brings Delete row = []

-- "replace the block of that key", "delete": the row that it takes away, which is the one of its key
abbrev pub takes : Wish → Row → Book → List Row
takes Unknown row b = []
takes Add row b = []
takes Replace row b = found 4 row b.blocks ∷ []
takes Delete row b = found 4 row b.blocks ∷ []

abbrev pub brought_by : Bytes → List Row
brought_by l = brings (wish (fields l)) (row_in l)

abbrev pub taken_by : Bytes → Book → List Row
taken_by l b = takes (wish (fields l)) (row_in l) b

-- `many` counts rows, as `copies` does, or weighs them. Behind an accepted line the blocks are those before it, with the row that it brings and
-- without the one that it takes away. `step` is what a line leaves: said of any, so that a wrong one can be held against it (RuledOut)
abbrev pub LineStores : (Bytes → Book → Book) → (List Row → ℕ) → Type 0
LineStores step many = (b : Book) (l : Bytes) → slip_check l b ≡ Ok tt →
    many (step l b).blocks + many (taken_by l b) ≡ many b.blocks + many (brought_by l)

-- the rows that lines bring
unfoldable pub all_brought : List Bytes → List Row
all_brought [] = []
all_brought (l ∷ ls) = brought_by l ++ all_brought ls

-- and those that they take away, each as it stands before its line
unfoldable pub all_taken : List Bytes → Book → List Row
all_taken [] b = []
all_taken (l ∷ ls) b = taken_by l b ++ all_taken ls (slip_leaves l b)

-- "A slip is taken whole": all its lines are stored
abbrev pub SlipStores : (List Row → ℕ) → Type 0
SlipStores many = (b c : Book) (s : Bytes) → posting s b ≡ leaves c →
    many c.blocks + many (all_taken (slip_lines s) b) ≡ many b.blocks + many (all_brought (slip_lines s))

-- the lines of the accepted slips of a run, "some refused"
unfoldable pub honoured : List Bytes → Book → List Bytes
honoured [] b = []
honoured (s ∷ ss) b = (whether accepted (posting s b) then slip_lines s else []) ++ honoured ss (posted s b)

-- each accepted slip of a run is stored, not the first one alone. `behind` is the book behind a run: said of any, as above
abbrev pub RunStores : (List Bytes → Book → Book) → (List Row → ℕ) → Type 0
RunStores behind many = (b : Book) (ss : List Bytes) →
    many (behind ss b).blocks + many (all_taken (honoured ss b) b) ≡ many b.blocks + many (all_brought (honoured ss b))

-- which rows stand, and how often: row for row, behind a line, a slip and a run of slips
abbrev pub RowsStored : Type 0
RowsStored = (row : Row) → LineStores slip_leaves (copies row) × SlipStores (copies row) × RunStores run (copies row)

-- and so what the blocks of a type weigh together, their seconds and their count: a replaced block's share is taken off its old type, and
-- the new block's given to its new one
abbrev pub SharesStored : Type 0
SharesStored = (weight : Row → ℕ) (version type : ℕ) →
    LineStores slip_leaves (total weight version type) × SlipStores (total weight version type) × RunStores run (total weight version type)

-- what a line says of its key: this row, or none
abbrev pub says : Wish → Row → Row → Row
says Unknown row old = old
says Add row old = row
says Replace row old = row
says Delete row old = []

-- what lines say of a key: the last of them that has it decides; where none has it, the row is the old one
unfoldable pub last_said : Row → List Bytes → Row → Row
last_said key [] old = old
last_said key (l ∷ ls) old = last_said key ls (whether same_key 4 key (row_in l) then says (wish (fields l)) (row_in l) old else old)

-- behind an accepted slip each key has the row that the slip's lines say, and behind a run the row that its accepted slips say
abbrev pub SlipSaid : Type 0
SlipSaid = (b c : Book) (s : Bytes) (key : Row) → Left b → posting s b ≡ leaves c →
    found 4 key c.blocks ≡ last_said key (slip_lines s) (found 4 key b.blocks)

abbrev pub RunSaid : Type 0
RunSaid = (b : Book) (ss : List Bytes) (key : Row) → Left b →
    found 4 key (run ss b).blocks ≡ last_said key (honoured ss b) (found 4 key b.blocks)

-- the book on which line i of a slip is judged, counted from 0: "judged on what the lines before it left", behind any run of slips
abbrev pub midway : List Bytes → Bytes → ℕ → Book → Book
midway ss s i b = onward slip_leaves (take i (slip_lines s)) (run ss b)

-- line i is reached: it is a line of the slip, and none above it is refused
pub record Reached (ss : List Bytes) (s : Bytes) (i : ℕ) (b : Book) : Type 0 where
  pub inside : i < length (slip_lines s)
  pub above : (j : ℕ) → j < i → check_at slip_check slip_leaves (slip_lines s) j (run ss b) ≡ Ok tt

-- in the middle of a slip, too, the book is the one got by reading afresh the delivery with its block rows as the lines so far leave them
abbrev pub MidwayReadsAfresh : Type 0
MidwayReadsAfresh = (e : Edition) (d : Delivery) (b : Book) (ss : List Bytes) (s : Bytes) (i : ℕ) → reading e d ≡ leaves b → Reached ss s i b →
    reading e (with_blocks (written (midway ss s i b)) d) ≡ leaves (midway ss s i b)

-- the blocks in the writer's form, and one more row behind them
abbrev pub written_with : Row → List Row → Bytes
written_with row blocks = lines_written (names_line ∷ (map row_line blocks ++ (row_line row ∷ [])))

-- a reading takes the row there: behind these blocks, with the other tables of the delivery
abbrev pub read_there : Edition → Delivery → List Row → Row → Bool
read_there e d blocks row = accepted (reading e (with_blocks (written_with row blocks) d))

-- what a well-formed line must meet: the row that it adds or replaces would be read there, and the block that it names stands
abbrev pub admissible : Wish → Edition → Delivery → Row → Book → Bool
admissible Unknown e d row b = false
admissible Add e d row b = read_there e d b.blocks row
admissible Replace e d row b = knows Block row b && read_there e d (removed 4 row b.blocks) row
admissible Delete e d row b = knows Block row b

abbrev pub known : Wish → Bool
known Unknown = false
known Add = true
known Replace = true
known Delete = true

-- "A line is well formed if neither 12 nor 8 holds of it", and it "is free of all four": 8, 19, 20 and 21
abbrev pub well_formed : Edition → Bytes → Bool
well_formed e line = known (wish (fields line)) && passes (bad_field e (numbers (fields line)))

-- "A well-formed slip line, judged on what the lines before it left, is refused exactly if its row would be refused by a reading there, or its
-- block is missing": line i of any slip, behind any run of slips, held against a reading with the original delivery
abbrev pub RefusedExactly : Type 0
RefusedExactly = (e : Edition) (d : Delivery) (b : Book) (ss : List Bytes) (s : Bytes) (i : ℕ) → reading e d ≡ leaves b → Reached ss s i b →
    let line = get_or (slip_lines s) i [] in
    well_formed e line ≡ true →
    passes (check_at slip_check slip_leaves (slip_lines s) i (run ss b)) ≡ admissible (wish (fields line)) e d (row_in line) (midway ss s i b)

-- and where both refuse, they name the same number and column: the row's line comes behind the header and the blocks
abbrev pub RefusedAlike : Type 0
RefusedAlike = (e : Edition) (d : Delivery) (b : Book) (ss : List Bytes) (s : Bytes) (i : ℕ) (p : Place) → reading e d ≡ leaves b → Reached ss s i b →
    let line = get_or (slip_lines s) i [] in
    let blocks = (midway ss s i b).blocks in
    well_formed e line ≡ true → wish (fields line) ≡ Add → reading e (with_blocks (written_with (row_in line) blocks) d) ≡ refused p →
    (check_at slip_check slip_leaves (slip_lines s) i (run ss b) ≡ Err (fault p.number p.column)) × (p.table ≡ number Block) × (p.line ≡ 2 + length blocks)

-- some line of a slip does this, as the book stands before that line
unfoldable pub some_line : (Bytes → Book → Bool) → List Bytes → Book → Bool
some_line does [] b = false
some_line does (l ∷ ls) b = does l b || some_line does ls (slip_leaves l b)

-- some accepted slip of a run has such a line
unfoldable pub some_slip : (Bytes → Book → Bool) → List Bytes → Book → Bool
some_slip does [] b = false
some_slip does (s ∷ ss) b = accepted (posting s b) && some_line does (slip_lines s) b || some_slip does ss (posted s b)

-- a line names the key
abbrev pub names : Row → Bytes → Book → Bool
names key l b = same_key 4 key (row_in l)

-- a line changes a block of the type: the one that it brings, or the one that it takes away
abbrev pub changes : Wish → ℕ → ℕ → Row → Book → Bool
changes Unknown v n row b = false
changes Add v n row b = of_type v n row
changes Replace v n row b = of_type v n row || of_type v n (found 4 row b.blocks)
changes Delete v n row b = of_type v n (found 4 row b.blocks)

abbrev pub touches : ℕ → ℕ → Bytes → Book → Bool
touches v n l b = changes (wish (fields l)) v n (row_in l) b

-- "What no accepted slip touches keeps its answers": blocks
abbrev pub BlocksKept : Type 0
BlocksKept = (b : Book) (ss : List Bytes) (version day depot block : ℕ) → Left b → some_slip (names (version ∷ day ∷ depot ∷ block ∷ [])) ss b ≡ false →
    block_call (laid (run ss b)) version day depot block ≡ block_call (laid b) version day depot block

-- types
abbrev pub TypesKept : Type 0
TypesKept = (b : Book) (ss : List Bytes) (version type : ℕ) → Left b → some_slip (touches version type) ss b ≡ false →
    type_call (laid (run ss b)) version type ≡ type_call (laid b) version type

-- and the other tables and the edition, which no slip touches
abbrev pub OtherTablesKept : Type 0
OtherTablesKept = (b : Book) (ss : List Bytes) → Left b →
    ((run ss b).types ≡ b.types) × ((run ss b).depots ≡ b.depots) × ((run ss b).stops ≡ b.stops) × ((run ss b).points ≡ b.points) × ((run ss b).days ≡ b.days) × ((run ss b).edition ≡ b.edition)

-- "The book rule: it is a book that some accepted delivery leaves." A slip, accepted or not, leaves a book that keeps the rule
abbrev pub RuleKept : Type 0
RuleKept = (b : Book) (s : Bytes) → Left b → Left (posted s b)

-- the same of the calls: the lent book behind a reading and a run of slip calls, each with the working area as the last one left it
unfoldable pub slips_called : List Bytes → List Row → List Row → List Row
slips_called [] book work = book
slips_called (s ∷ ss) book work = slips_called ss (slip_call s book work).book (slip_call s book work).work

-- it is the book that a reading afresh lends, row for row, and so is every answer got from it
abbrev pub CallsReadAfresh : Type 0
CallsReadAfresh = (n : ℕ) (e : Edition) (d : Delivery) (b : Book) (ss : List Bytes) (book work : List Row) →
    choice n ≡ Some e → reading e d ≡ leaves b → length book ≡ book_rows → length work ≡ work_rows →
    (slips_called ss (read_call n d book).book work ≡ laid (run ss b))
    × (slips_called ss (read_call n d book).book work ≡ (read_call n (with_blocks (written (run ss b)) d) book).book)

-- a slip call answers as the slip is judged on the book that it is handed
abbrev pub SlipCallAnswers : Type 0
SlipCallAnswers = (s : Bytes) (b : Book) (work : List Row) → Left b → length work ≡ work_rows →
    slip_call s (laid b) work ≡ slip_outcome (posting s b) (laid b) work

-- no row
abbrev pub none : Row → Bool
none [] = true
none (n ∷ ns) = false

-- "a slip call that stores nothing (3, over 2's reading)", "one that honours the first slip and merely says yes later (3, any run)": behind a reading
-- and any run of slip calls the block question answers what the accepted slips last said of that block, and else what the text of the delivery
-- says: for a block that was deleted 15
abbrev pub CallsSaid : Type 0
CallsSaid = (n : ℕ) (e : Edition) (d : Delivery) (b : Book) (ss : List Bytes) (book work : List Row) (version day depot block : ℕ) →
    choice n ≡ Some e → reading e d ≡ leaves b → length book ≡ book_rows → length work ≡ work_rows →
    let key = version ∷ day ∷ depot ∷ block ∷ [] in
    let row = last_said key (honoured ss b) (found 4 key (rows_of e Block d.blocks)) in
    block_call (slips_called ss (read_call n d book).book work) version day depot block ≡ block_answered (nowhere (not_there when none row)) (seven row)

-- the year's fault. "For a year the sheet was wrong although every row was right: when a slip moved a block, the new length was taken off and not
-- the old." Behind a reading and any run of slip calls the type question answers the delivery's share, with what the accepted slips brought and
-- without what they took away, each row as it stood when it was taken
abbrev pub YearsFaultRuledOut : Type 0
YearsFaultRuledOut = (n : ℕ) (e : Edition) (d : Delivery) (b : Book) (ss : List Bytes) (book work : List Row) (version type : ℕ) →
    choice n ≡ Some e → reading e d ≡ leaves b → length book ≡ book_rows → length work ≡ work_rows → stands 2 (version ∷ type ∷ []) (rows_of e VehicleType d.types) ≡ true →
    let answer = type_call (slips_called ss (read_call n d book).book work) version type in
    let old = rows_of e Block d.blocks in
    let brought = all_brought (honoured ss b) in
    let taken = all_taken (honoured ss b) b in
    (answer.seconds + seconds_of version type taken ≡ seconds_of version type old + seconds_of version type brought)
    × (answer.count + count_of version type taken ≡ count_of version type old + count_of version type brought)
