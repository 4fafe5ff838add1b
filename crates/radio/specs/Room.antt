-- What is kept between parts, in three lent slices: the book, numbers, and lines. "What is kept between parts is no working area".
use Rattle.std.specs.Prelude.{List, [], ◌∷◌, ◌++◌, Bool, ◌&&◌, ℕ, suc, ◌+◌, ◌-◌, ltb, eqb, length, get_or, take, drop, replicate, Option, Some, None, Ok}
use Rattle.words.specs.Words.{Bytes, Row, whether◌then◌else◌, same}
use Rattle.refusals.specs.Verdicts.{place, nowhere, bad_loan, unknown_edition, Verdict}
use Rattle.refusals.specs.declared.Place.{Place}
use Rattle.editions.specs.Editions.{choice}
use Rattle.editions.specs.declared.Edition.{Edition}
use Rattle.lines.specs.Lines.{most_line}
use Rattle.rows.specs.Room.{same_rows}
use Rattle.tables.specs.Parts.{part_of, tables, book_rows}
use Rattle.tables.specs.declared.Table.{Table}
use Rattle.tables.specs.declared.Table.TheVariants.{Calendar}
use Rattle.book.specs.Book.{empty}
use Rattle.book.specs.Room.{laid, book_of}
use Rattle.book.specs.Result.{Result, refused, leaves}
use Rattle.radio.specs.Radio.{Course, stopped, going, Radio, awaits, hears, over, kept_line, Call, start, after, answer, standing}
use Rattle.radio.specs.Rule.{lawful_radio}

-- the slices
pub record Slices : Type 0 where
  pub book : List Row
  pub numbers : List ℕ
  pub lines : Bytes

-- how many numbers are kept, and how many bytes: a header line, and an unfinished one
abbrev pub radio_numbers : ℕ
radio_numbers = 11

abbrev pub radio_bytes : ℕ
radio_bytes = most_line + kept_line

-- laid out --------------------------------------------------------------------------------------------------------------------

-- "A refused reading leaves an empty book": a fault empties it at once, and its edition is "2.1 after a refused reading"
abbrev pub laid_book : Result → List Row
laid_book (refused p) = laid empty
laid_book (leaves b) = laid b

-- whose turn it is: a table to be announced, by its part of the book; then none, when all are closed; then a table that is heard
abbrev pub all_closed : ℕ
all_closed = length tables

abbrev pub first_heard : ℕ
first_heard = suc all_closed

abbrev pub last_heard : ℕ
last_heard = all_closed + length tables

abbrev pub laid_turn : Radio → ℕ
laid_turn (awaits t r) = part_of t
laid_turn (over r) = all_closed
laid_turn (hears t a n c) = first_heard + part_of t

-- the announced length, and how many bytes came
abbrev pub laid_counts : Radio → List ℕ
laid_counts (awaits t r) = replicate 2 0
laid_counts (hears t a n c) = a ∷ n ∷ []
laid_counts (over r) = replicate 2 0

-- the number of the unfinished line, and the lengths of the two lines that are kept
abbrev pub course_lines : Course → List ℕ
course_lines (stopped p) = replicate 3 0
course_lines (going b i head rest) = i ∷ length head ∷ length rest ∷ []

abbrev pub laid_lengths : Radio → List ℕ
laid_lengths (awaits t r) = replicate 3 0
laid_lengths (hears t a n c) = course_lines c
laid_lengths (over r) = replicate 3 0

-- 1 and a fault, or zeros
abbrev pub laid_place : Place → List ℕ
laid_place p = p.number ∷ p.table ∷ p.line ∷ p.column ∷ []

abbrev pub laid_fault : Result → List ℕ
laid_fault (refused p) = 1 ∷ laid_place p
laid_fault (leaves b) = replicate 5 0

abbrev pub laid_numbers : Radio → List ℕ
laid_numbers k = laid_turn k ∷ laid_counts k ++ laid_lengths k ++ laid_fault (standing k)

-- a line, and zeros behind it
abbrev pub padded : ℕ → Bytes → Bytes
padded n s = s ++ replicate (n - length s) 0

abbrev pub two_lines : Bytes → Bytes → Bytes
two_lines head rest = padded most_line head ++ padded kept_line rest

abbrev pub course_bytes : Course → Bytes
course_bytes (stopped p) = two_lines [] []
course_bytes (going b i head rest) = two_lines head rest

abbrev pub laid_lines : Radio → Bytes
laid_lines (awaits t r) = two_lines [] []
laid_lines (hears t a n c) = course_bytes c
laid_lines (over r) = two_lines [] []

unfoldable pub laid_out : Radio → Slices
laid_out k = record { book = laid_book (standing k); numbers = laid_numbers k; lines = laid_lines k }

-- and found again -----------------------------------------------------------------------------------------------------------------

abbrev pub table_at : ℕ → Table
table_at i = get_or tables i Calendar

-- the numbers by their places
abbrev pub turn_of : List ℕ → ℕ
turn_of ns = get_or ns 0 0

abbrev pub announced_of : List ℕ → ℕ
announced_of ns = get_or ns 1 0

abbrev pub come_of : List ℕ → ℕ
come_of ns = get_or ns 2 0

abbrev pub line_of : List ℕ → ℕ
line_of ns = get_or ns 3 0

abbrev pub head_of : List ℕ → ℕ
head_of ns = get_or ns 4 0

abbrev pub rest_of : List ℕ → ℕ
rest_of ns = get_or ns 5 0

abbrev pub flag_of : List ℕ → ℕ
flag_of ns = get_or ns 6 0

abbrev pub place_of : List ℕ → Place
place_of ns = place (get_or ns 7 0) (get_or ns 8 0) (get_or ns 9 0) (get_or ns 10 0)

abbrev pub fault_in : Slices → Place
fault_in s = place_of s.numbers

abbrev pub result_in : Slices → Result
result_in s = whether eqb (flag_of s.numbers) 0 then leaves (book_of s.book) else refused (fault_in s)

abbrev pub course_in : Slices → Course
course_in s =
    let ns = s.numbers in
    whether eqb (flag_of ns) 0 then going (book_of s.book) (line_of ns) (take (head_of ns) s.lines) (take (rest_of ns) (drop most_line s.lines))
    else stopped (fault_in s)

unfoldable pub radio_in : Slices → Radio
radio_in s =
    let turn = turn_of s.numbers in
    whether ltb turn all_closed then awaits (table_at turn) (result_in s)
    else whether eqb turn all_closed then over (result_in s)
    else hears (table_at (turn - first_heard)) (announced_of s.numbers) (come_of s.numbers) (course_in s)

-- the rule, and the calls ------------------------------------------------------------------------------------------------------------

abbrev pub fits : Slices → Bool
fits s = eqb (length s.book) book_rows && eqb (length s.numbers) radio_numbers && eqb (length s.lines) radio_bytes

abbrev pub same_slices : Slices → Slices → Bool
same_slices s k = same_rows s.book k.book && same s.numbers k.numbers && same s.lines k.lines

-- "has a rule of its own": what the slices keep is lawful, and what is unused is zero
unfoldable pub keeps_radio : Slices → Bool
keeps_radio s = fits s && lawful_radio (radio_in s) && same_slices s (laid_out (radio_in s))

-- what a call answers, and what the slices hold behind it
pub record Outcome : Type 0 where
  pub verdict : Verdict
  pub slices : Slices

abbrev pub outcome : Verdict → Slices → Outcome
outcome v s = record { verdict = v; slices = s }

-- "handed in against that rule it is 16, before 15, and stays as it came"
unfoldable pub radio_call : Call → Slices → Outcome
radio_call c s =
    whether keeps_radio s then outcome (answer c (radio_in s)) (laid_out (after c (radio_in s)))
    else outcome (nowhere bad_loan) s

-- the opening: what the slices held does not matter; "an unknown edition is 22, right after 16", "one lent at another length is 16", and then all
-- stay as they came
abbrev pub open_by : Option Edition → Slices → Outcome
open_by (Some e) s = outcome (Ok tt) (laid_out (start e))
open_by None s = outcome (nowhere unknown_edition) s

abbrev pub open_call : ℕ → Slices → Outcome
open_call n s = whether fits s then open_by (choice n) s else outcome (nowhere bad_loan) s
