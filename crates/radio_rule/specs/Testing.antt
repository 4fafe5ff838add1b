-- The rule of what is kept between parts, as tests on the numbers, the lines and the book.
-- Inner: no promise and no contract of a public function speaks of it.
use Rattle.std.specs.Prelude.{List, Bool, true, ◌&&◌, ℕ, suc, ◌+◌, ◌-◌, ltb, leb, eqb, length, get_or, take, drop, replicate}
use Rattle.words.specs.Words.{Bytes, Row, whether◌then◌else◌, same}
use Rattle.refusals.specs.Verdicts.{passes, place}
use Rattle.refusals.specs.declared.Place.{Place}
use Rattle.editions.specs.declared.Edition.{Edition}
use Rattle.lines.specs.Lines.{most_line}
use Rattle.rows.specs.Room.{same_rows}
use Rattle.book.specs.Book.{empty}
use Rattle.book.specs.Room.{laid}
use Rattle.keeping.specs.Keeping.{keeps_rule}
use Rattle.header.specs.Header.{header_check}
use Rattle.radio.specs.Radio.{most_counted, kept_line}
use Rattle.radio.specs.Rule.{lawful_fault}
use Rattle.radio.specs.Room.{radio_numbers, radio_bytes, first_heard, last_heard, table_at}

-- from place a to before place e
abbrev pub stretch : ℕ → ℕ → List ℕ → List ℕ
stretch a e xs = take (e - a) (drop a xs)

unfoldable pub zeros : List ℕ → Bool
zeros xs = same xs (replicate (length xs) 0)

-- the numbers by their places ---------------------------------------------------------------------------------------------------

abbrev pub turn : List ℕ → ℕ
turn ns = get_or ns 0 0

abbrev pub announced : List ℕ → ℕ
announced ns = get_or ns 1 0

abbrev pub come : List ℕ → ℕ
come ns = get_or ns 2 0

abbrev pub line : List ℕ → ℕ
line ns = get_or ns 3 0

abbrev pub head_length : List ℕ → ℕ
head_length ns = get_or ns 4 0

abbrev pub rest_length : List ℕ → ℕ
rest_length ns = get_or ns 5 0

abbrev pub fault : List ℕ → ℕ
fault ns = get_or ns 6 0

abbrev pub fault_place : List ℕ → Place
fault_place ns = place (get_or ns 7 0) (get_or ns 8 0) (get_or ns 9 0) (get_or ns 10 0)

-- the numbers -------------------------------------------------------------------------------------------------------------------

-- 1 and a lawful fault, or zeros
abbrev pub fault_keeps : List ℕ → Bool
fault_keeps ns = whether eqb (fault ns) 0 then zeros (stretch 7 radio_numbers ns) else eqb (fault ns) 1 && lawful_fault (fault_place ns)

-- of a table that is heard, without a fault
abbrev pub course_keeps : List ℕ → Bool
course_keeps ns =
    leb 1 (line ns)
    && leb (rest_length ns) kept_line
    && leb (line ns + rest_length ns) (suc (come ns))
    && leb (head_length ns) most_line
    && (whether eqb (line ns) 1 then eqb (head_length ns) 0 else true)

-- of a table that is heard
abbrev pub heard_keeps : List ℕ → Bool
heard_keeps ns =
    leb (announced ns) most_counted
    && leb (come ns) most_counted
    && (whether eqb (fault ns) 0 then course_keeps ns else zeros (stretch 3 6 ns))

-- a turn that there is, the fault, and what is kept of a table that is heard
unfoldable pub numbers_keep : List ℕ → Bool
numbers_keep ns = leb (turn ns) last_heard && fault_keeps ns && (whether ltb (turn ns) first_heard then zeros (stretch 1 6 ns) else heard_keeps ns)

-- the lines ---------------------------------------------------------------------------------------------------------------------

-- there is a header line where the unfinished line is not the first, by the edition of the book that is lent
abbrev pub header_keeps : Edition → List ℕ → Bytes → Bool
header_keeps e ns l = whether ltb 1 (line ns) then passes (header_check e (table_at (turn ns - first_heard)) (take (head_length ns) l)) else true

-- zeros behind each line, and the header line
unfoldable pub lines_keep : Edition → List ℕ → Bytes → Bool
lines_keep e ns l = zeros (stretch (head_length ns) most_line l) && zeros (stretch (most_line + rest_length ns) radio_bytes l) && header_keeps e ns l

-- the book ----------------------------------------------------------------------------------------------------------------------

unfoldable pub book_keeps : List ℕ → List Row → Bool
book_keeps ns book = whether eqb (fault ns) 0 then keeps_rule book else same_rows book (laid empty)
