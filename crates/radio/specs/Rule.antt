-- The rule of what is kept between parts: "has a rule of its own, which every call keeps".
use Rattle.std.specs.Prelude.{Bool, ◌&&◌, List, [], ◌∷◌, map, ℕ, suc, ◌+◌, leb, eqb, length}
use Rattle.words.specs.Words.{Bytes, whether◌then◌else◌}
use Rattle.refusals.specs.Verdicts.{passes}
use Rattle.refusals.specs.declared.Place.{Place}
use Rattle.editions.specs.declared.Edition.{Edition}
use Rattle.tables.specs.Columns.{number}
use Rattle.tables.specs.Parts.{tables}
use Rattle.tables.specs.declared.Table.{Table}
use Rattle.book.specs.Result.{Result, refused, leaves}
use Rattle.keeping.specs.Keeping.{lawful_book}
use Rattle.header.specs.Header.{member, header_check}
use Rattle.radio.specs.Radio.{Course, stopped, going, Radio, awaits, hears, over, most_counted, kept_line, none}

-- "Numbers of refusal": those of tables that are read, whole or by radio. 12 and 13 are a slip's, 14 is the writer's, 15, 16, 22 and 23 are of
-- what is asked and lent
abbrev pub reading_numbers : List ℕ
reading_numbers = 1 ∷ 2 ∷ 3 ∷ 4 ∷ 5 ∷ 6 ∷ 7 ∷ 8 ∷ 9 ∷ 10 ∷ 11 ∷ 17 ∷ 18 ∷ 19 ∷ 20 ∷ 21 ∷ []

-- a fault that is kept has such a number, and the number of a table: "The table number belongs to each place"
abbrev pub lawful_fault : Place → Bool
lawful_fault p = member p.number reading_numbers && member p.table (map number tables)

-- the growing book keeps the book rule at every moment
abbrev pub lawful_result : Result → Bool
lawful_result (refused p) = lawful_fault p
lawful_result (leaves b) = lawful_book b

-- a header line that is kept has passed its checks
abbrev pub lawful_head : Edition → Table → ℕ → Bytes → Bool
lawful_head e t i head = whether eqb i 1 then none head else passes (header_check e t head)

-- no more lines, and bytes behind them, than bytes came; and room for the unfinished line
abbrev pub lawful_course : Table → ℕ → Course → Bool
lawful_course t n (stopped p) = lawful_fault p
lawful_course t n (going b i head rest) =
    lawful_book b
    && leb 1 i
    && leb (i + length rest) (suc n)
    && lawful_head b.edition t i head
    && leb (length rest) kept_line

unfoldable pub lawful_radio : Radio → Bool
lawful_radio (awaits t r) = lawful_result r
lawful_radio (hears t a n c) = leb a most_counted && leb n most_counted && lawful_course t n c
lawful_radio (over r) = lawful_result r
