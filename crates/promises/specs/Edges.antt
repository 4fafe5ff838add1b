-- "At the edges": the cases marked P, as one table under one claim. They are of deliveries by 2.1.
use Rattle.std.specs.Prelude.{List, [], ◌∷◌, Bool, true, ◌≡◌, ℕ, length, eqb}
use Prim.Native.String.{String, ◌++◌}
use Rattle.words.specs.Words.{bytes, same, all}
use Rattle.cells.specs.Cells.{content}
use Rattle.editions.specs.declared.Edition.TheVariants.{Dino21}
use Rattle.cell_question.specs.CellQuestion.{cell_asked, cell_paper}
use Rattle.promises.specs.Sheet.{sheet}

-- what is asked, and the answer that the paper names
pub data Case : Type 0 where
  -- the cell of that table and column in line 2 of a text: number, table, line, column; 1 and its value, or 2 and its stretch, or 3 and an
  -- equipment, or zeros
  cell : ℕ → ℕ → String → List ℕ → Case
  -- five texts, a calendar of its header alone, and no slip: the day sheet
  day : String → String → String → String → String → String → Case
  -- a cell as it stands: how many bytes its content has
  long : String → ℕ → Case

abbrev pub passes : Case → Bool
passes (cell table column s answer) = same (cell_paper (cell_asked 21 (bytes s) table 2 column)) answer
passes (day s1 s2 s3 s6 s4 out) = same (sheet Dino21 (record { types = bytes s1; depots = bytes s2; stops = bytes s3; points = bytes s6; blocks = bytes s4; days = bytes "VERSION;DAY;DAY_TYPE_NR\n" }) []) (bytes out)
passes (long s n) = eqb (length (content (bytes s))) n

-- a d2 cell, a c40 cell, a c4 cell, an ACCESS_EQUIP, each in a vehicle_type
abbrev d2 : String → String
d2 s = "VERSION;VEH_TYPE_NR\n" ++ s ++ ";4\n"

abbrev c40 : String → String
c40 s = "VERSION;VEH_TYPE_NR;VEH_TYPE_TEXT\n1;4;" ++ s ++ "\n"

abbrev c4 : String → String
c4 s = "VERSION;VEH_TYPE_NR;STR_VEH_TYPE\n1;4;" ++ s ++ "\n"

abbrev equip : String → String
equip s = "VERSION;VEH_TYPE_NR;VEH_TYPE_ACCESS_EQUIP\n1;4;" ++ s ++ "\n"

-- one block, by its first stop, its begin and its end, behind good tables
abbrev block : String → String → String → String → Case
block stop begin end out =
    day "VERSION;VEH_TYPE_NR\n1;4\n" "VERSION;DEPOT_NR\n1;3\n" "VERSION;STOP_NR;STOP_NAME\n1;20;Yard\n" "VERSION;STOP_NR;STOPPING_POINT_NR\n1;20;1\n"
    ("VERSION;DAY_TYPE_NR;DEPOT_NR;BLOCK_NR;VEH_TYP_NR;DEP_STOP_NR;DEP_STOPPING_POINT_NR;BEGIN_OF_BLOCK;ARR_STOP_NR;ARR_STOPPING_POINT_NR;END_OF_BLOCK\n1;5;3;101;4;"
    ++ stop ++ ";1;" ++ begin ++ ";20;1;" ++ end ++ "\n")
    out

unfoldable pub cases : List Case
cases =
    -- "A d2 cell: `07` has the value 7; `100` gets refusal 8; empty and required, 8; `"12"` has the value 12.": since request 4/13 too long is 20,
    -- and empty where required is 19
    cell 1 1 (d2 "07") (0 ∷ 0 ∷ 0 ∷ 0 ∷ 1 ∷ 7 ∷ 0 ∷ 0 ∷ []) ∷
    cell 1 1 (d2 "100") (20 ∷ 1 ∷ 2 ∷ 1 ∷ 0 ∷ 0 ∷ 0 ∷ 0 ∷ []) ∷
    cell 1 1 (d2 "") (19 ∷ 1 ∷ 2 ∷ 1 ∷ 0 ∷ 0 ∷ 0 ∷ 0 ∷ []) ∷
    cell 1 1 (d2 "\"12\"") (0 ∷ 0 ∷ 0 ∷ 0 ∷ 1 ∷ 12 ∷ 0 ∷ 0 ∷ []) ∷
    -- "Text `a"b` is 6; `"a""b"` fits c4 with 3 bytes; `"a` is 6." (its stretch is the 4 bytes between the quotes)
    cell 1 6 (c40 "a\"b") (6 ∷ 1 ∷ 2 ∷ 3 ∷ 0 ∷ 0 ∷ 0 ∷ 0 ∷ []) ∷
    cell 1 7 (c4 "\"a\"\"b\"") (0 ∷ 0 ∷ 0 ∷ 0 ∷ 2 ∷ 0 ∷ 38 ∷ 4 ∷ []) ∷
    long "\"a\"\"b\"" 3 ∷
    cell 1 6 (c40 "\"a") (6 ∷ 1 ∷ 2 ∷ 3 ∷ 0 ∷ 0 ∷ 0 ∷ 0 ∷ []) ∷
    -- "ACCESS_EQUIP 2 passes, 3 is 8.": since request 4/13 outside its range is 21, and since 5/13 the answer
    -- names its meaning, 3 by 2.1
    cell 1 11 (equip "2") (0 ∷ 0 ∷ 0 ∷ 0 ∷ 3 ∷ 2 ∷ 0 ∷ 0 ∷ []) ∷
    cell 1 11 (equip "3") (21 ∷ 1 ∷ 2 ∷ 11 ∷ 0 ∷ 0 ∷ 0 ∷ 0 ∷ []) ∷
    -- "END equal to BEGIN gives 0 seconds; one below is 11": since request 2/13 where either time is 86,400 or more
    block "20" "500" "500" "T\t1\t4\t0\t1\nS\t1\t1\n" ∷
    block "20" "86400" "86399" "X\t11\t4\t2\t11\n" ∷
    -- 2/13: "end plus 86,400 minus begin seconds", one below, at the ends of the day, and "Begin 80,000 and end 3,600 gives 10,000."
    block "20" "500" "499" "T\t1\t4\t86399\t1\nS\t1\t1\n" ∷
    block "20" "86399" "0" "T\t1\t4\t1\t1\nS\t1\t1\n" ∷
    block "20" "80000" "3600" "T\t1\t4\t10000\t1\nS\t1\t1\n" ∷
    -- "STOP_NR 0 is 8, column 2.": 21 too
    day (d2 "1") "VERSION;DEPOT_NR\n" "VERSION;STOP_NR;STOP_NAME\n1;0;Yard\n" "" "" "X\t21\t3\t2\t2\n" ∷
    -- "DEP_STOP_NR 100000 is well formed and then 10, column 6."
    block "100000" "500" "500" "X\t10\t4\t2\t6\n" ∷
    -- "Keys `1;07` and `1;7` collide: 9."
    day "VERSION;VEH_TYPE_NR\n1;07\n1;7\n" "" "" "" "" "X\t9\t1\t3\t0\n" ∷
    -- "Text of length 0: 2, column 1."
    day "" "" "" "" "" "X\t2\t1\t1\t1\n" ∷ []

-- the claim: each case has its answer
abbrev pub EdgesHold : Type 0
EdgesHold = all passes cases ≡ true
