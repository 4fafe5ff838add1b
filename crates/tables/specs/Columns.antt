-- The tables of columns.
use Rattle.std.specs.Prelude.{false, true, ◌||◌, Bool, ◌&&◌, not, List, [], ◌∷◌, ℕ, ◌-◌, ◌^◌, suc, eqb, leb, get_or, Option, Some, None}
use Prim.Native.String.{String}
use Rattle.words.specs.Words.{Bytes, bytes, whether◌then◌else◌, same}
use Rattle.dates.specs.Calendar.{is_date}
use Rattle.rows.specs.Rows.{row_numbers}
use Rattle.tables.specs.declared.Rules.{Rules}
use Rattle.tables.specs.declared.Sort.TheVariants.{Decimal, Text}
use Rattle.editions.specs.declared.Edition.{Edition}
use Rattle.editions.specs.declared.Edition.TheVariants.{Dino21, Dino23}
use Rattle.tables.specs.declared.Table.{Table}
use Rattle.tables.specs.declared.Table.TheVariants.{VehicleType, Depot, Stop, StopPoint, Block, Calendar}
use Rattle.tables.specs.declared.Reference.{Reference}

-- a column's names, and what its cells must keep to
pub record Column : Type 0 where
  pub name : Bytes
  pub other : Bytes
  pub rules : Rules

-- "dN: decimal of N digits". "A d column with no range named takes every number of its width, zero too."
abbrev pub d : ℕ → String → Column
d n name = record { name = bytes name; other = bytes name; rules = record { sort = Decimal; width = n; low = 0; high = 10 ^ n - 1; key = false; required = false; date = false } }

-- "cN: text of N bytes"
abbrev pub c : ℕ → String → Column
c n name = record { name = bytes name; other = bytes name; rules = record { sort = Text; width = n; low = 0; high = 0; key = false; required = false; date = false } }

-- "K: key"; every key column is required
abbrev pub K : Column → Column
K x = record { name = x.name; other = x.other; rules = record { sort = x.rules.sort; width = x.rules.width; low = x.rules.low; high = x.rules.high; key = true; required = true; date = x.rules.date } }

-- "r: required"
abbrev pub r : Column → Column
r x = record { name = x.name; other = x.other; rules = record { sort = x.rules.sort; width = x.rules.width; low = x.rules.low; high = x.rules.high; key = x.rules.key; required = true; date = x.rules.date } }

abbrev pub range : ℕ → ℕ → Column → Column
range l h x = record { name = x.name; other = x.other; rules = record { sort = x.rules.sort; width = x.rules.width; low = l; high = h; key = x.rules.key; required = x.rules.required; date = x.rules.date } }

-- "day (d8, YYYYMMDD, Gregorian)": its numbers are dates
abbrev pub date : Column → Column
date x = record { name = x.name; other = x.other; rules = record { sort = x.rules.sort; width = x.rules.width; low = x.rules.low; high = x.rules.high; key = x.rules.key; required = x.rules.required; date = true } }

-- "Two other spellings are read as the same column"
abbrev pub also : String → Column → Column
also n x = record { name = x.name; other = bytes n; rules = x.rules }

-- "VERSION is 1 to 99 everywhere."
abbrev pub version : Column
version = K (range 1 99 (d 2 "VERSION"))

-- "2 STOP_NR (both as in stop)"
abbrev pub stop_number : Column
stop_number = K (range 1 99999 (d 5 "STOP_NR"))

-- what differs between the editions -------------------------------------------------------------------------------------------

-- 2.3: "STOP_NAME is up to 255 bytes"
abbrev pub name_width : Edition → ℕ
name_width Dino21 = 50
name_width Dino23 = 255

-- "VEH_TYPE_ACCESS_EQUIP is a set of flags 1 lift, 2 ramp, 4 multi-purpose space, so 0 to 7"
abbrev pub equip_high : Edition → ℕ
equip_high Dino21 = 2
equip_high Dino23 = 7

-- "VEH_DELFI_TYPE c10 is an optional column 12 of vehicle_type"
abbrev pub delfi_type : Edition → List Column
delfi_type Dino21 = []
delfi_type Dino23 = c 10 "VEH_DELFI_TYPE" ∷ []

-- "a block's two stop numbers are d5, 1 to 99999"
abbrev pub block_stop : Edition → String → Column
block_stop Dino21 name = r (d 6 name)
block_stop Dino23 name = r (range 1 99999 (d 5 name))

-- the columns ------------------------------------------------------------------------------------------------------------------

unfoldable pub columns_of : Edition → Table → List Column
columns_of e VehicleType =
    version ∷
    K (d 8 "VEH_TYPE_NR") ∷
    d 3 "VEH_TYPE_SEATS" ∷
    d 3 "VEH_TYPE_STRAPS" ∷
    also "HANDICAP_PLACES" (d 3 "PLACES_FOR_DISABLED_PERSONS") ∷
    c 40 "VEH_TYPE_TEXT" ∷
    c 4 "STR_VEH_TYPE" ∷
    d 4 "VEH_TYPE_DOOR_WIDTH" ∷
    d 4 "VEH_TYPE_WIDTH" ∷
    d 4 "VEH_TYPE_HEIGHT" ∷
    range 0 (equip_high e) (d 1 "VEH_TYPE_ACCESS_EQUIP") ∷
    delfi_type e
columns_of e Depot =
    version ∷
    K (d 5 "DEPOT_NR") ∷ []
columns_of e Stop =
    version ∷
    stop_number ∷
    r (c (name_width e) "STOP_NAME") ∷ []
columns_of e StopPoint =
    version ∷
    stop_number ∷
    K (d 2 "STOPPING_POINT_NR") ∷ []
columns_of e Block =
    version ∷
    K (d 9 "DAY_TYPE_NR") ∷
    K (d 5 "DEPOT_NR") ∷
    K (d 8 "BLOCK_NR") ∷
    also "VEH_TYPE_NR" (r (d 2 "VEH_TYP_NR")) ∷
    block_stop e "DEP_STOP_NR" ∷
    r (d 2 "DEP_STOPPING_POINT_NR") ∷
    r (d 6 "BEGIN_OF_BLOCK") ∷
    block_stop e "ARR_STOP_NR" ∷
    r (d 2 "ARR_STOPPING_POINT_NR") ∷
    r (d 6 "END_OF_BLOCK") ∷ []
columns_of e Calendar =
    version ∷
    K (date (d 8 "DAY")) ∷
    r (d 9 "DAY_TYPE_NR") ∷ []

-- "with these numbers: 1 vehicle_type, 2 depot, 3 stop, 4 vehicle_block", and stop_point "takes number 6"; 5 is the slip's, and day_type_calendar is "table 7"
abbrev pub number : Table → ℕ
number VehicleType = 1
number Depot = 2
number Stop = 3
number StopPoint = 6
number Block = 4
number Calendar = 7

-- the table of a number
abbrev pub numbered : ℕ → Option Table
numbered n =
    whether eqb n 1 then Some VehicleType
    else whether eqb n 2 then Some Depot
    else whether eqb n 3 then Some Stop
    else whether eqb n 4 then Some Block
    else whether eqb n 6 then Some StopPoint
    else whether eqb n 7 then Some Calendar
    else None

-- how many columns are keys, which come first
abbrev pub key_width : Table → ℕ
key_width VehicleType = 2
key_width Depot = 2
key_width Stop = 2
key_width StopPoint = 3
key_width Block = 4
key_width Calendar = 2

-- "The book holds the keys of tables 1 to 3 and the 11 numbers of each block", the keys of stop points, and all three numbers of a day: how many of
-- a row's numbers it keeps
abbrev pub kept_width : Table → ℕ
kept_width VehicleType = key_width VehicleType
kept_width Depot = key_width Depot
kept_width Stop = key_width Stop
kept_width StopPoint = key_width StopPoint
kept_width Block = row_numbers
kept_width Calendar = 3

-- a column and the table in which its number stands, "each together with VERSION"
abbrev pub ref : ℕ → Table → Reference
ref k t = record { column = k; to = t }

-- "References of a block: column 3 to depot, 5 to vehicle_type, 6 and 9 to stop." "A stop point must name a known stop, and columns 6 with 7
-- and 9 with 10 of a block must name a known point": "column 7 or 10, after the stop's own; for a stop point, column 2"
abbrev pub references : Table → List Reference
references VehicleType = []
references Depot = []
references Stop = []
references StopPoint = ref 2 Stop ∷ []
references Block = ref 3 Depot ∷ ref 5 VehicleType ∷ ref 6 Stop ∷ ref 7 StopPoint ∷ ref 9 Stop ∷ ref 10 StopPoint ∷ []
references Calendar = []

-- names --------------------------------------------------------------------------------------------------------------------

-- the number of the column of that name, the first of the list being number k; 0 for an unknown one
unfoldable pub column_from : ℕ → List Column → Bytes → ℕ
column_from k [] name = 0
column_from k (x ∷ xs) name = whether same name x.name || same name x.other then k else column_from (suc k) xs name

-- "Header names are compared byte for byte, in any column order. Unknown columns, unnamed ones too, are passed over"
unfoldable pub column_number : Edition → Table → Bytes → ℕ
column_number e t name = column_from 1 (columns_of e t) name

-- contents -----------------------------------------------------------------------------------------------------------------

-- the numbers of a column: those of its range, and where they are days "a date of the years 1600 to 9999"
abbrev pub in_range : Rules → ℕ → Bool
in_range x n = leb x.low n && leb n x.high && (not x.date || is_date n)

-- asked by number ----------------------------------------------------------------------------------------------------------

-- the column at place i, counted from 0; past the last there is none
abbrev pub no_column : Column
no_column = c 0 ""

abbrev pub column_at : Edition → Table → ℕ → Column
column_at e t i = get_or (columns_of e t) i no_column
