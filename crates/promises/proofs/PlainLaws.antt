-- A table in its plainest form: the required columns alone, numbers with no leading zeros. A row in that form is read as itself, and meets
-- only 5, 11, 9 and 10. Of the blocks it is the writer's form. Assumes nothing.
use mathlib.Core.List.{List, [], ◌∷◌, map, ◌++◌}
use mathlib.Core.Path.{◌≡◌, refl, sym, ◌∙◌, ap}
use mathlib.Core.Bool.{true}
use Prim.Native.Nat.{ℕ, zero, suc, ◌^◌, ◌<◌, ◌+◌, ◌≤◌}
use native.Mathlib.Omega.{arith}
use lib.ListN.{take, length, drop, length-map, length-append}
use lib.Dec.{lit<}
use lib.Seq.{length-take-le, take_at}
use borrow.Author.Tests.{le-ltb, eq-eqb}
use Rattle.words.specs.Words.{whether◌then◌else◌, Bytes, Row}
use Rattle.words.proofs.Lists.{and_left, and_right}
use Rattle.refusals.proofs.Chaining.{both}
use Rattle.std.specs.Prelude.{Ok}
use Rattle.refusals.specs.Verdicts.{◌when◌, ◌⊳◌, too_many_rows}
use Rattle.lines.specs.Lines.{most_line}
use Rattle.cells.specs.Cells.{parted, content, cut, cells, cells_of}
use Rattle.numbers.specs.Numbers.{decimal, value}
use Rattle.numbers.proofs.Writing.{decimal_digits, read_back, decimal_width}
use Rattle.rows.specs.Rows.{wide}
use Rattle.editions.specs.declared.Edition.{Edition}
use Rattle.editions.specs.declared.Edition.TheVariants.{Dino21, Dino23}
use Rattle.ranges.proofs.Ranges.{range_within}
use Rattle.tables.specs.Columns.{Column, columns_of, kept_width, in_range}
use Rattle.tables.specs.declared.Table.{Table}
use Rattle.tables.specs.declared.Table.TheVariants.{VehicleType, Depot, Stop, StopPoint, Block, Calendar}
use Rattle.tables.specs.declared.Sort.TheVariants.{Decimal}
use Rattle.tables.proofs.Figures.{kept_few, keys_some, keys_kept, kept_columns}
use Rattle.values.specs.Values.{bad_cell, cell_check}
use Rattle.values.proofs.Values.{check_kept, number_in_range}
use Rattle.book.specs.Book.{Book, full}
use Rattle.rules.specs.Rules.{ruled}
use Rattle.keeping.specs.Keeping.{ranged}
use Rattle.header.specs.Header.{Header, contents, contents_from, under, header_check, header}
use Rattle.row_line.specs.RowLine.{row_read}
use Rattle.table_lines.specs.Reading.{judged}
use Rattle.writer.specs.Writing.{lines_written, names_line, row_line}
use Rattle.promises.specs.Run.{computed}
use Rattle.promises.proofs.NumberLaws.{cell_good, digits_plain, digits_unbroken}
use Rattle.promises.proofs.CutLaws.{EachPlain, AllPlain, cut_parted}
use Rattle.promises.proofs.Writing.{digits_content}
use Rattle.promises.proofs.LineLaws.{Unbroken, EachUnbroken, unbroken_append, unbroken_test, tested}

-- the form ----------------------------------------------------------------------------------------------------------------

unfoldable pub required_of : List Column → List Column
required_of [] = []
required_of (x ∷ xs) = whether x.rules.required then x ∷ required_of xs else required_of xs

abbrev pub plain_names : Table → Bytes
plain_names t = parted 59 (map (λ x. x.name) (required_of (columns_of Dino21 t)))

abbrev pub plain_header : Table → Header
plain_header VehicleType = 1 ∷ 2 ∷ []
plain_header Depot = 1 ∷ 2 ∷ []
plain_header Stop = 1 ∷ 2 ∷ 3 ∷ []
plain_header StopPoint = 1 ∷ 2 ∷ 3 ∷ []
plain_header Block = 1 ∷ 2 ∷ 3 ∷ 4 ∷ 5 ∷ 6 ∷ 7 ∷ 8 ∷ 9 ∷ 10 ∷ 11 ∷ []
plain_header Calendar = 1 ∷ 2 ∷ 3 ∷ []

-- what stands behind the numbers that the book keeps: a stop's name
abbrev pub behind : Table → List Bytes
behind VehicleType = []
behind Depot = []
behind Stop = (120 ∷ []) ∷ []
behind StopPoint = []
behind Block = []
behind Calendar = []

abbrev pub plain_cells : Table → Row → List Bytes
plain_cells t row = map decimal (take (kept_width t) row) ++ behind t

abbrev pub plain_line : Table → Row → Bytes
plain_line t row = parted 59 (plain_cells t row)

abbrev pub plain_text : Table → List Row → Bytes
plain_text t ys = lines_written (plain_names t ∷ map (plain_line t) ys)

-- eleven numbers ----------------------------------------------------------------------------------------------------------

pub data Eleven : Row → Type 0 where
  eleven : (a b c d e f g h i j k : ℕ) → Eleven (a ∷ b ∷ c ∷ d ∷ e ∷ f ∷ g ∷ h ∷ i ∷ j ∷ k ∷ [])

pub eleven_long : (row : Row) → length row ≡ 11 → Eleven row
eleven_long [] h = absurd (omega arith)
eleven_long (a ∷ []) h = absurd (omega arith)
eleven_long (a ∷ b ∷ []) h = absurd (omega arith)
eleven_long (a ∷ b ∷ c ∷ []) h = absurd (omega arith)
eleven_long (a ∷ b ∷ c ∷ d ∷ []) h = absurd (omega arith)
eleven_long (a ∷ b ∷ c ∷ d ∷ e ∷ []) h = absurd (omega arith)
eleven_long (a ∷ b ∷ c ∷ d ∷ e ∷ f ∷ []) h = absurd (omega arith)
eleven_long (a ∷ b ∷ c ∷ d ∷ e ∷ f ∷ g ∷ []) h = absurd (omega arith)
eleven_long (a ∷ b ∷ c ∷ d ∷ e ∷ f ∷ g ∷ h₁ ∷ []) h = absurd (omega arith)
eleven_long (a ∷ b ∷ c ∷ d ∷ e ∷ f ∷ g ∷ h₁ ∷ i ∷ []) h = absurd (omega arith)
eleven_long (a ∷ b ∷ c ∷ d ∷ e ∷ f ∷ g ∷ h₁ ∷ i ∷ j ∷ []) h = absurd (omega arith)
eleven_long (a ∷ b ∷ c ∷ d ∷ e ∷ f ∷ g ∷ h₁ ∷ i ∷ j ∷ k ∷ []) h = eleven a b c d e f g h₁ i j k
eleven_long (a ∷ b ∷ c ∷ d ∷ e ∷ f ∷ g ∷ h₁ ∷ i ∷ j ∷ k ∷ l ∷ ls) h = absurd (omega arith)

long_eleven : (row : Row) → Eleven row → length row ≡ 11
long_eleven row (eleven a b c d e f g h i j k) = refl

-- of the blocks it is the writer's form
pub plain_names_block : plain_names Block ≡ names_line
unfolding computed required_of
plain_names_block = refl

pub plain_line_block : (row : Row) → Eleven row → plain_line Block row ≡ row_line row
plain_line_block row (eleven a b c d e f g h i j k) = refl

-- the columns that the book keeps ----------------------------------------------------------------------------------------

-- the first n columns are d columns, required, each of whose range is within its width
unfoldable pub Numeric : ℕ → List Column → Type 0
Numeric zero xs = Unit {0}
Numeric (suc n) [] = Unit {0}
Numeric (suc n) (x ∷ xs) =
    ((w : ℕ) × (x.rules.sort ≡ Decimal) × (x.rules.required ≡ true) × (x.rules.width ≡ suc w) × (x.rules.high < 10 ^ suc w)) × Numeric n xs

pub kept_numeric : (ed : Edition) (t : Table) → Numeric (kept_width t) (columns_of ed t)
unfolding Numeric columns_of
kept_numeric ed VehicleType = ((1, refl, refl, refl, lit< tt), ((7, refl, refl, refl, lit< tt), tt))
kept_numeric ed Depot = ((1, refl, refl, refl, lit< tt), ((4, refl, refl, refl, lit< tt), tt))
kept_numeric ed Stop = ((1, refl, refl, refl, lit< tt), ((4, refl, refl, refl, lit< tt), tt))
kept_numeric ed StopPoint = ((1, refl, refl, refl, lit< tt), ((4, refl, refl, refl, lit< tt), ((1, refl, refl, refl, lit< tt), tt)))
kept_numeric ed Calendar = ((1, refl, refl, refl, lit< tt), ((7, refl, refl, refl, lit< tt), ((8, refl, refl, refl, lit< tt), tt)))
kept_numeric Dino21 Block = (
  (1, refl, refl, refl, lit< tt),
  (
    (8, refl, refl, refl, lit< tt),
    (
      (4, refl, refl, refl, lit< tt),
      (
        (7, refl, refl, refl, lit< tt),
        (
          (1, refl, refl, refl, lit< tt),
          (
            (5, refl, refl, refl, lit< tt),
            (
              (1, refl, refl, refl, lit< tt),
              (
                (5, refl, refl, refl, lit< tt),
                ((5, refl, refl, refl, lit< tt), ((1, refl, refl, refl, lit< tt), ((5, refl, refl, refl, lit< tt), tt))),
              ),
            ),
          ),
        ),
      ),
    ),
  ),
)
kept_numeric Dino23 Block = (
  (1, refl, refl, refl, lit< tt),
  (
    (8, refl, refl, refl, lit< tt),
    (
      (4, refl, refl, refl, lit< tt),
      (
        (7, refl, refl, refl, lit< tt),
        (
          (1, refl, refl, refl, lit< tt),
          (
            (4, refl, refl, refl, lit< tt),
            (
              (1, refl, refl, refl, lit< tt),
              (
                (5, refl, refl, refl, lit< tt),
                ((4, refl, refl, refl, lit< tt), ((1, refl, refl, refl, lit< tt), ((5, refl, refl, refl, lit< tt), tt))),
              ),
            ),
          ),
        ),
      ),
    ),
  ),
)

-- numbers in their columns' ranges have no fault
good_cells : (k : ℕ) (xs : List Column) (ns : Row) (rest : List Bytes) → Numeric (length ns) xs → ranged xs ns ≡ true →
    bad_cell (k + length ns) (drop (length ns) xs) rest ≡ Ok tt → bad_cell k xs (map decimal ns ++ rest) ≡ Ok tt
unfolding bad_cell Numeric ranged
good_cells k xs [] rest h r e = let z : k + 0 ≡ k = omega arith in rw z at e
good_cells k [] (n ∷ ns) rest h r e = refl
good_cells k (x ∷ xs) (n ∷ ns) rest h r e =
    let here = and_left (in_range x.rules n) (ranged xs ns) r in
    let high : n ≤ x.rules.high = (range_within x.rules n here).1 in
    let within : n < 10 ^ suc h.0.0 = omega (arith, h.0.4) in
    let on : k + length (n ∷ ns) ≡ suc k + length ns = omega arith in
    rw (cell_good k x.rules h.0.0 n h.0.1 h.0.3 within here)
    (good_cells (suc k) xs ns rest h.1 (and_right (in_range x.rules n) (ranged xs ns) r) (rw on at e))

-- and where there is none, the numbers are in their columns' ranges
pub cells_ranged : (n k : ℕ) (xs : List Column) (ss : List Bytes) → Numeric n xs → bad_cell k xs ss ≡ Ok tt → ranged xs (map value (take n ss)) ≡ true
unfolding bad_cell Numeric ranged
cells_ranged zero k [] ss a h = refl
cells_ranged zero k (x ∷ xs) ss a h = refl
cells_ranged (suc n) k [] ss a h = refl
cells_ranged (suc n) k (x ∷ xs) [] a h = refl
cells_ranged (suc n) k (x ∷ xs) (s ∷ ss) a h =
    let t = both (cell_check k x.rules s) (bad_cell (suc k) xs ss) h in
    rw (number_in_range x.rules s a.0.1 a.0.2 (check_kept k x.rules s t.0), cells_ranged n (suc k) xs ss a.1 t.1)

-- a row in the plain form ------------------------------------------------------------------------------------------------

plain_decimals : (row : Row) (rest : List Bytes) → EachPlain rest → EachPlain (map decimal row ++ rest)
unfolding EachPlain
plain_decimals [] rest h = h
plain_decimals (n ∷ ns) rest h = (digits_plain (decimal n) (decimal_digits n), plain_decimals ns rest h)

content_decimals : (row : Row) → map content (map decimal row) ≡ map decimal row
content_decimals [] = refl
content_decimals (n ∷ ns) = rw (digits_content (decimal n) (decimal_digits n), content_decimals ns)

value_decimals : (row : Row) → map value (map decimal row) ≡ row
value_decimals [] = refl
value_decimals (n ∷ ns) = rw (read_back n, value_decimals ns)

plain_behind : (t : Table) → EachPlain (behind t)
unfolding EachPlain AllPlain
plain_behind VehicleType = tt
plain_behind Depot = tt
plain_behind Stop = ((refl, tt), tt)
plain_behind StopPoint = tt
plain_behind Block = tt
plain_behind Calendar = tt

-- as many numbers as the book keeps
pub kept_long : (t : Table) (row : Row) → Eleven row → length (take (kept_width t) row) ≡ kept_width t
kept_long t row e = length-take-le (kept_width t) row (omega (arith, kept_few t, long_eleven row e))

cut_cells : (ed : Edition) (ns : Row) (rest : List Bytes) → 1 ≤ length ns → EachPlain rest → cut ed (parted 59 (map decimal ns ++ rest)) ≡ cells (map decimal ns ++ rest)
cut_cells ed [] rest n h = absurd (omega arith)
cut_cells ed (m ∷ ms) rest n h = cut_parted ed (decimal m) (map decimal ms ++ rest) (plain_decimals (m ∷ ms) rest h)

cut_plain : (ed : Edition) (t : Table) (row : Row) → Eleven row → cut ed (plain_line t row) ≡ cells (plain_cells t row)
cut_plain ed t row e = cut_cells ed (take (kept_width t) row) (behind t) (omega (arith, kept_long t row e, keys_some t, keys_kept t)) (plain_behind t)

-- the contents behind the numbers: of a vehicle_type the optional columns, which are empty
abbrev absent : Edition → Table → List Bytes
absent Dino21 VehicleType = [] ∷ [] ∷ [] ∷ [] ∷ [] ∷ [] ∷ [] ∷ [] ∷ [] ∷ []
absent Dino23 VehicleType = [] ∷ [] ∷ [] ∷ [] ∷ [] ∷ [] ∷ [] ∷ [] ∷ [] ∷ [] ∷ []
absent ed Depot = []
absent ed Stop = behind Stop
absent ed StopPoint = []
absent ed Block = []
absent ed Calendar = []

contents_cells : (ed : Edition) (t : Table) (row : Row) → Eleven row → contents ed t (plain_header t) (plain_cells t row) ≡ map content (map decimal (take (kept_width t) row)) ++ absent ed t
unfolding contents_from under columns_of
contents_cells Dino21 VehicleType row (eleven a b c d e f g h i j k) = refl
contents_cells Dino23 VehicleType row (eleven a b c d e f g h i j k) = refl
contents_cells Dino21 Depot row (eleven a b c d e f g h i j k) = refl
contents_cells Dino23 Depot row (eleven a b c d e f g h i j k) = refl
contents_cells Dino21 Stop row (eleven a b c d e f g h i j k) = refl
contents_cells Dino23 Stop row (eleven a b c d e f g h i j k) = refl
contents_cells Dino21 StopPoint row (eleven a b c d e f g h i j k) = refl
contents_cells Dino23 StopPoint row (eleven a b c d e f g h i j k) = refl
contents_cells Dino21 Block row (eleven a b c d e f g h i j k) = refl
contents_cells Dino23 Block row (eleven a b c d e f g h i j k) = refl
contents_cells Dino21 Calendar row (eleven a b c d e f g h i j k) = refl
contents_cells Dino23 Calendar row (eleven a b c d e f g h i j k) = refl

contents_plain : (ed : Edition) (t : Table) (row : Row) → Eleven row → contents ed t (plain_header t) (plain_cells t row) ≡ map decimal (take (kept_width t) row) ++ absent ed t
contents_plain ed t row e = contents_cells ed t row e ∙ ap (λ (l : List Bytes). l ++ absent ed t) (content_decimals (take (kept_width t) row))

absent_good : (ed : Edition) (t : Table) → bad_cell (1 + kept_width t) (drop (kept_width t) (columns_of ed t)) (absent ed t) ≡ Ok tt
unfolding bad_cell columns_of
absent_good Dino21 VehicleType = refl
absent_good Dino23 VehicleType = refl
absent_good Dino21 Depot = refl
absent_good Dino23 Depot = refl
absent_good Dino21 Stop = refl
absent_good Dino23 Stop = refl
absent_good Dino21 StopPoint = refl
absent_good Dino23 StopPoint = refl
absent_good Dino21 Block = refl
absent_good Dino23 Block = refl
absent_good Dino21 Calendar = refl
absent_good Dino23 Calendar = refl

kept_values : (ed : Edition) (t : Table) (row : Row) → Eleven row → map value (take (kept_width t) (map decimal (take (kept_width t) row) ++ absent ed t)) ≡ take (kept_width t) row
kept_values ed t row e =
    let ns : Row = take (kept_width t) row in
    ap (map value) (take_at (map decimal ns) (absent ed t) (kept_width t) (length-map ns decimal ∙ kept_long t row e)) ∙ value_decimals ns

pub row_read_lem : (ed : Edition) (t : Table) (row : Row) → Eleven row → row ≡ wide (take (kept_width t) row) → row_read ed t (plain_header t) (plain_line t row) ≡ row
row_read_lem ed t row e s = rw (cut_plain ed t row e, contents_plain ed t row e, kept_values ed t row e) (sym s)

cut_counted : (t : Table) (row : Row) → Eleven row → length (plain_cells t row) ≡ length (plain_header t)
cut_counted VehicleType row (eleven a b c d e f g h i j k) = refl
cut_counted Depot row (eleven a b c d e f g h i j k) = refl
cut_counted Stop row (eleven a b c d e f g h i j k) = refl
cut_counted StopPoint row (eleven a b c d e f g h i j k) = refl
cut_counted Block row (eleven a b c d e f g h i j k) = refl
cut_counted Calendar row (eleven a b c d e f g h i j k) = refl

-- no line end in what is written ------------------------------------------------------------------------------------------

unbroken_parted : (cs : List Bytes) → EachUnbroken cs → Unbroken (parted 59 cs)
unfolding parted Unbroken EachUnbroken
unbroken_parted [] h = tt
unbroken_parted (c ∷ []) h = h.0
unbroken_parted (c ∷ (e ∷ es)) h = unbroken_append c (59 ∷ parted 59 (e ∷ es)) h.0 (refl, refl, refl, unbroken_parted (e ∷ es) h.1)

unbroken_decimals : (row : Row) (rest : List Bytes) → EachUnbroken rest → EachUnbroken (map decimal row ++ rest)
unfolding EachUnbroken
unbroken_decimals [] rest h = h
unbroken_decimals (n ∷ ns) rest h = (digits_unbroken (decimal n) (decimal_digits n), unbroken_decimals ns rest h)

unbroken_behind : (t : Table) → EachUnbroken (behind t)
unfolding EachUnbroken Unbroken
unbroken_behind VehicleType = tt
unbroken_behind Depot = tt
unbroken_behind Stop = ((refl, refl, refl, tt), tt)
unbroken_behind StopPoint = tt
unbroken_behind Block = tt
unbroken_behind Calendar = tt

pub unbroken_line : (t : Table) (row : Row) → Unbroken (plain_line t row)
unbroken_line t row = unbroken_parted (plain_cells t row) (unbroken_decimals (take (kept_width t) row) (behind t) (unbroken_behind t))

pub unbroken_rows : (t : Table) (ys : List Row) → EachUnbroken (map (plain_line t) ys)
unfolding EachUnbroken
unbroken_rows t [] = tt
unbroken_rows t (y ∷ ys) = (unbroken_line t y, unbroken_rows t ys)

names_tested : (t : Table) → unbroken_test (plain_names t) ≡ true
unfolding computed required_of unbroken_test
names_tested VehicleType = refl
names_tested Depot = refl
names_tested Stop = refl
names_tested StopPoint = refl
names_tested Block = refl
names_tested Calendar = refl

pub unbroken_plain : (t : Table) (ys : List Row) → EachUnbroken (plain_names t ∷ map (plain_line t) ys)
unfolding EachUnbroken
unbroken_plain t ys = (tested (plain_names t) (names_tested t), unbroken_rows t ys)

-- the names ---------------------------------------------------------------------------------------------------------------

pub names_good : (ed : Edition) (t : Table) → header_check ed t (plain_names t) ≡ Ok tt
unfolding computed required_of
names_good Dino21 VehicleType = refl
names_good Dino23 VehicleType = refl
names_good Dino21 Depot = refl
names_good Dino23 Depot = refl
names_good Dino21 Stop = refl
names_good Dino23 Stop = refl
names_good Dino21 StopPoint = refl
names_good Dino23 StopPoint = refl
names_good Dino21 Block = refl
names_good Dino23 Block = refl
names_good Dino21 Calendar = refl
names_good Dino23 Calendar = refl

pub names_read : (ed : Edition) (t : Table) → header ed t (cells_of (cut ed (plain_names t))) ≡ plain_header t
unfolding computed required_of
names_read Dino21 VehicleType = refl
names_read Dino23 VehicleType = refl
names_read Dino21 Depot = refl
names_read Dino23 Depot = refl
names_read Dino21 Stop = refl
names_read Dino23 Stop = refl
names_read Dino21 StopPoint = refl
names_read Dino23 StopPoint = refl
names_read Dino21 Block = refl
names_read Dino23 Block = refl
names_read Dino21 Calendar = refl
names_read Dino23 Calendar = refl

-- the size of what is written ---------------------------------------------------------------------------------------------

-- the room that the first n columns take, with a byte behind each
unfoldable room : ℕ → List Column → ℕ
room zero xs = 0
room (suc n) [] = 0
room (suc n) (x ∷ xs) = x.rules.width + 1 + room n xs

-- and that cells take
unfoldable cell_room : List Bytes → ℕ
cell_room [] = 0
cell_room (c ∷ cs) = length c + 1 + cell_room cs

parted_short : (cs : List Bytes) → length (parted 59 cs) ≤ cell_room cs
unfolding parted cell_room
parted_short [] = omega arith
parted_short (c ∷ []) = omega arith
parted_short (c ∷ (e ∷ es)) = rw length-append (omega (arith, parted_short (e ∷ es)))

row_short : (xs : List Column) (row : Row) (rest : List Bytes) → Numeric (length row) xs → ranged xs row ≡ true → length row ≤ length xs →
    cell_room (map decimal row ++ rest) ≤ room (length row) xs + cell_room rest
unfolding cell_room room Numeric ranged
row_short xs [] rest h r n = omega arith
row_short [] (m ∷ ms) rest h r n = absurd (omega arith)
row_short (x ∷ xs) (m ∷ ms) rest h r n =
    let high : m ≤ x.rules.high = (range_within x.rules m (and_left (in_range x.rules m) (ranged xs ms) r)).1 in
    let within : m < 10 ^ suc h.0.0 = omega (arith, h.0.4) in
    let on = row_short xs ms rest h.1 (and_right (in_range x.rules m) (ranged xs ms) r) (omega arith) in
    omega (arith, decimal_width h.0.0 m within, h.0.3, on)

line_room_lem : (ed : Edition) (t : Table) → room (kept_width t) (columns_of ed t) + cell_room (behind t) ≤ 65
unfolding room cell_room columns_of
line_room_lem Dino21 VehicleType = omega arith
line_room_lem Dino23 VehicleType = omega arith
line_room_lem Dino21 Depot = omega arith
line_room_lem Dino23 Depot = omega arith
line_room_lem Dino21 Stop = omega arith
line_room_lem Dino23 Stop = omega arith
line_room_lem Dino21 StopPoint = omega arith
line_room_lem Dino23 StopPoint = omega arith
line_room_lem Dino21 Block = omega arith
line_room_lem Dino23 Block = omega arith
line_room_lem Dino21 Calendar = omega arith
line_room_lem Dino23 Calendar = omega arith

pub line_short : (ed : Edition) (t : Table) (row : Row) → Eleven row → ranged (columns_of ed t) (take (kept_width t) row) ≡ true → length (plain_line t row) ≤ 65
line_short ed t row e r =
    let n : length (take (kept_width t) row) ≡ kept_width t = kept_long t row e in
    let short : cell_room (plain_cells t row) ≤ room (kept_width t) (columns_of ed t) + cell_room (behind t) =
    rw n at (row_short (columns_of ed t) (take (kept_width t) row) (behind t) (rw n (kept_numeric ed t)) r (rw n (kept_columns ed t))) in
    omega (arith, parted_short (plain_cells t row), short, line_room_lem ed t)

pub names_short : (t : Table) → length (plain_names t) ≤ 144
unfolding computed required_of
names_short VehicleType = omega arith
names_short Depot = omega arith
names_short Stop = omega arith
names_short StopPoint = omega arith
names_short Block = omega arith
names_short Calendar = omega arith

-- a plain line has no fault of its own: 17 is never given for it
pub row_judged : (t : Table) (row : Row) (b : Book) → Eleven row → row ≡ wide (take (kept_width t) row) → ranged (columns_of b.edition t) (take (kept_width t) row) ≡ true →
    judged t (plain_header t) (plain_line t row) b ≡ too_many_rows when full t b ⊳ ruled t row b
unfolding judged
row_judged t row b e s r =
    let ed = b.edition in
    let n : length (take (kept_width t) row) ≡ kept_width t = kept_long t row e in
    let good : bad_cell 1 (columns_of ed t) (map decimal (take (kept_width t) row) ++ absent ed t) ≡ (Ok tt) =
    good_cells 1 (columns_of ed t) (take (kept_width t) row) (absent ed t) (rw n (kept_numeric ed t)) r (rw n (absent_good ed t)) in
    let short : length (plain_line t row) ≤ 65 = line_short ed t row e r in
    rw (le-ltb most_line (length (plain_line t row)) (omega arith), cut_plain ed t row e, cut_counted t row e, eq-eqb (length (plain_header t)) (length (plain_header t)) refl, contents_plain ed t row e, good, kept_values ed t row e, ← s)
