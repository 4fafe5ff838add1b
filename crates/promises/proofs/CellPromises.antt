-- Demand 2: the question for a cell agrees with the reading. Assumes nothing.
use mathlib.Core.Path.{◌≡◌, refl, ap, sym, ◌∙◌, subst}
use mathlib.Core.List.{List, [], ◌∷◌, map}
use mathlib.Core.Bool.{false, Bool, true, not}
use Prim.Native.Nat.{ℕ, zero, suc, ◌+◌, ◌<◌, ◌≤◌, ◌-◌}
use native.Mathlib.Omega.{arith}
use lib.ListN.{length, get_or, take, replicate, length-map, get_or-append, get_or-map}
use lib.Dec.{eqb, ltb}
use lib.Seq.{get_or-take, length-take-le}
use borrow.Author.Tests.{ne_eqb, le-ltb}
use Rattle.words.specs.Words.{Bytes, Row, whether◌then◌else◌}
use Rattle.refusals.proofs.Chaining.{both}
use Rattle.refusals.specs.Verdicts.{◌⊳◌, ◌when◌, ◌before◌, placed, too_many_rows, cell_count}
use Rattle.refusals.specs.declared.Cell.{Cell}
use Rattle.refusals.specs.declared.Cell.TheVariants.{Number}
use Rattle.lines.specs.Lines.{line_after, starts_on}
use Rattle.cells.specs.Cells.{content, cut, cells_of}
use Rattle.numbers.specs.Numbers.{value, value_from}
use Rattle.rows.specs.Rows.{column}
use Rattle.rows.proofs.Rising.{rising_true}
use Rattle.editions.specs.Editions.{choice}
use Rattle.editions.specs.declared.Edition.{Edition}
use Rattle.editions.specs.declared.Edition.TheVariants.{Dino21, Dino23}
use Rattle.tables.specs.Columns.{number, numbered, Column, no_column, columns_of, column_at, kept_width, key_width}
use Rattle.tables.specs.declared.Table.{Table}
use Rattle.tables.specs.declared.Table.TheVariants.{VehicleType, Depot, Stop, StopPoint, Block, Calendar}
use Rattle.std.specs.Prelude.{Option, Some, Ok}
use Rattle.tables.specs.declared.Rules.{Rules}
use Rattle.tables.specs.declared.Sort.{Sort}
use Rattle.tables.specs.declared.Sort.TheVariants.{Decimal}
use Rattle.tables.proofs.Figures.{kept_columns, kept_decimal, kept_required}
use Rattle.values.specs.Values.{cell_check, bad_cell}
use Rattle.values.specs.Judged.{breaks}
use Rattle.values.proofs.Values.{check_kept, kept_check}
use Rattle.book.specs.Book.{Book, full, rows}
use Rattle.book.specs.Result.{leaves}
use Rattle.rules.specs.Rules.{ruled}
use Rattle.header.specs.Header.{Header, under, contents_from, line_check, cut_check, contents, header_of, top_faults}
use Rattle.row_line.specs.RowLine.{row_read}
use Rattle.table_lines.specs.Reading.{judged}
use Rattle.table_reading.specs.Reading.{table_read}
use Rattle.delivery.specs.Delivery.{Delivery, reading}
use Rattle.cell_question.specs.CellQuestion.{answered, cell_said, is_equip, meant, first_line, line_asked, cell_at, first_above, above, cell_verdict, cell_start, table_cell, asked_of, asked_in, cell_asked, cell_paper}
use Rattle.cell_question.specs.declared.CellAnswer.{CellAnswer}
use Rattle.promises.specs.Promises.{onward, row_lines_of, row_start, row_step, row_at, text_of, CellsAccepted, CellsAgree}
use Rattle.promises.proofs.DeliveryLaws.{ReadTo, left_by}
use Rattle.promises.proofs.TextLaws.{row_on_lem}
use Rattle.promises.proofs.ExactPromises.{accepted_exactly, step_edition}
use Rattle.promises.proofs.RowPromises.{rows_exactly, found_copy, copy_at}

numbered_known : (t : Table) → numbered (number t) ≡ Some t
numbered_known VehicleType = refl
numbered_known Depot = refl
numbered_known Stop = refl
numbered_known StopPoint = refl
numbered_known Block = refl
numbered_known Calendar = refl

-- the contents of a line, one by one ---------------------------------------------------------------------------------------

contents_at : (k : ℕ) (xs : List Column) (h : Header) (cs : List Bytes) (n : ℕ) → n < length xs → get_or (contents_from k xs h cs) n [] ≡ content (under (k + n) h cs)
unfolding contents_from
contents_at k [] h cs n g = absurd (omega arith)
contents_at k (x ∷ xs) h cs zero g = let m : k + 0 ≡ k = omega arith in rw m
contents_at k (x ∷ xs) h cs (suc n) g = let m : k + suc n ≡ suc k + n = omega arith in rw m (contents_at (suc k) xs h cs n (omega arith))

contents_long : (k : ℕ) (xs : List Column) (h : Header) (cs : List Bytes) → length (contents_from k xs h cs) ≡ length xs
unfolding contents_from
contents_long k [] h cs = refl
contents_long k (x ∷ xs) h cs = ap suc (contents_long (suc k) xs h cs)

-- no column has a fault
good_at : (k : ℕ) (xs : List Column) (ss : List Bytes) (n : ℕ) → n < length xs → n < length ss → bad_cell k xs ss ≡ Ok tt →
    breaks (get_or xs n no_column).rules (get_or ss n []) ≡ false
unfolding bad_cell
good_at k [] ss n g f h = absurd (omega arith)
good_at k (x ∷ xs) [] n g f h = absurd (omega arith)
good_at k (x ∷ xs) (s ∷ ss) zero g f h = check_kept k x.rules s (both (cell_check k x.rules s) (bad_cell (suc k) xs ss) h).0
good_at k (x ∷ xs) (s ∷ ss) (suc n) g f h = good_at (suc k) xs ss n (omega arith) (omega arith) (both (cell_check k x.rules s) (bad_cell (suc k) xs ss) h).1

-- so a required cell is not empty
some_content : (x : Rules) (s : Bytes) (e : Bool) → eqb (length s) 0 ≡ e → x.required ≡ true → breaks x s ≡ false → eqb (length s) 0 ≡ false
some_content x s false e r h = e
some_content x s true e r h =
    let f = rw (e, r) at (kept_check 0 x s h) in
    let z : ◌≡◌ {A = ℕ} 0 1 = cc in let y : ⊥ = omega arith in absurd y

-- a text that is read -----------------------------------------------------------------------------------------------------------

-- nothing is wrong before its rows, and each row passes 17, 6 and 7, and 8 of each cell
record Checked (e : Edition) (t : Table) (s : Bytes) : Type 0 where
  top : top_faults e t s ≡ Ok tt
  cutting : (i : ℕ) → i < length (row_lines_of e s) → cut_check e (header_of e t s) (get_or (row_lines_of e s) i []) ≡ Ok tt
  cells : (i : ℕ) → i < length (row_lines_of e s) → bad_cell 1 (columns_of e t) (contents e t (header_of e t s) (cells_of (cut e (get_or (row_lines_of e s) i [])))) ≡ Ok tt

judged_checked : (t : Table) (h : Header) (line : Bytes) (b : Book) → judged t h line b ≡ Ok tt →
    (cut_check b.edition h line ≡ Ok tt) × (bad_cell 1 (columns_of b.edition t) (contents b.edition t h (cells_of (cut b.edition line))) ≡ Ok tt)
unfolding judged
judged_checked t h line b pass =
    let e = b.edition in
    let said = contents e t h (cells_of (cut e line)) in
    let row = row_read e t h line in
    let p5 = both (too_many_rows when full t b) (cut_check e h line ⊳ bad_cell 1 (columns_of e t) said ⊳ ruled t row b) pass in
    let p6 = both (cut_check e h line) (bad_cell 1 (columns_of e t) said ⊳ ruled t row b) p5.1 in
    (p6.0, (both (bad_cell 1 (columns_of e t) said) (ruled t row b) p6.1).0)

-- by the edition of the book on which it is read
module _ (t : Table) (s : Bytes) (b c : Book) (h : table_read t s b ≡ leaves c) where
  abbrev rows_behind_lem : List Bytes
  rows_behind_lem = row_lines_of b.edition s

  abbrev heading : Header
  heading = header_of b.edition t s

  line_checked : (i : ℕ) → i < length rows_behind_lem →
      (cut_check b.edition heading (get_or rows_behind_lem i []) ≡ Ok tt)
      × (bad_cell 1 (columns_of b.edition t) (contents b.edition t heading (cells_of (cut b.edition (get_or rows_behind_lem i [])))) ≡ Ok tt)
  line_checked i on =
      let l : Bytes = get_or rows_behind_lem i [] in
      let x : Book = onward (row_step b.edition t s) (take i rows_behind_lem) b in
      subst (λ (z : Edition). (cut_check z heading l ≡ Ok tt) × (bad_cell 1 (columns_of z t) (contents z t heading (cells_of (cut z l))) ≡ Ok tt))
      (step_edition b.edition t s (take i rows_behind_lem) b) (judged_checked t heading l x (((accepted_exactly t s b c).0 h).1.passing i on))

  table_checked : Checked b.edition t s
  table_checked = record { top = ((accepted_exactly t s b c).0 h).0; cutting = λ i on. (line_checked i on).0; cells = λ i on. (line_checked i on).1 }

-- so by 2.3 no row above a line has a fault that comes first
none_above : (e : Edition) (table line i : ℕ) (ls : List Bytes) → ((j : ℕ) → j < length ls → line_check e (get_or ls j []) ≡ Ok tt) → first_above e table line i ls ≡ Ok tt
unfolding first_above
none_above e table line i [] h = refl
none_above e table line i (l ∷ ls) h = rw (h 0 (omega arith)) (go (ltb i line) (none_above e table line (line_after e i l) ls (λ j g. h (suc j) (omega arith))))
  where
    go : (q : Bool) → first_above e table line (line_after e i l) ls ≡ Ok tt → (placed table i (Ok tt when q) before first_above e table line (line_after e i l) ls) ≡ Ok tt
    go true ih = ih
    go false ih = ih

-- 17 and 6 are first in what a row must pass
line_first : (e : Edition) (h : Header) (line : Bytes) → cut_check e h line ≡ Ok tt → line_check e line ≡ Ok tt
line_first e h line pass = (both (line_check e line) (cell_count when not (eqb (length (cells_of (cut e line))) (length h))) pass).0

clear_above : (e : Edition) (t : Table) (s : Bytes) (line : ℕ) → Checked e t s → above e t s line ≡ Ok tt
clear_above Dino21 t s line c = refl
clear_above Dino23 t s line c = none_above Dino23 (number t) line (first_line Dino23 s) (row_lines_of Dino23 s) (λ i on. line_first Dino23 (header_of Dino23 t s) (get_or (row_lines_of Dino23 s) i []) (c.cutting i on))

-- a cell of a text that is read --------------------------------------------------------------------------------------------------

-- no column that the book keeps is the access equipment
kept_plain : (t : Table) (n : ℕ) → n < kept_width t → is_equip t (suc n) ≡ false
kept_plain VehicleType n h = ne_eqb (suc n) 11 (λ k. omega arith)
kept_plain Depot n h = refl
kept_plain Stop n h = refl
kept_plain StopPoint n h = refl
kept_plain Block n h = refl
kept_plain Calendar n h = refl

module _ (e : Edition) (t : Table) (s : Bytes) (i n : ℕ) (checked : Checked e t s) (on : i < length (row_lines_of e s)) (known-column : n < length (columns_of e t)) where
  abbrev line : Bytes
  line = get_or (row_lines_of e s) i []

  abbrev at : ℕ
  at = row_start e s i

  abbrev said : List Bytes
  said = contents e t (header_of e t s) (cells_of (cut e line))

  abbrev cell : Bytes
  cell = under (suc n) (header_of e t s) (cells_of (cut e line))

  abbrev rules : Rules
  rules = (column_at e t n).rules

  -- the row is found on its line
  found_row_lem : (line_asked e at s ≡ line) × (starts_on e at (first_line e s) (row_lines_of e s) ≡ true)
  found_row_lem = row_on_lem e (first_line e s) (row_lines_of e s) i on

  -- and the cell is the one that the reading sees
  cell_same : cell_at e t s at (suc n) ≡ cell
  cell_same = ap (λ (l : Bytes). under (suc n) (header_of e t s) (cells_of (cut e l))) found_row_lem.0

  content_same : get_or said n [] ≡ content cell
  content_same =
      contents_at 1 (columns_of e t) (header_of e t s) (cells_of (cut e line)) n known-column
      ∙ (let m : 1 + n ≡ suc n = omega arith in ap (λ (k : ℕ). content (under k (header_of e t s) (cells_of (cut e line)))) m)

  good : breaks rules (content cell) ≡ false
  good =
      subst (λ (c : Bytes). breaks rules c ≡ false) content_same
      (good_at 1 (columns_of e t) said n known-column (omega (arith, known-column, contents_long 1 (columns_of e t) (header_of e t s) (cells_of (cut e line)))) (checked.cells i on))

  -- the number in the row
  row_number : n < kept_width t → column (suc n) (row_read e t (header_of e t s) line) ≡ value (content cell)
  unfolding value_from
  row_number kept =
      let m : suc n - 1 ≡ n = omega arith in
      let ns : Row = map value (take (kept_width t) said) in
      let all : length said ≡ length (columns_of e t) = contents_long 1 (columns_of e t) (header_of e t s) (cells_of (cut e line)) in
      let long : length ns ≡ kept_width t = length-map (take (kept_width t) said) value ∙ length-take-le (kept_width t) said (omega (arith, kept_columns e t)) in
      ap (λ (k : ℕ). get_or (row_read e t (header_of e t s) line) k 0) m
      ∙ get_or-append ns (replicate (11 - length ns) 0) 0 n (omega arith)
      ∙ get_or-map value (take (kept_width t) said) n []
      ∙ ap value (get_or-take (kept_width t) said n [] kept ∙ content_same)

  accepted_cell : cell_verdict e t s at (suc n) ≡ Ok tt
  unfolding cell_verdict
  accepted_cell =
      let m : suc n - 1 ≡ n = omega arith in
      let known : suc n ≤ length (columns_of e t) = omega (arith, known-column) in
      rw (
        ne_eqb (suc n) 0 (λ z. omega arith),
        le-ltb (length (columns_of e t)) (suc n) known,
        checked.top,
        clear_above e t s at checked,
        found_row_lem.1,
        found_row_lem.0,
        checked.cutting i on,
        m,
        kept_check (suc n) rules (content cell) good,
      )

  cell_number : n < kept_width t →
      meant e (is_equip t (suc n)) (cell_said (column_at e t (suc n - 1)).rules.sort (cell_start e t s at (suc n)) (cell_at e t s at (suc n))) ≡ Number (column (suc n) (row_read e t (header_of e t s) line))
  cell_number kept =
      let m : suc n - 1 ≡ n = omega arith in
      let begin : ℕ = cell_start e t s at (suc n) in
      let some : eqb (length (content cell)) 0 ≡ false = some_content rules (content cell) (eqb (length (content cell)) 0) refl (kept_required e t n kept) good in
      ap (λ (q : Bool). meant e q (cell_said (column_at e t (suc n - 1)).rules.sort begin (cell_at e t s at (suc n)))) (kept_plain t n kept)
      ∙ ap (λ (k : ℕ). cell_said (column_at e t k).rules.sort begin (cell_at e t s at (suc n))) m
      ∙ ap (λ (z : Sort). cell_said z begin (cell_at e t s at (suc n))) (kept_decimal e t n kept)
      ∙ ap (λ (z : Bytes). cell_said Decimal begin z) cell_same
      ∙ ap (λ (q : Bool). whether q then Cell.Empty else Number (value (content cell))) some
      ∙ ap (λ (z : ℕ). Number z) (sym (row_number kept))

  cell_answered : n < kept_width t → table_cell e t s at (suc n) ≡ answered (Ok tt) (Number (column (suc n) (row_read e t (header_of e t s) line)))
  unfolding table_cell
  cell_answered kept = rw accepted_cell (ap (λ (z : Cell). answered (Ok tt) z) (cell_number kept))

  cell_accepted : (table_cell e t s at (suc n)).verdict ≡ Ok tt
  unfolding table_cell
  cell_accepted = rw accepted_cell

-- the question by the edition's number and the table's
pub asked_of_lem : (n : ℕ) (e : Edition) (t : Table) (s : Bytes) (line k : ℕ) → choice n ≡ Some e → cell_asked n s (number t) line k ≡ table_cell e t s line k
unfolding cell_asked
asked_of_lem n e t s line k chosen = ap (λ (z : Option Edition). asked_in z s (number t) line k) chosen ∙ ap (λ (z : Option Table). asked_of e z s line k) (numbered_known t)

-- from the column's number to its place
module _ (n : ℕ) (e : Edition) (d : Delivery) (b : Book) (t : Table) (i : ℕ) (chosen : choice n ≡ Some e) (r : reading e d ≡ leaves b) (on : i < length (row_lines_of e (text_of t d))) where
  abbrev text : Bytes
  text = text_of t d

  text_checked : Checked e t text
  text_checked =
      let u : ReadTo e t text b = (left_by e d b r).tables t in
      subst (λ (z : Edition). Checked z t text) u.by (table_checked t text u.before u.after u.read)

  cells_at : (k : ℕ) → 1 ≤ k → k ≤ kept_width t → cell_asked n text (number t) (row_start e text i) k ≡ answered (Ok tt) (Number (column k (row_at e t text i)))
  cells_at zero low high = absurd (omega arith)
  cells_at (suc k) low high =
      asked_of_lem n e t text (row_start e text i) (suc k) chosen ∙ cell_answered e t text i k text_checked on (omega (arith, kept_columns e t)) (omega arith)

  accepted_at : (k : ℕ) → 1 ≤ k → k ≤ length (columns_of e t) → (cell_asked n text (number t) (row_start e text i) k).verdict ≡ Ok tt
  accepted_at zero low high = absurd (omega arith)
  accepted_at (suc k) low high = ap (λ (z : CellAnswer). z.verdict) (asked_of_lem n e t text (row_start e text i) (suc k) chosen) ∙ cell_accepted e t text i k text_checked on (omega arith)

pub cells_accepted : CellsAccepted
cells_accepted n e d b t i k chosen r on low high = accepted_at n e d b t i chosen r on k low high

pub cells_agree : CellsAgree
cells_agree n e d b t i k chosen r on low high =
    let s : Bytes = text_of t d in
    let x = rows_exactly e d b t r in (
      ap cell_paper (cells_at n e d b t i chosen r on k low high),
      found_copy (key_width t) (row_at e t s i) (rows t b) (rising_true (key_width t) (rows t b) ((left_by e d b r).standing t).rising)
          (omega (arith, x.2 (row_at e t s i), copy_at (row_read e t (header_of e t s)) (row_lines_of e s) i on)),
    )
