-- The question for a cell: where it begins on its line, what is said of it, and the order of its checks. Assumes nothing.
use Rattle.std.proofs.Common.{Option, Some, None}
use mathlib.Core.Path.{◌≡◌, ◌∙◌, refl, sym, ap}
use mathlib.Core.Bool.{Bool, true, false, not}
use mathlib.Core.List.{List, [], ◌∷◌}
use Prim.Native.Nat.{ℕ, ◌≤◌, ◌-◌, ◌+◌, suc, ◌<◌}
use native.Mathlib.Omega.{arith}
use lib.Dec.{eqb, ltb}
use lib.ListN.{length, get_or, length-append}
use borrow.Author.Tests.{ne_eqb, le-ltb, eqb-false, ltb-false, eq-eqb, lt-ltb}
use Rattle.std.specs.Prelude.{Option, Some, None}
use Rattle.words.specs.Words.{Bytes, whether◌then◌else◌}
use Rattle.refusals.specs.Verdicts.{placed, ◌when◌, ◌⊳◌, ◌before◌, nowhere, not_there, unknown_edition, Check, Verdict, fault}
use Rattle.refusals.specs.declared.Cell.{Cell}
use Rattle.refusals.specs.declared.Cell.TheVariants.{Empty, Number, Text, Equip21, Flags23}
use Rattle.refusals.specs.declared.Place.{Place}
use Rattle.lines.specs.Lines.{line_start, starts_on, row_on}
use Rattle.cells.specs.Cells.{content, quoted, cut, cells_of, parted, Cut, faulty, cells}
use Rattle.cells.specs.Marks.{bounds_from}
use Rattle.cells.specs.Numbered.{begin_at, MarksOf, cell_numbered}
use Rattle.cells.proofs.Marking.{bound_at, Stands}
use Rattle.cells.proofs.Numbered.{cell_bounded}
use Rattle.cells.proofs.Cutting.{cells_parted}
use Rattle.cells.proofs.Contents.{quoted_some}
use Rattle.contents.proofs.Contents.{content_le}
use Rattle.numbers.specs.Numbers.{value}
use Rattle.numbers.specs.Decimals.{decimal_of}
use Rattle.numbers.proofs.Decimals.{decimal_value}
use Rattle.editions.specs.Editions.{choice}
use Rattle.editions.specs.declared.Edition.{Edition}
use Rattle.editions.specs.declared.Edition.TheVariants.{Dino21, Dino23}
use Rattle.tables.specs.Columns.{column_at, number, columns_of, numbered, in_range}
use Rattle.tables.specs.declared.Table.{Table}
use Rattle.tables.specs.declared.Rules.{Rules}
use Rattle.tables.specs.declared.Sort.{Sort}
use Rattle.std.specs.Prelude.{Option, Some, None, Ok, Err}
use Rattle.tables.specs.declared.Sort.TheVariants as sort-is
use Rattle.values.specs.Values.{cell_check}
use Rattle.values.specs.Judged.{by_digits, by_sort, check_of, value_of}
use Rattle.values.specs.declared.Value.{Value}
use Rattle.values.specs.declared.Value.TheVariants as value-is
use Rattle.values.proofs.Values.{column_narrow, check_of_value}
use Rattle.header.specs.Header.{Header, offset, place_from, under, cut_check, header_of, top_faults}
use Rattle.header.specs.Heading.{header_places, places}
use Rattle.header.proofs.Names.{place_at}
use Rattle.row_line.proofs.Columns.{place_above, under_numbered}
use Rattle.cell_question.specs.CellQuestion.{answered, said, cell_said, meant, is_equip, first_line, rows_behind, line_asked, above, cell_at, cell_start, cell_verdict, table_cell, asked_of, asked_in, cell_asked}
use Rattle.refusals.specs.declared.Fault.{Fault}
use Rattle.cell_question.specs.declared.CellAnswer.{CellAnswer}
use Rattle.cell_question.specs.Asking.{cell_judged, row_answer, above_from}
use Rattle.cell_question.proofs.Walking.{row_inside}

-- answers ----------------------------------------------------------------------------------------------------------------------

-- a fault at a column, answered on a line of a table
pub fault_answer : (line : ℕ) (r : CellAnswer) (f : Fault) (table t n k : ℕ)
    → ((c : Cell) → r ≡ answered (placed table line (Err f)) c)
    → f ≡ fault n k → table ≡ t → r ≡ answered (placed t line (Err (fault n k))) Empty
fault_answer line r f table t n k is e q = is Empty ∙ rw (e, q)

-- a decimal column is no wider than 64 bits
pub narrow_rules : (ed : Edition) (t : Table) (i : ℕ) (x : Rules) → x ≡ (column_at ed t i).rules → x.sort ≡ sort-is.Decimal → x.width ≤ 19
narrow_rules ed t i x e = rw e (column_narrow ed t i)

-- what is said of a cell by the value that it has to its column
module _ (ed : Edition) (equip : Bool) (n line k at : ℕ) (cell : Bytes) where
  abbrev pub answered_by : Value → CellAnswer
  answered_by (value-is.Number v) = answered (Ok tt) (meant ed equip (Number v))
  answered_by value-is.Text = answered (Ok tt) (said sort-is.Text at cell)
  answered_by value-is.Empty = answered (Ok tt) Empty
  answered_by (value-is.Bad m) = answered (placed n line (Err (fault m k))) Empty

  -- an empty cell and a text are the same by every edition
  empty_meant : meant ed equip Empty ≡ Empty
  empty_meant = go equip
    where
      go : (b : Bool) → meant ed b Empty ≡ Empty
      go true = refl
      go false = refl

  text_meant : (q : Bool) → meant ed equip (whether q then Text (at + 1) (length cell - 2) else Text at (length cell)) ≡ (whether q then Text (at + 1) (length cell - 2) else Text at (length cell))
  text_meant q = go equip q
    where
      go : (b q : Bool) → meant ed b (whether q then Text (at + 1) (length cell - 2) else Text at (length cell)) ≡ (whether q then Text (at + 1) (length cell - 2) else Text at (length cell))
      go true true = refl
      go true false = refl
      go false true = refl
      go false false = refl

  by_value : (x : Rules) → answered (placed n line (cell_check k x (content cell))) (meant ed equip (cell_said x.sort at cell)) ≡ answered_by (value_of x (content cell))
  by_value x = rw (← check_of_value k x (content cell)) (by_length_lem (eqb (length (content cell)) 0) refl x.required (ltb x.width (length (content cell))) x.sort)
    where
      by_digits_lem : (d : Option ℕ) → decimal_of x.width (content cell) ≡ d → eqb (length (content cell)) 0 ≡ false
          → answered (placed n line (check_of k (by_digits x d))) (meant ed equip (cell_said sort-is.Decimal at cell)) ≡ answered_by (by_digits x d)
      by_digits_lem None p e = refl
      by_digits_lem (Some m) p e = by_range (in_range x m)
        where
          is : value (content cell) ≡ m
          is = (decimal_value x.width (content cell) m p).1

          by_range : (i : Bool) → answered (placed n line (check_of k (whether i then value-is.Number m else value-is.Bad 21))) (meant ed equip (cell_said sort-is.Decimal at cell))
              ≡ answered_by (whether i then value-is.Number m else value-is.Bad 21)
          by_range true = rw (e, is)
          by_range false = refl

      by_length_lem : (z : Bool) → eqb (length (content cell)) 0 ≡ z → (q w : Bool) (sort : Sort)
          → answered (placed n line (check_of k (whether z then (whether q then value-is.Bad 19 else value-is.Empty) else (whether w then value-is.Bad 20 else by_sort sort x (content cell))))) (meant ed equip (cell_said sort at cell))
          ≡ answered_by (whether z then (whether q then value-is.Bad 19 else value-is.Empty) else (whether w then value-is.Bad 20 else by_sort sort x (content cell)))
      by_length_lem true e true w sort = refl
      by_length_lem true e false w sort-is.Decimal = rw e (ap (answered (Ok tt)) empty_meant)
      by_length_lem true e false w sort-is.Text = rw e (ap (answered (Ok tt)) empty_meant)
      by_length_lem false e q true sort = refl
      by_length_lem false e q false sort-is.Decimal = by_digits_lem (decimal_of x.width (content cell)) refl e
      by_length_lem false e q false sort-is.Text = rw e (ap (answered (Ok tt)) (text_meant (quoted cell)))

pub judged_by : (ed : Edition) (t : Table) (line k at : ℕ) (cell : Bytes) (x : Rules) (v w : Value) → x ≡ (column_at ed t (k - 1)).rules → v ≡ value_of x (content cell) → v ≡ w
    → answered_by ed (is_equip t k) (number t) line k at cell w ≡ cell_judged ed t line k at cell
unfolding cell_judged
judged_by ed t line k at cell x v w e f g =
    rw (← g, f, ← e) (sym (by_value ed (is_equip t k) (number t) line k at cell x))

-- where a cell begins on its line -----------------------------------------------------------------------------------------------

offset_from : (i k b : ℕ) (h : Header) (cs : List Bytes) → length cs ≡ length h → (place_from i k h ≡ 0 → ⊥) → get_or (bounds_from b cs) (place_from i k h - suc i) 0 ≡ b + offset k h cs
unfolding place_from offset bounds_from
offset_from i k b [] cs l n = absurd (n refl)
offset_from i k b (x ∷ xs) [] l n = absurd (omega arith)
offset_from i k b (x ∷ xs) (c ∷ cs) l n = go (eqb k x) n (offset_from (suc i) k (b + length c + 1) xs cs (omega arith))
  where
    go : (q : Bool) → ((whether q then suc i else place_from (suc i) k xs) ≡ 0 → ⊥) → ((place_from (suc i) k xs ≡ 0 → ⊥) → get_or (bounds_from (b + length c + 1) cs) (place_from (suc i) k xs - suc (suc i)) 0 ≡ b + length c + 1 + offset k xs cs)
        → get_or (b ∷ bounds_from (b + length c + 1) cs) ((whether q then suc i else place_from (suc i) k xs) - suc i) 0 ≡ b + (whether q then 0 else length c + 1 + offset k xs cs)
    go true m ih = let e : suc i - suc i ≡ 0 = omega arith in rw e (omega arith)
    go false m ih =
        let l : suc (suc i) ≤ place_from (suc i) k xs = place_above (suc i) k xs m in
        let e : place_from (suc i) k xs - suc i ≡ suc (place_from (suc i) k xs - suc (suc i)) = omega arith in
        rw e (ih m ∙ omega arith)

place_most : (i k : ℕ) (h : Header) → place_from i k h ≤ i + length h
unfolding place_from
place_most i k [] = omega arith
place_most i k (x ∷ xs) = go (eqb k x) (place_most (suc i) k xs)
  where
    go : (q : Bool) → place_from (suc i) k xs ≤ suc i + length xs → (whether q then suc i else place_from (suc i) k xs) ≤ i + suc (length xs)
    go true ih = omega arith
    go false ih = omega arith

-- it is where the cell begins that the header names for the column
offset_begun : (ed : Edition) (k : ℕ) (h : Header) (row : Bytes) (bounds : List ℕ) (count : ℕ) → MarksOf ed row bounds count → count ≡ length h → (place_from 0 k h ≡ 0 → ⊥)
    → begin_at bounds count (place_from 0 k h) ≡ offset k h (cells_of (cut ed row))
offset_begun ed k h row bounds count m e n =
    let cs = cells_of (cut ed row) in
    let a : 1 ≤ place_from 0 k h = place_above 0 k h n in
    let p : place_from 0 k h ≤ count = omega (arith, place_most 0 k h) in
    rw (ne_eqb (place_from 0 k h) 0 n, le-ltb count (place_from 0 k h) p, bound_at cs (length bounds) bounds (place_from 0 k h - 1) m.kept (omega (arith, m.counted, m.room)) (omega (arith, m.counted)))
    (offset_from 0 k 0 h cs (m.counted ∙ e) n ∙ omega arith)

said_empty : (sort : Sort) (a b : ℕ) (cell : Bytes) → cell ≡ [] → cell_said sort a cell ≡ cell_said sort b cell
said_empty sort a b cell e = rw e

-- a column that the header lacks has an empty cell, of which nothing is said wherever it begins
said_begun : (ed : Edition) (sort : Sort) (begin k : ℕ) (h : Header) (row : Bytes) (bounds : List ℕ) (count : ℕ) → MarksOf ed row bounds count → count ≡ length h
    → cell_said sort (begin + begin_at bounds count (place_from 0 k h)) (under k h (cells_of (cut ed row))) ≡ cell_said sort (begin + offset k h (cells_of (cut ed row))) (under k h (cells_of (cut ed row)))
said_begun ed sort begin k h row bounds count m e = go (eqb (place_from 0 k h) 0) refl
  where
    go : (z : Bool) → eqb (place_from 0 k h) 0 ≡ z
        → cell_said sort (begin + begin_at bounds count (place_from 0 k h)) (under k h (cells_of (cut ed row))) ≡ cell_said sort (begin + offset k h (cells_of (cut ed row))) (under k h (cells_of (cut ed row)))
    go true q = said_empty sort (begin + begin_at bounds count (place_from 0 k h)) (begin + offset k h (cells_of (cut ed row))) (under k h (cells_of (cut ed row))) (under_numbered k h (cells_of (cut ed row)) ∙ rw q)
    go false q = ap (λ (o : ℕ). cell_said sort (begin + o) (under k h (cells_of (cut ed row)))) (offset_begun ed k h row bounds count m e (eqb-false (place_from 0 k h) 0 q))

-- no cell begins behind its line
pub begin_within : (ed : Edition) (line : Bytes) (bounds : List ℕ) (count n : ℕ) → MarksOf ed line bounds count → begin_at bounds count n ≤ length line
begin_within ed line bounds count n m = go (eqb n 0) (ltb count n) refl refl
  where
    go : (z w : Bool) → eqb n 0 ≡ z → ltb count n ≡ w → (whether z then 0 else whether w then 0 else get_or bounds (n - 1) 0) ≤ length line
    go true w p q = omega arith
    go false true p q = omega arith
    go false false p q =
        let a : n ≡ 0 → ⊥ = eqb-false n 0 p in
        let s : Stands line (get_or bounds (n - 1) 0) (get_or bounds n 0) (cell_numbered n (cells_of (cut ed line))) = cell_bounded ed line bounds count n m (omega arith) (ltb-false count n q) in
        omega (arith, s.ordered, s.inside)

-- a row ---------------------------------------------------------------------------------------------------------------------------

-- 6 and 7 of a row, before its cell is looked at
module _ (ed : Edition) (t : Table) (h : Header) (line k begin : ℕ) (row : Bytes) where
  abbrev row_cell : Bytes
  row_cell = under k h (cells_of (cut ed row))

  abbrev row_check : Check
  row_check = cell_check k (column_at ed t (k - 1)).rules (content row_cell)

  abbrev row_said : ℕ → Cell
  row_said at = meant ed (is_equip t k) (cell_said (column_at ed t (k - 1)).rules.sort at row_cell)

  row_checked : (c : Check) → (cut_check ed h row ⊳ row_check) ≡ c → row_answer ed t h line k begin row ≡ answered (placed (number t) line c) (row_said (begin + offset k h (cells_of (cut ed row))))
  unfolding row_answer
  row_checked c e = ap (λ (q : Check). answered (placed (number t) line q) (row_said (begin + offset k h (cells_of (cut ed row))))) e

  pub row_refused : (n m : ℕ) → cut_check ed h row ≡ Err (fault n m) → answered (placed (number t) line (Err (fault n m))) Empty ≡ row_answer ed t h line k begin row
  row_refused n m e = sym (row_checked (Err (fault n m)) (rw e))

  pub row_cell_lem : (at bounds : List ℕ) (count m from : ℕ) → cut_check ed h row ≡ Ok tt → MarksOf ed row bounds count → count ≡ length h → at ≡ places h → 1 ≤ k → k < header_places → m ≡ get_or at k 0 → from ≡ begin + begin_at bounds count m
      → cell_judged ed t line k from (cell_numbered m (cells_of (cut ed row))) ≡ row_answer ed t h line k begin row
  unfolding cell_judged
  row_cell_lem at bounds count m from pass marks n a low high p q =
      let cs : List Bytes = cells_of (cut ed row) in
      let d : k - 1 + 1 ≡ k = omega arith in
      let o : m ≡ place_from 0 k h = p ∙ rw a (rw d at (place_at h (k - 1) (omega arith))) in
      let u : cell_numbered m cs ≡ row_cell = rw o (sym (under_numbered k h cs)) in
      let g : from ≡ begin + begin_at bounds count (place_from 0 k h) = q ∙ rw o in
      let f : row_said from ≡ row_said (begin + offset k h cs) = ap row_said g ∙ ap (meant ed (is_equip t k)) (said_begun ed (column_at ed t (k - 1)).rules.sort begin k h row bounds count marks n) in
      ap (λ (c : Bytes). answered (placed (number t) line (cell_check k (column_at ed t (k - 1)).rules (content c))) (meant ed (is_equip t k) (cell_said (column_at ed t (k - 1)).rules.sort from c))) u
      ∙ ap (λ (c : Cell). answered (placed (number t) line row_check) c) f
      ∙ sym (row_checked row_check (rw pass))

-- the order of the checks ---------------------------------------------------------------------------------------------------------

before_order : (a b c : Verdict) → ((a before b) before c) ≡ (a before (b before c))
before_order (Ok _) b c = refl
before_order (Err p) b c = refl

above_from_lem : (ed : Edition) (t : Table) (s : Bytes) (line : ℕ) → above ed t s line ≡ above_from ed (number t) line (first_line ed s) (rows_behind ed s)
above_from_lem Dino21 t s line = refl
above_from_lem Dino23 t s line = refl

module _ (ed : Edition) (t : Table) (s : Bytes) (line k : ℕ) where
  pub column_zero : k ≡ 0 → answered (nowhere not_there) Empty ≡ table_cell ed t s line k
  unfolding table_cell cell_verdict
  column_zero e = rw (eq-eqb k 0 e)

  pub column_past : (k ≡ 0 → ⊥) → length (columns_of ed t) < k → answered (nowhere not_there) Empty ≡ table_cell ed t s line k
  unfolding table_cell cell_verdict
  column_past n l = rw (ne_eqb k 0 n, lt-ltb (length (columns_of ed t)) k l)

  -- what is judged of the row and the cell, and what is said
  abbrev judged : Verdict
  judged = placed (number t) line (cut_check ed (header_of ed t s) (line_asked ed line s) ⊳ cell_check k (column_at ed t (k - 1)).rules (content (cell_at ed t s line k)))

  abbrev told : Cell
  told = meant ed (is_equip t k) (cell_said (column_at ed t (k - 1)).rules.sort (cell_start ed t s line k) (cell_at ed t s line k))

  module _ (some : k ≡ 0 → ⊥) (known : k ≤ length (columns_of ed t)) where
    behind_column : (v : Verdict) → top_faults ed t s ≡ v → table_cell ed t s line k
        ≡ answered (v before above ed t s line before nowhere (not_there when not (starts_on ed line (first_line ed s) (rows_behind ed s))) before judged) told
    unfolding table_cell cell_verdict
    behind_column v e = rw (ne_eqb k 0 some, le-ltb (length (columns_of ed t)) k known, e)

    pub top_refused : (p : Place) → top_faults ed t s ≡ Err p → ◌≡◌ {A = CellAnswer} (record { verdict = Err p; cell = Empty }) (table_cell ed t s line k)
    top_refused p e = sym (behind_column (Err p) e)

    -- the way to the row, from the first row behind the header
    module _ (top : top_faults ed t s ≡ Ok tt) (first : ℕ) (rows : List Bytes) (f : first ≡ first_line ed s) (r : rows ≡ rows_behind ed s) (way : Verdict)
        (is : way ≡ (above_from ed (number t) line first rows before nowhere (not_there when not (starts_on ed line first rows)))) where
      way_is : way ≡ (above ed t s line before nowhere (not_there when not (starts_on ed line (first_line ed s) (rows_behind ed s))))
      way_is =
          is
          ∙ ap (λ (i : ℕ). above_from ed (number t) line i rows before nowhere (not_there when not (starts_on ed line i rows))) f
          ∙ ap (λ (ls : List Bytes). above_from ed (number t) line (first_line ed s) ls before nowhere (not_there when not (starts_on ed line (first_line ed s) ls))) r
          ∙ ap (λ (v : Verdict). v before nowhere (not_there when not (starts_on ed line (first_line ed s) (rows_behind ed s)))) (sym (above_from_lem ed t s line))

      behind_way : table_cell ed t s line k ≡ answered (way before judged) told
      behind_way =
          behind_column (Ok tt) top
          ∙ ap (λ (v : Verdict). answered v told) (sym (before_order (above ed t s line) (nowhere (not_there when not (starts_on ed line (first_line ed s) (rows_behind ed s)))) judged))
          ∙ ap (λ (v : Verdict). answered (v before judged) told) (sym way_is)

      pub way_refused : (p : Place) → way ≡ Err p → ◌≡◌ {A = CellAnswer} (record { verdict = Err p; cell = Empty }) (table_cell ed t s line k)
      way_refused p e = sym (behind_way ∙ ap (λ (v : Verdict). answered (v before judged) told) e)

      pub line_here_lem : way ≡ Ok tt → (at : ℕ) (row : Bytes) → at ≡ line_start line s → row ≡ row_on ed line first rows → row_answer ed t (header_of ed t s) line k at row ≡ table_cell ed t s line k
      unfolding row_answer
      line_here_lem e at row a q =
          let u : row ≡ line_asked ed line s = q ∙ ap (λ (i : ℕ). row_on ed line i rows) f ∙ ap (row_on ed line (first_line ed s)) r in
          ap (λ (n : ℕ). row_answer ed t (header_of ed t s) line k n row) a
          ∙ ap (λ (x : Bytes). row_answer ed t (header_of ed t s) line k (line_start line s) x) u
          ∙ sym (behind_way ∙ ap (λ (v : Verdict). answered (v before judged) told) e)

module _ (ed : Edition) (s : Bytes) (table line k : ℕ) (n : Option Table) (e : n ≡ numbered table) where
  pub asked_known : (t : Table) → n ≡ Some t → table_cell ed t s line k ≡ asked_of ed (numbered table) s line k
  asked_known t g = ap (λ (z : Option Table). asked_of ed z s line k) (sym g ∙ e)

  pub asked_unknown : n ≡ None → answered (nowhere not_there) Empty ≡ asked_of ed (numbered table) s line k
  asked_unknown g = ap (λ (z : Option Table). asked_of ed z s line k) (sym g ∙ e)

module _ (n : ℕ) (s : Bytes) (table line k : ℕ) where
  pub asked_by : (ed : Edition) → Some ed ≡ choice n → asked_of ed (numbered table) s line k ≡ cell_asked n s table line k
  unfolding cell_asked
  asked_by ed e = ap (λ (z : Option Edition). asked_in z s table line k) e

  pub asked_by_none : None ≡ choice n → answered (nowhere unknown_edition) Empty ≡ cell_asked n s table line k
  unfolding cell_asked
  asked_by_none e = ap (λ (z : Option Edition). asked_in z s table line k) e

-- the stretch ---------------------------------------------------------------------------------------------------------------------

under_none : (k : ℕ) (h : Header) → length (under k h []) ≡ 0
unfolding under
under_none k [] = refl
under_none k (x ∷ xs) = refl

-- a cell that is not empty lies within its line
offset_inside : (k : ℕ) (h : Header) (cs : List Bytes) → 0 < length (under k h cs) → offset k h cs + length (under k h cs) ≤ length (parted 59 cs)
unfolding offset under parted
offset_inside k [] cs p = absurd (omega arith)
offset_inside k (x ∷ xs) [] p = absurd (omega arith)
offset_inside k (x ∷ xs) (c ∷ []) p = go (eqb k x) p
  where
    go : (q : Bool) → 0 < length (whether q then c else under k xs []) → (whether q then 0 else length c + 1 + offset k xs []) + length (whether q then c else under k xs []) ≤ length c
    go true p = omega arith
    go false p = absurd (omega (arith, under_none k xs))
offset_inside k (x ∷ xs) (c ∷ (e ∷ es)) p = rw length-append (go (eqb k x) p (offset_inside k xs (e ∷ es)))
  where
    go : (q : Bool) → 0 < length (whether q then c else under k xs (e ∷ es)) → (0 < length (under k xs (e ∷ es)) → offset k xs (e ∷ es) + length (under k xs (e ∷ es)) ≤ length (parted 59 (e ∷ es)))
        → (whether q then 0 else length c + 1 + offset k xs (e ∷ es)) + length (whether q then c else under k xs (e ∷ es)) ≤ length c + suc (length (parted 59 (e ∷ es)))
    go true p ih = omega arith
    go false p ih = omega (arith, ih p)

cell_inside : (ed : Edition) (k : ℕ) (h : Header) (row : Bytes) → 0 < length (under k h (cells_of (cut ed row))) → offset k h (cells_of (cut ed row)) + length (under k h (cells_of (cut ed row))) ≤ length row
cell_inside ed k h row = go (cut ed row) refl
  where
    go : (u : Cut) → cut ed row ≡ u → 0 < length (under k h (cells_of u)) → offset k h (cells_of u) + length (under k h (cells_of u)) ≤ length row
    go (faulty n) e p = absurd (omega (arith, under_none k h))
    go (cells cs) e p = omega (arith, offset_inside k h cs p, ap length (cells_parted ed row cs e))

-- so does a text, with or without its quotes
said_inside : (s cell : Bytes) (sort : Sort) (at start len : ℕ) → (0 < length cell → at + length cell ≤ length s) → cell_said sort at cell ≡ Text start len → start + len ≤ length s
said_inside s cell sort at start len h = go (eqb (length (content cell)) 0) refl sort (quoted cell) refl
  where
    go : (z : Bool) → eqb (length (content cell)) 0 ≡ z → (x : Sort) (q : Bool) → quoted cell ≡ q
        → (whether z then Empty else said x at cell) ≡ Text start len → start + len ≤ length s
    go true e x q f g = let z : ◌≡◌ {A = ℕ} 0 1 = cc in absurd (omega arith)
    go false e sort-is.Decimal q f g = let z : ◌≡◌ {A = ℕ} 0 1 = cc in absurd (omega arith)
    go false e sort-is.Text true f g =
        let w : Text (at + 1) (length cell - 2) ≡ Text start len = rw f at g in
        let a : at + 1 ≡ start = cc in
        let b : length cell - 2 ≡ len = cc in
        let p : 0 < length cell = quoted_some cell f in
        omega (arith, h p)
    go false e sort-is.Text false f g =
        let w : Text at (length cell) ≡ Text start len = rw f at g in
        let a : at ≡ start = cc in
        let b : length cell ≡ len = cc in
        let p : 0 < length cell = omega (arith, eqb-false (length (content cell)) 0 e, content_le cell) in
        omega (arith, h p)

answered_text : (v : Verdict) (c : Cell) (start len : ℕ) → (answered v c).cell ≡ Text start len → c ≡ Text start len
answered_text (Ok _) c start len e = e
answered_text (Err p) c start len e = cc

-- no number is a text
meant_text : (ed : Edition) (b : Bool) (c : Cell) (start len : ℕ) → meant ed b c ≡ Text start len → c ≡ Text start len
meant_text ed false c start len e = e
meant_text Dino21 true (Number n) start len e = cc
meant_text Dino23 true (Number n) start len e = cc
meant_text ed true (Text x y) start len e = e
meant_text ed true Empty start len e = cc
meant_text ed true (Equip21 n) start len e = cc
meant_text ed true (Flags23 n) start len e = cc

-- the stretch that an answer names lies within the text
pub stretch_inside : (n : ℕ) (s : Bytes) (table line k start len : ℕ) → (cell_asked n s table line k).cell ≡ Text start len → start + len ≤ length s
unfolding cell_asked table_cell
stretch_inside n s table line k start len = by_choice (choice n)
  where
    go : (ed : Edition) (m : Option Table) → (asked_of ed m s line k).cell ≡ Text start len → start + len ≤ length s
    go ed None e = let z : ◌≡◌ {A = ℕ} 0 1 = cc in absurd (omega arith)
    go ed (Some t) e =
        let cell : Bytes = cell_at ed t s line k in
        let said-is : Cell = cell_said (column_at ed t (k - 1)).rules.sort (cell_start ed t s line k) cell in
        said_inside s cell (column_at ed t (k - 1)).rules.sort (cell_start ed t s line k) start len
        (λ p. omega (arith, cell_inside ed k (header_of ed t s) (line_asked ed line s) p, row_inside ed line s))
        (meant_text ed (is_equip t k) said-is start len (answered_text (cell_verdict ed t s line k) (meant ed (is_equip t k) said-is) start len e))

    by_choice : (c : Option Edition) → (asked_in c s table line k).cell ≡ Text start len → start + len ≤ length s
    by_choice (Some ed) e = go ed (numbered table) e
    by_choice None e = let z : ◌≡◌ {A = ℕ} 0 1 = cc in absurd (omega arith)
