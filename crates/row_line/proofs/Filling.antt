-- The row of a line, filled column by column, and what a row that passes tells. Assumes nothing.
use mathlib.Core.Path.{◌≡◌, sym, ◌∙◌, refl, ap}
use mathlib.Core.List.{List, [], ◌∷◌, ◌++◌, append_assoc, map}
use mathlib.Core.Bool.{false}
use Prim.Native.Nat.{ℕ, suc, ◌-◌, ◌<◌, ◌≤◌, ◌+◌, zero}
use native.Mathlib.Omega.{arith}
use native.Mathlib.Numerals.{add-one}
use lib.ListN.{length, set, replicate, length-append, get_or, take, length-map, drop, get_or-append}
use lib.Seq.{set_at, take-suc, take_all, take-append-le, length-take-le, take-nil, get_or-take}
use Rattle.words.specs.Words.{Bytes, Row}
use Rattle.refusals.proofs.Chaining.{both}
use Rattle.std.specs.Prelude.{Ok, Err}
use Rattle.refusals.specs.Verdicts.{◌⊳◌, Check, fault}
use Rattle.cells.specs.Cells.{cut, cells_of, content}
use Rattle.cells.specs.Numbered.{cell_numbered}
use Rattle.numbers.specs.Numbers.{value}
use Rattle.rows.specs.Rows.{wide, column}
use Rattle.editions.specs.declared.Edition.{Edition}
use Rattle.tables.specs.declared.Table.{Table}
use Rattle.tables.specs.Columns.{kept_width, columns_of, column_at}
use Rattle.tables.proofs.Figures.{kept_few, kept_columns, keys_some, keys_kept, version_low, kept_decimal, kept_required}
use Rattle.values.specs.Values.{bad_cell, cell_check}
use Rattle.values.specs.declared.Value.{Value}
use Rattle.values.specs.declared.Value.TheVariants.{Number}
use Rattle.values.specs.Judged.{breaks, value_of, check_of, rowed, unkept}
use Rattle.values.specs.declared.Judged.{Judged}
use Rattle.values.proofs.Values.{check_kept, check_of_value, kept_value, number_from}
use Rattle.header.specs.Header.{Header, contents, cut_check}
use Rattle.header.specs.Heading.{places}
use Rattle.row_line.specs.RowLine.{row_of, row_read}
use Rattle.row_line.specs.Judging.{cells_check, read}
use Rattle.row_line.proofs.Columns.{contents_length, content_found, bad_next, bad_here, bad_end, all_kept}

-- a row is an array of 11 numbers
pub wide_more : (ns : List ℕ) (k v : ℕ) → length ns ≡ k → k < 11 → set (wide ns) k v ≡ wide (ns ++ (v ∷ []))
wide_more ns k v e l =
    let rest : List ℕ = replicate (11 - length (ns ++ (v ∷ []))) 0 in
    let a : 11 - length ns ≡ suc (11 - length (ns ++ (v ∷ []))) = rw length-append (omega arith) in
    rw a (set_at ns 0 rest v k e ∙ sym (append_assoc ns (v ∷ []) rest))

map_last : (xs : List Bytes) (s : Bytes) → map value (xs ++ (s ∷ [])) ≡ map value xs ++ (value s ∷ [])
map_last [] s = refl
map_last (x ∷ xs) s = ap (λ (l : List ℕ). value x ∷ l) (map_last xs s)

-- one column more
module _ (t : Table) (ss : List Bytes) (k : ℕ) (row : Row) (e : row ≡ row_of t (take k ss)) (l : k < length ss) where
  one_more : take (k + 1) ss ≡ take k ss ++ (get_or ss k [] ∷ [])
  one_more = rw add-one (take-suc ss k [] l)

  so_far : length (take k ss) ≡ k
  so_far = length-take-le k ss (omega arith)

  pub row_more : (v : ℕ) → k < kept_width t → v ≡ value (get_or ss k []) → set row k v ≡ row_of t (take (k + 1) ss)
  row_more v h q =
      let a : take (kept_width t) (take k ss) ≡ take k ss = take_all (kept_width t) (take k ss) (omega (arith, so_far)) in
      let m : length (take k ss ++ (get_or ss k [] ∷ [])) ≤ kept_width t = rw length-append (omega (arith, so_far)) in
      let b : take (kept_width t) (take k ss ++ (get_or ss k [] ∷ [])) ≡ take k ss ++ (get_or ss k [] ∷ []) = take_all (kept_width t) (take k ss ++ (get_or ss k [] ∷ [])) m in
      let n : length (map value (take k ss)) ≡ k = length-map (take k ss) value ∙ so_far in
      let w : set (wide (map value (take k ss))) k v ≡ wide (map value (take k ss) ++ (v ∷ [])) = wide_more (map value (take k ss)) k v n (omega (arith, kept_few t)) in
      rw (e, one_more, a, b, map_last (take k ss) (get_or ss k []), ← q) w

  pub row_stays : kept_width t ≤ k → row ≡ row_of t (take (k + 1) ss)
  row_stays h =
      let a : take (kept_width t) (take k ss ++ (get_or ss k [] ∷ [])) ≡ take (kept_width t) (take k ss) = take-append-le (kept_width t) (take k ss) (get_or ss k [] ∷ []) (omega (arith, so_far)) in
      rw (e, one_more, a)

-- the columns of a line, walked from the first one on -------------------------------------------------------------------------------

-- k columns are walked: none of them has a fault, and the row has their numbers
pub record Columned (ed : Edition) (t : Table) (h : Header) (line : Bytes) (row : Row) (k : ℕ) : Type 0 where
  pub filled : row ≡ row_of t (take k (contents ed t h (cells_of (cut ed line))))
  pub ahead : cells_check ed t h line ≡ bad_cell (k + 1) (drop k (columns_of ed t)) (drop k (contents ed t h (cells_of (cut ed line))))

pub columned_none : (ed : Edition) (t : Table) (h : Header) (line : Bytes) → Columned ed t h line (replicate 11 0) 0
columned_none ed t h line = record { filled = rw (take-nil {A = Bytes} (kept_width t)); ahead = refl }

module _ (ed : Edition) (t : Table) (h : Header) (line : Bytes) (row at : List ℕ) (k : ℕ) (w : Columned ed t h line row k) (e : at ≡ places h) (l : k < length (columns_of ed t)) (cell : Bytes) (f : cell ≡ cell_numbered (get_or at (k + 1) 0) (cells_of (cut ed line))) (v : Value) (q : v ≡ value_of (column_at ed t k).rules (content cell)) (check : Check) (d : check ≡ check_of (k + 1) v) where
  ours : content cell ≡ get_or (contents ed t h (cells_of (cut ed line))) k []
  ours = content_found ed t h (cells_of (cut ed line)) at k cell e l f

  enough : k < length (contents ed t h (cells_of (cut ed line)))
  enough = rw contents_length l

  check_here : cell_check (k + 1) (column_at ed t k).rules (get_or (contents ed t h (cells_of (cut ed line))) k []) ≡ check
  check_here = sym (d ∙ rw (q, check_of_value (k + 1) (column_at ed t k).rules (content cell), ours))

  pub columned_fault : (n c : ℕ) → check ≡ Err (fault n c) → cells_check ed t h line ≡ Err (fault n c)
  columned_fault n c p = w.ahead ∙ bad_here (columns_of ed t) (contents ed t h (cells_of (cut ed line))) k l enough n c (check_here ∙ p)

  next_ahead : check ≡ Ok tt → cells_check ed t h line ≡ bad_cell (k + 1 + 1) (drop (k + 1) (columns_of ed t)) (drop (k + 1) (contents ed t h (cells_of (cut ed line))))
  next_ahead p = w.ahead ∙ bad_next (columns_of ed t) (contents ed t h (cells_of (cut ed line))) k l enough (check_here ∙ p)

  -- a column that the book keeps
  pub columned_kept : check ≡ Ok tt → k < kept_width t → (x : ℕ) → ((n : ℕ) → v ≡ Number n → x ≡ n) → Columned ed t h line (set row k x) (k + 1)
  columned_kept p m x some =
      let b : breaks (column_at ed t k).rules (content cell) ≡ false = rw ours (check_kept (k + 1) (column_at ed t k).rules (get_or (contents ed t h (cells_of (cut ed line))) k []) (check_here ∙ p)) in
      let n : x ≡ value (get_or (contents ed t h (cells_of (cut ed line))) k []) = some (value (content cell)) (q ∙ kept_value ed t k m (content cell) b) ∙ ap value ours in
      record { filled = row_more t (contents ed t h (cells_of (cut ed line))) k row w.filled enough x m n; ahead = next_ahead p }

  -- and one behind those
  pub columned_past : check ≡ Ok tt → kept_width t ≤ k → Columned ed t h line row (k + 1)
  columned_past p m = record { filled = row_stays t (contents ed t h (cells_of (cut ed line))) k row w.filled enough m; ahead = next_ahead p }

-- a column that has a fault: nothing is kept of the line
pub columned_bad : (ed : Edition) (t : Table) (h : Header) (line : Bytes) (n k : ℕ) (check : Check) → check ≡ Err (fault n k) → cells_check ed t h line ≡ Err (fault n k) → unkept check ≡ rowed (cells_check ed t h line) (row_read ed t h line)
columned_bad ed t h line n k check c e = rw (c, e)

pub columned_all : (ed : Edition) (t : Table) (h : Header) (line : Bytes) (row : Row) (k : ℕ) → Columned ed t h line row k → length (columns_of ed t) ≤ k → ◌≡◌ {A = Judged} (record { check = Ok tt; row = row }) (rowed (cells_check ed t h line) (row_read ed t h line))
columned_all ed t h line row k w l =
    let p : cells_check ed t h line ≡ (Ok tt) = w.ahead ∙ bad_end (columns_of ed t) (drop k (contents ed t h (cells_of (cut ed line)))) k l in
    let a : take k (contents ed t h (cells_of (cut ed line))) ≡ contents ed t h (cells_of (cut ed line)) = take_all k (contents ed t h (cells_of (cut ed line))) (rw contents_length l) in
    rw (p, w.filled, a)

-- what a row that passes tells ------------------------------------------------------------------------------------------------------

row_number : (t : Table) (ss : List Bytes) (i : ℕ) → i < kept_width t → kept_width t ≤ length ss → get_or (row_of t ss) i 0 ≡ value (get_or ss i [])
row_number t ss i h l =
    let n : length (take (kept_width t) ss) ≡ kept_width t = length-take-le (kept_width t) ss l in
    let m : i < length (map value (take (kept_width t) ss)) = omega (arith, length-map (take (kept_width t) ss) value) in
    get_or-append (map value (take (kept_width t) ss)) _ 0 i m ∙ values_at (take (kept_width t) ss) i (omega arith) ∙ ap value (get_or-take (kept_width t) ss i [] h)
  where
    values_at : (xs : List Bytes) (j : ℕ) → j < length xs → get_or (map value xs) j 0 ≡ value (get_or xs j [])
    values_at [] j g = absurd (omega arith)
    values_at (x ∷ xs) zero g = refl
    values_at (x ∷ xs) (suc j) g = values_at xs j (omega arith)

module _ (ed : Edition) (t : Table) (h : Header) (line : Bytes) (e : cells_check ed t h line ≡ Ok tt) where
  module _ (i : ℕ) (l : i < kept_width t) where
    abbrev there : Bytes
    there = get_or (contents ed t h (cells_of (cut ed line))) i []

    number_there : get_or (row_read ed t h line) i 0 ≡ value there
    number_there = row_number t (contents ed t h (cells_of (cut ed line))) i l (omega (arith, contents_length 1 (columns_of ed t) h (cells_of (cut ed line)), kept_columns ed t))

    keeps : breaks (column_at ed t i).rules there ≡ false
    keeps = all_kept 1 (columns_of ed t) (contents ed t h (cells_of (cut ed line))) e i (omega (arith, kept_columns ed t)) (omega (arith, contents_length 1 (columns_of ed t) h (cells_of (cut ed line)), kept_columns ed t))

    row_low : (column_at ed t i).rules.low ≤ get_or (row_read ed t h line) i 0
    row_low = rw number_there (number_from (column_at ed t i).rules there (kept_decimal ed t i l) (kept_required ed t i l) keeps)

  -- VERSION is at least 1
  pub row_version : 1 ≤ column 1 (row_read ed t h line)
  row_version = rw (version_low ed t) at (row_low 0 (omega (arith, keys_some t, keys_kept t)))

-- what is read of a line that passes
rowed_passes : (c : Check) (row : Row) → (rowed c row).check ≡ Ok tt → c ≡ Ok tt
rowed_passes (Ok _) row e = refl
rowed_passes (Err f) row e = e

module _ (ed : Edition) (t : Table) (h : Header) (line : Bytes) (p : (read ed t h line).check ≡ Ok tt) where
  pub line_passes : (cut_check ed h line ⊳ cells_check ed t h line) ≡ Ok tt
  line_passes = rowed_passes (cut_check ed h line ⊳ cells_check ed t h line) (row_read ed t h line) p

  pub read_passes : cells_check ed t h line ≡ Ok tt
  read_passes = (both (cut_check ed h line) (cells_check ed t h line) line_passes).1

  pub read_row : (read ed t h line).row ≡ row_read ed t h line
  read_row = rw line_passes
