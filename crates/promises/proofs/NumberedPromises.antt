-- Demand 1: a fault gets one of the paper's numbers, and a place in its own table. Assumes nothing.
use mathlib.Core.Bool.{Bool, true, false, not, ◌&&◌, ◌||◌}
use mathlib.Core.Path.{◌≡◌, refl, subst, sym, ◌∙◌}
use mathlib.Core.List.{List, [], ◌∷◌, map}
use mathlib.Core.Logic.{⊎_elim}
use Prim.Native.Nat.{ℕ, ◌≤◌, ◌<◌, zero, suc, ◌+◌, ◌-◌, ◌*◌, ◌^◌}
use native.Mathlib.Omega.{arith}
use lib.ListN.{length, get_or, take}
use lib.Dec.{eqb, leb, ltb}
use borrow.Author.Tests.{eq-eqb, ne_eqb, eqb-true, lt-ltb, ltb-true, ltb-false, le-leb, leb-true}
use Rattle.words.specs.Words.{Bytes, Row, whether◌then◌else◌}
use Rattle.words.proofs.Lists.{and_left, and_right, every}
use Rattle.std.specs.Prelude.{Ok, Err}
use Rattle.refusals.specs.Verdicts.{◌when◌, ◌⊳◌, placed, place, too_many_rows, column_twice, column_missing, too_many_cells, cell_count, ends_early, key_stands, no_row, ◌before◌, in_text, in_header, text_too_long, paper, line_too_long, cell_empty, cell_too_long, not_digits, out_of_range, Check, Verdict, fault}
use Rattle.refusals.specs.declared.Place.{Place}
use Rattle.lines.specs.Lines.{lines, head_line, overlong, slip_lines, most_bytes, long_line}
use Rattle.cells.specs.Cells.{cut, faulty_cell, cells_of, content}
use Rattle.cells.specs.declared.State.TheVariants.{Fresh}
use Rattle.fields.specs.Fields.{fields}
use Rattle.numbers.specs.Numbers.{all_digits, value_from, value}
use Rattle.numbers.proofs.Decimals.{digit_more, power_le}
use Rattle.editions.specs.declared.Edition.{Edition}
use Rattle.tables.specs.Columns.{Column, columns_of, references, number, no_column, column_number, column_at, in_range}
use Rattle.tables.specs.declared.Rules.{Rules}
use Rattle.tables.specs.declared.Sort.{Sort}
use Rattle.tables.specs.declared.Sort.TheVariants.{Decimal, Text}
use Rattle.tables.proofs.Names.{column_number_most}
use Rattle.tables.proofs.Figures.{columns_few}
use Rattle.tables.specs.declared.Table.{Table}
use Rattle.tables.specs.declared.Reference.{Reference}
use Rattle.tables.specs.declared.Table.TheVariants.{Block, Calendar, VehicleType, Depot, Stop, StopPoint}
use Rattle.values.specs.Values.{bad_cell, cell_check, said_check}
use Rattle.book.specs.Book.{Book, knows, full, empty_by}
use Rattle.book.specs.Result.{refused}
use Rattle.rules.specs.Rules.{time_fault, named, unknown, unknown_of, ruled}
use Rattle.header.specs.Header.{Header, header, member, repeated, missing, missing_from, bad_cut, line_check, cut_check, header_check, contents, header_of, most_cells}
use Rattle.row_line.specs.RowLine.{row_read}
use Rattle.table_lines.specs.Reading.{judged}
use Rattle.table_reading.specs.Reading.{table_read}
use Rattle.delivery.specs.Delivery.{Delivery, reading}
use Rattle.slips.specs.Slips.{posting}
use Rattle.slip_line.specs.SlipLine.{bad_field, numbers, wish, row_in}
use Rattle.slip_line.specs.declared.Wish.{Wish}
use Rattle.slip_line.specs.declared.Wish.TheVariants.{Add, Replace, Delete, Unknown}
use Rattle.block_change.specs.Change.{missing_block, line_judged, granted, slip_check, slip_leaves}
use Rattle.promises.specs.Promises.{Numbered, ◌naming◌, unnamed, any_cell, any_column, required_column, number_column, ranged_column, range_named, of_numbers, end_column, referring_column, row_lines_of, row_start, row_step, text_numbers, header_numbers, row_numbers, slip_numbers, among, given_in, given_in_slip, FaultyTable, in_types, in_depots, in_stops, in_points, in_blocks, in_days, ReadingNumbered, onward, FirstFault, SlipNumbered}
use Rattle.promises.proofs.TestLaws.{and_both, and_three, or_later}
use Rattle.promises.proofs.TextLaws.{slip_lines_few, head_within, row_within, row_low, row_high, cut_few}
use Rattle.promises.proofs.ExactPromises.{refused_at_first, step_edition, table_edition, delivery_refused, slip_refused_at_first}

-- a column that is missing is a required one
missing_required : (k : ℕ) (cols : List Column) (h : Header) → 0 < missing_from (suc k) cols h →
    (k < missing_from (suc k) cols h) × ((get_or cols (missing_from (suc k) cols h - suc k) no_column).rules.required ≡ true)
unfolding missing_from
missing_required k [] h m = absurd (omega arith)
missing_required k (x ∷ cols) h m = go x.rules.required refl (member (suc k) h) (missing_required (suc k) cols h) m
  where
    rest : ℕ
    rest = missing_from (suc (suc k)) cols h

    on : (suc k < rest) × ((get_or cols (rest - suc (suc k)) no_column).rules.required ≡ true) →
        (k < rest) × ((get_or (x ∷ cols) (rest - suc k) no_column).rules.required ≡ true)
    on r = let e : rest - suc k ≡ suc (rest - suc (suc k)) = omega (arith, r.0) in (omega (arith, r.0), rw e r.1)

    here : suc k - suc k ≡ 0
    here = omega arith

    go : (q : Bool) → x.rules.required ≡ q → (p : Bool) →
        (0 < missing_from (suc (suc k)) cols h →
        (suc k < missing_from (suc (suc k)) cols h) × ((get_or cols (missing_from (suc (suc k)) cols h - suc (suc k)) no_column).rules.required ≡ true)) →
        0 < (whether q && not p then suc k else missing_from (suc (suc k)) cols h) →
        (k < (whether q && not p then suc k else missing_from (suc (suc k)) cols h))
        × ((get_or (x ∷ cols) ((whether q && not p then suc k else missing_from (suc (suc k)) cols h) - suc k) no_column).rules.required ≡ true)
    go true e true ih m = on (ih m)
    go true e false ih m = (omega arith, rw here e)
    go false e p ih m = on (ih m)

-- if the check fails, its number is one of these, with a column that it can name
unfoldable pub given : List Numbered → Check → Bool
given xs (Ok _) = true
given xs (Err f) = among xs f.number f.column

module _ (xs : List Numbered) where
  given_when : (n k : ℕ) (t : Bool) → (t ≡ true → among xs n k ≡ true) → given xs (Err (fault n k) when t) ≡ true
  unfolding given
  given_when n k true h = h refl
  given_when n k false h = refl

  given_chain : (c e : Check) → given xs c ≡ true → given xs e ≡ true → given xs (c ⊳ e) ≡ true
  unfolding given
  given_chain (Ok _) e h g = g
  given_chain (Err f) e h g = h

  -- the cells of columns, of which the first has number k
  given_cells : (k : ℕ) (cols : List Column) (ss : List Bytes) → ((i : ℕ) → i < length cols → (s : Bytes) → given xs (cell_check (k + i) (get_or cols i no_column).rules s) ≡ true) →
      given xs (bad_cell k cols ss) ≡ true
  unfolding bad_cell given
  given_cells k [] ss h = refl
  given_cells k (x ∷ cols) [] h = refl
  given_cells k (x ∷ cols) (s ∷ ss) h =
      let here : k + 0 ≡ k = omega arith in
      given_chain (cell_check k x.rules s) (bad_cell (suc k) cols ss)
      (rw here at (h 0 (omega arith) s))
      (given_cells (suc k) cols ss (λ i l c. let on : k + suc i ≡ suc k + i = omega arith in rw on at (h (suc i) (omega arith) c)))

  given_unknown : (rs : List Reference) (row : Row) (b : Book) → ((k : ℕ) → member k (map (λ r. r.column) rs) ≡ true → among xs 10 k ≡ true) →
      given xs (unknown_of rs row b) ≡ true
  unfolding unknown_of given member
  given_unknown [] row b h = refl
  given_unknown (r ∷ rs) row b h =
      given_chain (no_row r.column when not (knows r.to (named r.to r.column row) b)) (unknown_of rs row b)
      (given_when 10 r.column (not (knows r.to (named r.to r.column row) b)) (λ e. h r.column (rw (eq-eqb r.column r.column refl))))
      (given_unknown rs row b (λ k m. h k (or_later (eqb k r.column) (member k (map (λ r. r.column) rs)) m)))

-- where it is placed
given_placed : (xs : List Numbered) (table line : ℕ) (c : Check) (p : Place) → given xs c ≡ true → placed table line c ≡ Err p →
    (among xs p.number p.column ≡ true) × (p.table ≡ table) × (p.line ≡ line)
unfolding given
given_placed xs table line (Ok _) p h e = let z : ◌≡◌ {A = ℕ} 0 1 = cc in let y : ⊥ = omega arith in absurd y
given_placed xs table line (Err f) p h e =
    let q : place f.number table line f.column ≡ p = cc in
    subst (λ (z : Place). (among xs z.number z.column ≡ true) × (z.table ≡ table) × (z.line ≡ line)) q (h, refl, refl)

-- the checks of rows and of slip lines -------------------------------------------------------------------------------------

-- the columns of a table, and the column of a block's end
column_any : (e : Edition) (t : Table) (j : ℕ) → 1 ≤ j → j < 1 + length (columns_of e t) → any_column e t j ≡ true
column_any e t j l m = and_both (ltb 0 j) (leb j (length (columns_of e t))) (lt-ltb 0 j l) (le-leb j (length (columns_of e t)) (omega arith))

-- digits are no more than their number of nines
value_below : (s : Bytes) (n i : ℕ) → all_digits s ≡ true → n < 10 ^ i → value_from n s < 10 ^ (i + length s)
unfolding all_digits value_from
value_below [] n i h l = let z : i + 0 ≡ i = omega arith in rw z l
value_below (b ∷ s) n i h l =
    let digit : b - 48 ≤ 9 = omega (arith, leb-true b 57 (and_right (leb 48 b) (leb b 57) (and_left (leb 48 b && leb b 57) (all_digits s) h))) in
    let on : i + length (b ∷ s) ≡ i + 1 + length s = omega arith in
    rw on (value_below s (n * 10 + (b - 48)) (i + 1) (and_right (leb 48 b && leb b 57) (all_digits s) h) (digit_more n (b - 48) i l digit))

-- so a number of the column's width that is out of its range is out of a range that is named
range_named_lem : (x : Rules) (s : Bytes) → all_digits s ≡ true → length s ≤ x.width → in_range x (value s) ≡ false → range_named x ≡ true
range_named_lem x s d l out = by_date x.date refl
  where
    below : value s < 10 ^ x.width
    below =
        let z : 0 + length s ≡ length s = omega arith in
        let v : value s < 10 ^ length s = rw z at (value_below s 0 0 d (power_le 0 0 (omega arith))) in
        omega (arith, v, power_le (length s) x.width l)

    go : x.date ≡ false → (p : Bool) → eqb x.low 0 ≡ p → (q : Bool) → eqb x.high (10 ^ x.width - 1) ≡ q → not (p && q) ≡ true
    go u true e true f =
        let low = eqb-true x.low 0 e in
        let high = eqb-true x.high (10 ^ x.width - 1) f in
        let r : in_range x (value s) ≡ true = rw (le-leb x.low (value s) (omega arith), le-leb (value s) x.high (omega (arith, below)), u) in
        let z : ◌≡◌ {A = ℕ} 0 1 = cc in let y : ⊥ = omega arith in absurd y
    go u true e false f = refl
    go u false e q f = refl

    by_date : (t : Bool) → x.date ≡ t → (t || not (eqb x.low 0 && eqb x.high (10 ^ x.width - 1))) ≡ true
    by_date true u = refl
    by_date false u = go u (eqb x.low 0) refl (eqb x.high (10 ^ x.width - 1)) refl

-- what is wrong with a cell of a table's column
module _ (e : Edition) (xs : List Numbered) (t : Table)
    (bare : (k : ℕ) → required_column e t k ≡ true → among xs 19 k ≡ true)
    (long : (k : ℕ) → any_column e t k ≡ true → among xs 20 k ≡ true)
    (other : (k : ℕ) → number_column e t k ≡ true → among xs 8 k ≡ true)
    (outside : (k : ℕ) → ranged_column e t k ≡ true → among xs 21 k ≡ true)
  where
    module _ (i : ℕ) (l : i < length (columns_of e t)) (s : Bytes) where
      abbrev x : Rules
      x = (column_at e t i).rules

      this : 1 + i - 1 ≡ i
      this = omega arith

      number_column_lem : x.sort ≡ Decimal → number_column e t (1 + i) ≡ true
      number_column_lem h = rw (this, h, lt-ltb 0 (1 + i) (omega arith))

      given_cell : given xs (cell_check (1 + i) x s) ≡ true
      unfolding given
      given_cell = by_length_lem (eqb (length s) 0) (ltb x.width (length s)) refl
        where
          by_digits_lem : x.sort ≡ Decimal → length s ≤ x.width → (d : Bool) → all_digits s ≡ d → (r : Bool) → in_range x (value s) ≡ r
              → given xs (not_digits (1 + i) when not d ⊳ out_of_range (1 + i) when not r) ≡ true
          by_digits_lem h w false d r q = other (1 + i) (number_column_lem h)
          by_digits_lem h w true d true q = refl
          by_digits_lem h w true d false q = outside (1 + i) (and_both (number_column e t (1 + i)) (range_named (column_at e t (1 + i - 1)).rules) (number_column_lem h) (rw this (range_named_lem x s d w q)))

          by_sort_lem : length s ≤ x.width → (sort : Sort) → x.sort ≡ sort → given xs (said_check sort (1 + i) x s) ≡ true
          by_sort_lem w Decimal h = by_digits_lem h w (all_digits s) refl (in_range x (value s)) refl
          by_sort_lem w Text h = refl

          by_length_lem : (z w : Bool) → ltb x.width (length s) ≡ w
              → given xs (whether z then cell_empty (1 + i) when x.required else (cell_too_long (1 + i) when w ⊳ said_check x.sort (1 + i) x s)) ≡ true
          by_length_lem true w f = given_when xs 19 (1 + i) x.required (λ h. bare (1 + i) (rw (this, h, lt-ltb 0 (1 + i) (omega arith))))
          by_length_lem false true f = long (1 + i) (column_any e t (1 + i) (omega arith) (omega arith))
          by_length_lem false false f = by_sort_lem (ltb-false x.width (length s) f) x.sort refl

    given_columns : (ss : List Bytes) → given xs (bad_cell 1 (columns_of e t) ss) ≡ true
    given_columns ss = given_cells xs 1 (columns_of e t) ss (λ i l s. given_cell i l s)

end_timed : (t : Table) (row : Row) → time_fault t row ≡ true → end_column t 11 ≡ true
end_timed VehicleType row e = e
end_timed Depot row e = e
end_timed Stop row e = e
end_timed StopPoint row e = e
end_timed Block row e = refl
end_timed Calendar row e = e

given_ruled : (t : Table) (xs : List Numbered) (row : Row) (b : Book) → (end_column t 11 ≡ true → among xs 11 11 ≡ true) → among xs 9 0 ≡ true →
    ((k : ℕ) → referring_column t k ≡ true → among xs 10 k ≡ true) → given xs (ruled t row b) ≡ true
given_ruled t xs row b late stood referred =
    given_chain xs (ends_early when time_fault t row) (key_stands when knows t row b ⊳ unknown t row b)
    (given_when xs 11 11 (time_fault t row) (λ e. late (end_timed t row e)))
    (given_chain xs (key_stands when knows t row b) (unknown t row b) (given_when xs 9 0 (knows t row b) (λ e. stood)) (given_unknown xs (references t) row b referred))

-- a line no longer than a text has no cell behind the 65,537th
given_cut : (e : Edition) (xs : List Numbered) (l : Bytes) → length l ≤ most_bytes → ((k : ℕ) → any_cell k ≡ true → among xs 6 k ≡ true) → given xs (bad_cut (cut e l)) ≡ true
given_cut e xs l n h =
    let k : ℕ = faulty_cell (cut e l) in
    given_when xs 6 k (ltb 0 k) (λ f. h k (and_both (ltb 0 k) (leb k (suc most_bytes)) f (le-leb k (suc most_bytes) (omega (arith, cut_few e Fresh l)))))

-- 17 and 6 of a line
given_cutting : (e : Edition) (xs : List Numbered) (l : Bytes) → length l ≤ most_bytes → among xs 17 0 ≡ true → ((k : ℕ) → any_cell k ≡ true → among xs 6 k ≡ true) → given xs (line_check e l) ≡ true
given_cutting e xs l n long h = given_chain xs (line_too_long when long_line l) (bad_cut (cut e l)) (given_when xs 17 0 (long_line l) (λ f. long)) (given_cut e xs l n h)

pub given_row : (t : Table) (h : Header) (l : Bytes) (b : Book) → length l ≤ most_bytes → given (row_numbers b.edition t) (judged t h l b) ≡ true
unfolding judged among
given_row t h l b n =
    let e = b.edition in
    let xs = row_numbers e t in
    let cs = contents e t h (cells_of (cut e l)) in
    let row = row_read e t h l in
    let count = cell_count when not (eqb (length (cells_of (cut e l))) (length h)) in
    given_chain xs (too_many_rows when full t b) (cut_check e h l ⊳ bad_cell 1 (columns_of e t) cs ⊳ ruled t row b) (given_when xs 5 0 (full t b) (λ f. refl))
    (given_chain xs (cut_check e h l) (bad_cell 1 (columns_of e t) cs ⊳ ruled t row b)
    (given_chain xs (line_check e l) count (given_cutting e xs l n refl (λ k f. f))
    (given_when xs 7 0 (not (eqb (length (cells_of (cut e l))) (length h))) (λ f. refl)))
    (given_chain xs (bad_cell 1 (columns_of e t) cs) (ruled t row b) (given_columns e xs t (λ k f. f) (λ k f. f) (λ k f. f) (λ k f. f) cs)
    (given_ruled t xs row b (λ f. f) refl (λ k f. f))))

-- a column that comes twice is one of the table's
repeated_most : (e : Edition) (t : Table) (seen : List ℕ) (cs : List Bytes) → repeated seen (header e t cs) ≤ length (columns_of e t)
unfolding repeated
repeated_most e t seen [] = omega arith
repeated_most e t seen (c ∷ cs) = go (not (eqb k 0) && member k seen) (repeated_most e t (k ∷ seen) cs)
  where
    k : ℕ
    k = column_number e t (content c)

    go : (q : Bool) → repeated (k ∷ seen) (header e t cs) ≤ length (columns_of e t) → (whether q then k else repeated (k ∷ seen) (header e t cs)) ≤ length (columns_of e t)
    go true ih = column_number_most e t (content c)
    go false ih = ih

pub given_header : (e : Edition) (t : Table) (l : Bytes) → length l ≤ most_bytes → given (header_numbers e t) (header_check e t l) ≡ true
unfolding header_check among
given_header e t l n =
    let xs = header_numbers e t in
    let u = cut e l in
    let h = header e t (cells_of u) in
    let c2 = column_missing (missing e t h) when ltb 0 (missing e t h) in
    let c3 = column_twice (repeated [] h) when ltb 0 (repeated [] h) in
    let c4 = too_many_cells when ltb most_cells (length h) in
    given_chain xs (line_check e l) (c4 ⊳ c3 ⊳ c2) (given_cutting e xs l n refl (λ k f. f))
    (given_chain xs c4 (c3 ⊳ c2) (given_when xs 4 0 (ltb most_cells (length h)) (λ f. refl))
    (given_chain xs c3 c2
    (given_when xs 3 (repeated [] h) (ltb 0 (repeated [] h)) (λ f. column_any e t (repeated [] h) (ltb-true 0 (repeated [] h) f) (omega (arith, repeated_most e t [] (cells_of u)))))
    (given_when xs 2 (missing e t h) (ltb 0 (missing e t h)) (λ f. rw f (missing_required 0 (columns_of e t) h (ltb-true 0 (missing e t h) f)).1))))

given_line : (w : Wish) (fs : List Bytes) (row : Row) (b : Book) → given (slip_numbers b.edition) (line_judged w fs row b) ≡ true
unfolding given among
given_line Unknown fs row b = refl
given_line Add fs row b =
    given_chain (slip_numbers b.edition) (too_many_rows when full Block b) (bad_field b.edition fs ⊳ ruled Block row b) (given_when (slip_numbers b.edition) 5 0 (full Block b) (λ e. refl))
    (given_chain (slip_numbers b.edition) (bad_field b.edition fs) (ruled Block row b) (given_columns b.edition (slip_numbers b.edition) Block (λ k e. e) (λ k e. e) (λ k e. e) (λ k e. e) fs)
    (given_ruled Block (slip_numbers b.edition) row b (λ e. refl) refl (λ k e. e)))
given_line Replace fs row b =
    given_chain (slip_numbers b.edition) (bad_field b.edition fs) (ends_early when time_fault Block row ⊳ missing_block row b ⊳ unknown Block row b)
    (given_columns b.edition (slip_numbers b.edition) Block (λ k e. e) (λ k e. e) (λ k e. e) (λ k e. e) fs)
    (given_chain (slip_numbers b.edition) (ends_early when time_fault Block row) (missing_block row b ⊳ unknown Block row b) (given_when (slip_numbers b.edition) 11 11 (time_fault Block row) (λ e. refl))
    (given_chain (slip_numbers b.edition) (missing_block row b) (unknown Block row b) (given_when (slip_numbers b.edition) 13 0 (not (knows Block row b)) (λ e. refl))
    (given_unknown (slip_numbers b.edition) (references Block) row b (λ k e. e))))
given_line Delete fs row b =
    given_chain (slip_numbers b.edition) (bad_field b.edition fs) (missing_block row b) (given_columns b.edition (slip_numbers b.edition) Block (λ k e. e) (λ k e. e) (λ k e. e) (λ k e. e) fs)
    (given_when (slip_numbers b.edition) 13 0 (not (knows Block row b)) (λ e. refl))

-- the tables ---------------------------------------------------------------------------------------------------------------

-- what is given on a line of a text stands in its place on paper
module _ (e : Edition) (t : Table) (p : Place) where
  on_paper : (xs : List Numbered) (line : ℕ) → line ≤ suc most_bytes → (among xs p.number p.column ≡ true) × (p.table ≡ number t) × (p.line ≡ line) →
      (whether eqb line 0 then text_numbers else whether eqb line 1 then header_numbers e t else row_numbers e t) ≡ xs → given_in e t (paper (Err p)) ≡ true
  on_paper xs line n h f = rw (h.2, le-leb line (suc most_bytes) n, f, h.1, eq-eqb (number t) (number t) refl) h.0

  row_line_lem : (line : ℕ) → 2 ≤ line → (whether eqb line 0 then text_numbers else whether eqb line 1 then header_numbers e t else row_numbers e t) ≡ row_numbers e t
  row_line_lem line h = rw (ne_eqb line 0 (λ f. omega arith), ne_eqb line 1 (λ f. omega arith))

  -- the top of a text: 1 by itself, and else a text that is not too long
  abbrev top_of : Bytes → Bool → Verdict
  top_of s long = in_text (number t) (text_too_long when long) before in_header (number t) (header_check e t (head_line (lines e s)))

  top_given : (s : Bytes) (q : Bool) → overlong s ≡ q → top_of s q ≡ Err p → given_in e t (paper (Err p)) ≡ true
  unfolding among given
  top_given s true f h = on_paper text_numbers 0 (omega arith) (given_placed text_numbers (number t) 0 text_too_long p refl h) refl
  top_given s false f h =
      let short : length s ≤ most_bytes = ltb-false most_bytes (length s) f in
      on_paper (header_numbers e t) 1 (omega arith)
      (given_placed (header_numbers e t) (number t) 1 (header_check e t (head_line (lines e s))) p (given_header e t (head_line (lines e s)) (omega (arith, head_within e s))) h) refl

  top_short : (s : Bytes) (q : Bool) → overlong s ≡ q → top_of s q ≡ Ok tt → length s ≤ most_bytes
  top_short s true f h = let z : ◌≡◌ {A = ℕ} 0 1 = cc in let y : ⊥ = omega arith in absurd y
  top_short s false f h = ltb-false most_bytes (length s) f

table_given : (t : Table) (p : Place) (s : Bytes) (b : Book) → table_read t s b ≡ refused p → given_in b.edition t (paper (Err p)) ≡ true
table_given t p s b h =
    let e = b.edition in
    ⊎_elim (λ v. top_given e t p s (overlong s) refl v)
    (λ f.
    let short : length s ≤ most_bytes = top_short e t p s (overlong s) refl f.0 in
    let at : f.1.at < length (row_lines_of e s) = f.1.inside in
    let line : ℕ = row_start e s f.1.at in
    let l : Bytes = get_or (row_lines_of e s) f.1.at [] in
    let x : Book = onward (row_step e t s) (take f.1.at (row_lines_of e s)) b in
    let given-there : given (row_numbers e t) (judged t (header_of e t s) l x) ≡ true =
    subst (λ (z : Edition). given (row_numbers z t) (judged t (header_of e t s) l x) ≡ true) (step_edition e t s (take f.1.at (row_lines_of e s)) b)
    (given_row t (header_of e t s) l x (omega (arith, row_within e s f.1.at))) in
    on_paper e t p (row_numbers e t) line (omega (arith, row_high e s f.1.at at))
    (given_placed (row_numbers e t) (number t) line (judged t (header_of e t s) l x) p given-there f.1.fault)
    (row_line_lem e t p line (row_low e s f.1.at)))
    ((refused_at_first t s b p).0 h)

pub reading_numbered : ReadingNumbered
reading_numbered e d p h = go ((delivery_refused e d p).0 h)
  where
    on : (t : Table) (s : Bytes) (b : Book) → b.edition ≡ e → table_read t s b ≡ refused p → (t : Table) × (given_in e t (paper (Err p)) ≡ true)
    on t s b k f = (t, subst (λ (z : Edition). given_in z t (paper (Err p)) ≡ true) k (table_given t p s b f))

    go : FaultyTable e d p → (t : Table) × (given_in e t (paper (Err p)) ≡ true)
    go (in_types f) = on VehicleType d.types (empty_by e) refl f
    go (in_depots b g f) = on Depot d.depots b (table_edition VehicleType d.types (empty_by e) b g) f
    go (in_stops b c g h f) = on Stop d.stops c (table_edition Depot d.depots b c h ∙ table_edition VehicleType d.types (empty_by e) b g) f
    go (in_points b c x g h i f) =
        on StopPoint d.points x (table_edition Stop d.stops c x i ∙ table_edition Depot d.depots b c h ∙ table_edition VehicleType d.types (empty_by e) b g) f
    go (in_blocks b c x y g h i j f) =
        on Block d.blocks y
        (table_edition StopPoint d.points x y j ∙ table_edition Stop d.stops c x i ∙ table_edition Depot d.depots b c h ∙ table_edition VehicleType d.types (empty_by e) b g)
        f
    go (in_days b c x y z g h i j k f) =
        on Calendar d.days z
        (table_edition Block d.blocks y z k ∙ table_edition StopPoint d.points x y j ∙ table_edition Stop d.stops c x i ∙ table_edition Depot d.depots b c h
        ∙ table_edition VehicleType d.types (empty_by e) b g)
        f

slip_on_paper : (e : Edition) (p : Place) (xs : List Numbered) (line : ℕ) → line ≤ suc most_bytes → (among xs p.number p.column ≡ true) × (p.table ≡ 5) × (p.line ≡ line) →
    (whether eqb line 0 then text_numbers else slip_numbers e) ≡ xs → given_in_slip e (paper (Err p)) ≡ true
slip_on_paper e p xs line n h f = rw (h.2, le-leb line (suc most_bytes) n, f, h.1) h.0

-- a slip's lines too leave the book its edition
granted_edition : (w : Wish) (row : Row) (b : Book) → (granted w row b).edition ≡ b.edition
granted_edition Unknown row b = refl
granted_edition Add row b = refl
granted_edition Replace row b = refl
granted_edition Delete row b = refl

slipped : (ls : List Bytes) (b : Book) → (onward slip_leaves ls b).edition ≡ b.edition
unfolding onward
slipped [] b = refl
slipped (l ∷ ls) b = slipped ls (slip_leaves l b) ∙ granted_edition (wish (fields l)) (row_in l) b

pub slip_numbered : SlipNumbered
unfolding among
slip_numbered s b p h =
    ⊎_elim (λ v. subst (λ (l : List ℕ). given_in_slip b.edition l ≡ true) (sym v.1) refl) (λ f. on_line (ltb-false most_bytes (length s) f.0) f.1) ((slip_refused_at_first s b p).0 h)
  where
    on_line : length s ≤ most_bytes → FirstFault slip_check slip_leaves 5 suc (slip_lines s) b p → given_in_slip b.edition (paper (Err p)) ≡ true
    on_line short f =
        let e = b.edition in
        let at : f.at < length (slip_lines s) = f.inside in
        let l : Bytes = get_or (slip_lines s) f.at [] in
        let x : Book = onward slip_leaves (take f.at (slip_lines s)) b in
        let given-there : given (slip_numbers e) (slip_check l x) ≡ true =
        subst (λ (z : Edition). given (slip_numbers z) (slip_check l x) ≡ true) (slipped (take f.at (slip_lines s)) b) (given_line (wish (fields l)) (numbers (fields l)) (row_in l) x) in
        slip_on_paper e p (slip_numbers e) (suc f.at) (omega (arith, slip_lines_few s))
        (given_placed (slip_numbers e) 5 (suc f.at) (slip_check l x) p given-there f.fault)
        (rw (ne_eqb (suc f.at) 0 (λ k. omega arith)))

-- how large the numbers of a place can be -------------------------------------------------------------------------------------

-- two digits and a column that a text can have
pub record Bounded (home : ℕ) (p : Place) : Type 0 where
  pub number : p.number ≤ 99
  pub table : p.table ≡ home
  pub line : p.line ≤ suc most_bytes
  pub column : p.column ≤ suc most_bytes

record Near (x : Numbered) : Type 0 where
  number : x.number ≤ 99
  column : (k : ℕ) → x.column k ≡ true → k ≤ suc most_bytes

unfoldable EachNear : List Numbered → Type 0
EachNear [] = Unit {0}
EachNear (x ∷ xs) = Near x × EachNear xs

among_near : (xs : List Numbered) (n k : ℕ) → EachNear xs → among xs n k ≡ true → (n ≤ 99) × (k ≤ suc most_bytes)
unfolding among EachNear
among_near [] n k h e = let z : ◌≡◌ {A = ℕ} 0 1 = cc in let y : ⊥ = omega arith in absurd y
among_near (x ∷ xs) n k h e = go (eqb n x.number) refl (among_near xs n k h.1) e
  where
    near : Near x
    near = h.0

    go : (q : Bool) → eqb n x.number ≡ q → (among xs n k ≡ true → (n ≤ 99) × (k ≤ suc most_bytes)) →
        (whether q then x.column k else among xs n k) ≡ true → (n ≤ 99) × (k ≤ suc most_bytes)
    go true f ih e = (omega (arith, eqb-true n x.number f, near.number), near.column k e)
    go false f ih e = ih e

near_unnamed : (k : ℕ) → unnamed k ≡ true → k ≤ suc most_bytes
near_unnamed k e = omega (arith, eqb-true k 0 e)

near_cell : (k : ℕ) → any_cell k ≡ true → k ≤ suc most_bytes
near_cell k e = leb-true k (suc most_bytes) (and_right (ltb 0 k) (leb k (suc most_bytes)) e)

near_column : (e : Edition) (t : Table) (k : ℕ) → any_column e t k ≡ true → k ≤ suc most_bytes
near_column e t k h = omega (arith, columns_few e t, leb-true k (length (columns_of e t)) (and_right (ltb 0 k) (leb k (length (columns_of e t))) h))

-- behind the last column none is required, and none is of numbers
column_inside : (f : Rules → Bool) → f no_column.rules ≡ false → (cols : List Column) (i : ℕ) → f (get_or cols i no_column).rules ≡ true → i < length cols
column_inside f none [] zero e = let z : ◌≡◌ {A = ℕ} 0 1 = cc in let y : ⊥ = omega arith in absurd y
column_inside f none [] (suc i) e = let z : ◌≡◌ {A = ℕ} 0 1 = cc in let y : ⊥ = omega arith in absurd y
column_inside f none (x ∷ cols) zero e = omega arith
column_inside f none (x ∷ cols) (suc i) e = omega (arith, column_inside f none cols i e)

near_required : (e : Edition) (t : Table) (k : ℕ) → required_column e t k ≡ true → k ≤ suc most_bytes
near_required e t k h =
    omega (arith, columns_few e t, column_inside (λ x. x.required) refl (columns_of e t) (k - 1) (and_right (ltb 0 k) (column_at e t (k - 1)).rules.required h))

near_number : (e : Edition) (t : Table) (k : ℕ) → number_column e t k ≡ true → k ≤ suc most_bytes
near_number e t k h =
    omega (arith, columns_few e t, column_inside (λ x. of_numbers x.sort) refl (columns_of e t) (k - 1) (and_right (ltb 0 k) (of_numbers (column_at e t (k - 1)).rules.sort) h))

near_ranged : (e : Edition) (t : Table) (k : ℕ) → ranged_column e t k ≡ true → k ≤ suc most_bytes
near_ranged e t k h = near_number e t k (and_left (number_column e t k) (range_named (column_at e t (k - 1)).rules) h)

near_member : (ks : List ℕ) (k : ℕ) → every (λ j. leb j 11) ks ≡ true → member k ks ≡ true → k ≤ 11
unfolding member
near_member [] k h e = let z : ◌≡◌ {A = ℕ} 0 1 = cc in let y : ⊥ = omega arith in absurd y
near_member (j ∷ ks) k h e = go (eqb k j) refl (near_member ks k (and_right (leb j 11) (every (λ j. leb j 11) ks) h)) e
  where
    go : (q : Bool) → eqb k j ≡ q → (member k ks ≡ true → k ≤ 11) → (q || member k ks) ≡ true → k ≤ 11
    go true f ih e = omega (arith, eqb-true k j f, leb-true j 11 (and_left (leb j 11) (every (λ j. leb j 11) ks) h))
    go false f ih e = ih e

references_near : (t : Table) → every (λ j. leb j 11) (map (λ x. x.column) (references t)) ≡ true
references_near VehicleType = refl
references_near Depot = refl
references_near Stop = refl
references_near StopPoint = refl
references_near Block = refl
references_near Calendar = refl

near_referring : (t : Table) (k : ℕ) → referring_column t k ≡ true → k ≤ suc most_bytes
near_referring t k e = omega (arith, near_member (map (λ x. x.column) (references t)) k (references_near t) e)

near_end : (t : Table) (k : ℕ) → end_column t k ≡ true → k ≤ suc most_bytes
near_end t k e = omega (arith, eqb-true k 11 (and_right (eqb (number t) (number Block)) (eqb k 11) e))

near : {n : ℕ} {f : ℕ → Bool} → n ≤ 99 → ((k : ℕ) → f k ≡ true → k ≤ suc most_bytes) → Near (n naming f)
near h g = record { number = h; column = g }

text_near : EachNear text_numbers
unfolding EachNear
text_near = (near (omega arith) near_unnamed, tt)

header_near : (e : Edition) (t : Table) → EachNear (header_numbers e t)
unfolding EachNear
header_near e t = (near (omega arith) near_unnamed, (near (omega arith) near_cell, (near (omega arith) near_unnamed, (near (omega arith) (near_column e t), (near (omega arith) (near_required e t), tt)))))

row_near : (e : Edition) (t : Table) → EachNear (row_numbers e t)
unfolding EachNear
row_near e t = (near (omega arith) near_unnamed, (near (omega arith) near_unnamed, (near (omega arith) near_cell, (near (omega arith) near_unnamed, (near (omega arith) (near_required e t), (near (omega arith) (near_column e t), (near (omega arith) (near_number e t), (near (omega arith) (near_ranged e t), (near (omega arith) (near_end t), (near (omega arith) near_unnamed, (near (omega arith) (near_referring t), tt)))))))))))

slip_near : (e : Edition) → EachNear (slip_numbers e)
unfolding EachNear
slip_near e = (near (omega arith) near_unnamed, (near (omega arith) near_unnamed, (near (omega arith) (near_required e Block), (near (omega arith) (near_column e Block), (near (omega arith) (near_number e Block), (near (omega arith) (near_ranged e Block), (near (omega arith) (near_end Block), (near (omega arith) near_unnamed, (near (omega arith) near_unnamed, (near (omega arith) (near_referring Block), tt))))))))))

-- what is given on paper is so bounded
paper_bounded : (home : ℕ) (p : Place) (xs : List Numbered) → EachNear xs → (leb p.line (suc most_bytes) && eqb p.table home && among xs p.number p.column) ≡ true → Bounded home p
paper_bounded home p xs h e =
    let k = and_three (leb p.line (suc most_bytes)) (eqb p.table home) (among xs p.number p.column) e in
    let m = among_near xs p.number p.column h k.2 in
    record { number = m.0; table = eqb-true p.table home k.1; line = leb-true p.line (suc most_bytes) k.0; column = m.1 }

by_line : (e : Edition) (t : Table) (line : ℕ) → EachNear (whether eqb line 0 then text_numbers else whether eqb line 1 then header_numbers e t else row_numbers e t)
by_line e t line = go (eqb line 0) (eqb line 1)
  where
    go : (p q : Bool) → EachNear (whether p then text_numbers else whether q then header_numbers e t else row_numbers e t)
    go true q = text_near
    go false true = header_near e t
    go false false = row_near e t

slip_by_line : (e : Edition) (line : ℕ) → EachNear (whether eqb line 0 then text_numbers else slip_numbers e)
slip_by_line e line = go (eqb line 0)
  where
    go : (p : Bool) → EachNear (whether p then text_numbers else slip_numbers e)
    go true = text_near
    go false = slip_near e

pub reading_bounded : (e : Edition) (d : Delivery) (p : Place) → reading e d ≡ refused p → (t : Table) × Bounded (number t) p
reading_bounded e d p h = let r = reading_numbered e d p h in let t : Table = r.0 in (t, paper_bounded (number t) p _ (by_line e t p.line) r.1)

pub slip_bounded : (s : Bytes) (b : Book) (p : Place) → posting s b ≡ refused p → Bounded 5 p
slip_bounded s b p h = paper_bounded 5 p _ (slip_by_line b.edition p.line) (slip_numbered s b p h)
