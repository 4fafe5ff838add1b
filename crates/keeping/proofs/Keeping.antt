-- The test of the book rule: what it shows of a slice, and how it is made, row by row and number by number. Assumes nothing.
use mathlib.Core.Bool.{Bool, true, false, ◌&&◌}
use mathlib.Core.Path.{◌≡◌, refl, sym, ap, ◌∙◌}
use mathlib.Core.List.{List, [], ◌∷◌, ◌++◌}
use Prim.Native.Nat.{ℕ, ◌-◌, ◌≤◌, suc, ◌+◌, ◌<◌, zero}
use native.Mathlib.Omega.{arith}
use lib.ListN.{drop, replicate, length, take, take-append-drop, get_or, drop_of_length-le}
use lib.Seq.{length-take-le, get_or-take}
use lib.Dec.{eqb, leb, lit≤}
use borrow.Author.Tests.{eq-eqb, ne_eqb, le-leb, eqb-true}
use Rattle.words.specs.Words.{Row, same, all}
use Rattle.words.proofs.Lists.{drop_step, and_left, and_right, same_refl, same_true}
use Rattle.refusals.specs.Verdicts.{passes}
use Rattle.rows.specs.Rows.{wide, rising, column}
use Rattle.rows.specs.Room.{filled, used, same_rows}
use Rattle.rows.specs.Spots.{Holds, holds}
use Rattle.rows.proofs.Room.{used_within, true_holds, holds_true, same_rows_refl, same_rows_true}
use Rattle.editions.specs.declared.Edition.{Edition}
use Rattle.editions.specs.declared.Edition.TheVariants.{Dino21, Dino23}
use Rattle.tables.specs.Columns.{in_range, columns_of, kept_width, Column, column_at, no_column, key_width}
use Rattle.tables.specs.declared.Table.{Table}
use Rattle.tables.specs.Parts.{part_of, tables, room, book_rows, marks_at}
use Rattle.tables.specs.declared.Table.TheVariants.{Calendar}
use Rattle.tables.proofs.Figures.{kept_columns, kept_few, part_below}
use Rattle.tables.proofs.Parts.{in_order}
use Rattle.book.specs.Book.{Book, rows}
use Rattle.book.specs.Room.{laid, part, book_of, mark, marks, edition_of}
use Rattle.book.specs.Holding.{Sound}
use Rattle.book.proofs.Laying.{length_part, rows_part, part_laid, marks_laid, Orderly, orderly_book, laid_book_lem}
use Rattle.rules.specs.Rules.{time_fault, unknown}
use Rattle.keeping.specs.Keeping.{ranged, lawful, lawful_table, lawful_book, keeps_rule}

-- the numbers of a row ----------------------------------------------------------------------------------------------------------

-- zeros behind the numbers that are kept, from place i on
abbrev pub zero_from : ℕ → Row → Bool
zero_from i row = same (drop i row) (replicate (11 - i) 0)

same_front : (us xs ys : List ℕ) → same (us ++ xs) (us ++ ys) ≡ same xs ys
unfolding same
same_front [] xs ys = refl
same_front (u ∷ us) xs ys = rw (eq-eqb u u refl) (same_front us xs ys)

pub zero_start : (k : ℕ) (row : Row) → length row ≡ 11 → k ≤ 11 → same row (wide (take k row)) ≡ zero_from k row
zero_start k row l h =
    let n : length (take k row) ≡ k = length-take-le k row (omega arith) in
    ap (λ (r : Row). same r (wide (take k row))) (sym (take-append-drop k row))
    ∙ same_front (take k row) (drop k row) (replicate (11 - length (take k row)) 0)
    ∙ ap (λ (m : ℕ). same (drop k row) (replicate (11 - m) 0)) n

module _ (row : Row) (long : length row ≡ 11) (i : ℕ) where
  zero_step : i < 11 → zero_from i row ≡ (eqb (get_or row i 0) 0 && zero_from (i + 1) row)
  unfolding same
  zero_step h =
      let e : 11 - i ≡ suc (11 - (i + 1)) = omega arith in
      let l : i < length row = omega arith in
      rw (drop_step 0 row i l, e)

  pub zero_next : i < 11 → get_or row i 0 ≡ 0 → zero_from i row ≡ zero_from (i + 1) row
  zero_next h e = zero_step h ∙ rw (eq-eqb (get_or row i 0) 0 e)

  pub zero_not : i < 11 → (get_or row i 0 ≡ 0 → ⊥) → zero_from i row ≡ false
  zero_not h n = zero_step h ∙ rw (ne_eqb (get_or row i 0) 0 n)

  pub zero_end : 11 ≤ i → zero_from i row ≡ true
  unfolding same
  zero_end h =
      let e : 11 - i ≡ 0 = omega arith in
      let l : length row ≤ i = omega arith in
      rw (drop_of_length-le row l, e)

-- ranges, from column i on
abbrev pub ranged_from : Edition → ℕ → Table → Row → Bool
ranged_from e i t row = ranged (drop i (columns_of e t)) (drop i (take (kept_width t) row))

module _ (e : Edition) (t : Table) (row : Row) (long : length row ≡ 11) (i : ℕ) where
  ranged_step : i < kept_width t → ranged_from e i t row ≡ (in_range (column_at e t i).rules (get_or row i 0) && ranged_from e (i + 1) t row)
  unfolding ranged
  ranged_step h =
      let few : kept_width t ≤ length row = omega (arith, kept_few t) in
      let c : i < length (columns_of e t) = omega (arith, kept_columns e t) in
      let n : i < length (take (kept_width t) row) = rw (length-take-le (kept_width t) row few) h in
      rw (drop_step no_column (columns_of e t) i c, drop_step 0 (take (kept_width t) row) i n, get_or-take (kept_width t) row i 0 h)

  pub ranged_next : i < kept_width t → in_range (column_at e t i).rules (get_or row i 0) ≡ true → ranged_from e i t row ≡ ranged_from e (i + 1) t row
  ranged_next h f = ranged_step h ∙ rw f

  pub ranged_not : i < kept_width t → in_range (column_at e t i).rules (get_or row i 0) ≡ false → ranged_from e i t row ≡ false
  ranged_not h f = ranged_step h ∙ rw f

  pub ranged_end : kept_width t ≤ i → ranged_from e i t row ≡ true
  unfolding ranged
  ranged_end h =
      let few : kept_width t ≤ length row = omega (arith, kept_few t) in
      let n : length (take (kept_width t) row) ≤ i = rw (length-take-le (kept_width t) row few) h in
      rw (drop_of_length-le (take (kept_width t) row) n) (none (drop i (columns_of e t)))
    where
      none : (xs : List Column) → ranged xs [] ≡ true
      none [] = refl
      none (x ∷ xs) = refl

-- a row's tests, in their order ------------------------------------------------------------------------------------------------------

module _ (t : Table) (b : Book) (row : Row) where
  pub lawful_rest : same row (wide (take (kept_width t) row)) ≡ false → lawful t b row ≡ false
  lawful_rest e = rw e

  pub lawful_range : same row (wide (take (kept_width t) row)) ≡ true → ranged (columns_of b.edition t) (take (kept_width t) row) ≡ false → lawful t b row ≡ false
  lawful_range e f = rw (e, f)

  module _ (e : same row (wide (take (kept_width t) row)) ≡ true) (f : ranged (columns_of b.edition t) (take (kept_width t) row) ≡ true) where
    pub lawful_time : time_fault t row ≡ true → lawful t b row ≡ false
    lawful_time g = rw (e, f, g)

    pub lawful_known : time_fault t row ≡ false → lawful t b row ≡ passes (unknown t row b)
    lawful_known g = rw (e, f, g)

-- the row of marks -------------------------------------------------------------------------------------------------------------------

-- no edition has a mark above that of 2.3
mark_most : (e : Edition) → mark e ≤ 1
mark_most Dino21 = lit≤ tt
mark_most Dino23 = lit≤ tt

pub marks_above : (row : Row) → 1 < column 1 row → same row (marks (edition_of row)) ≡ false
marks_above row h = go (same row (marks (edition_of row))) refl
  where
    go : (b : Bool) → same row (marks (edition_of row)) ≡ b → b ≡ false
    go true e = absurd (omega (arith, ap (column 1) (same_true row (marks (edition_of row)) e), mark_most (edition_of row)))
    go false e = refl

-- all rows, from place i on --------------------------------------------------------------------------------------------------------------

module _ {A : Type 0} (f : A → Bool) (d : A) (xs : List A) (i : ℕ) where
  pub all_next : i < length xs → f (get_or xs i d) ≡ true → all f (drop i xs) ≡ all f (drop (i + 1) xs)
  unfolding all
  all_next h e = rw (drop_step d xs i h, e)

  pub all_not : i < length xs → f (get_or xs i d) ≡ false → all f (drop i xs) ≡ false
  unfolding all
  all_not h e = rw (drop_step d xs i h, e)

  pub all_end : length xs ≤ i → all f (drop i xs) ≡ true
  unfolding all
  all_end h = rw (drop_of_length-le xs h)

pub all_at : {A : Type 0} (f : A → Bool) (d : A) (xs : List A) → all f xs ≡ true → (i : ℕ) → i < length xs → f (get_or xs i d) ≡ true
unfolding all
all_at f d [] e i h = absurd (omega arith)
all_at f d (x ∷ xs) e zero h = and_left (f x) (all f xs) e
all_at f d (x ∷ xs) e (suc i) h = all_at f d xs (and_right (f x) (all f xs) e) i (omega arith)

-- the whole slice ----------------------------------------------------------------------------------------------------------------------

pub all_true : {A : Type 0} (f : A → Bool) → ((x : A) → f x ≡ true) → (xs : List A) → all f xs ≡ true
unfolding all
all_true f h [] = refl
all_true f h (x ∷ xs) = rw (h x, all_true f h xs)

-- what stands at a place within a list is the same whatever stands past its end
pub placed_alike : {A : Type 0} (xs : List A) (i : ℕ) (d e : A) → i < length xs → get_or xs i d ≡ get_or xs i e
placed_alike [] i d e h = absurd (omega arith)
placed_alike (x ∷ xs) zero d e h = refl
placed_alike (x ∷ xs) (suc i) d e h = placed_alike xs i d e (omega arith)

-- a table is reached by its place in their order
pub by_place : (f : Table → Bool) → ((i : ℕ) → i < length tables → f (get_or tables i Calendar) ≡ true) → (t : Table) → f t ≡ true
by_place f h t = ap f (sym (in_order t)) ∙ h (part_of t) (part_below t)

module _ (b : Book) where
  pub tables_lawful : lawful_book b ≡ true → (t : Table) → lawful_table t b ≡ true
  tables_lawful e = by_place (λ t. lawful_table t b) (all_at (λ t. lawful_table t b) Calendar tables e)

  pub lawful_tables : ((t : Table) → lawful_table t b ≡ true) → lawful_book b ≡ true
  lawful_tables h = all_true (λ t. lawful_table t b) h tables

module _ (xs : List Row) where
  abbrev book : Book
  book = book_of xs

  abbrev pub lawful_rows : Table → Bool
  lawful_rows t = all (lawful t book) (rows t book)

  module _ (keeps : keeps_rule xs ≡ true) where
    front : (eqb (length xs) book_rows && lawful_book book) ≡ true
    front = and_left (eqb (length xs) book_rows && lawful_book book) (same_rows xs (laid book)) keeps

    pub keeps_length : length xs ≡ book_rows
    keeps_length = eqb-true (length xs) book_rows (and_left (eqb (length xs) book_rows) (lawful_book book) front)

    keeps_laid : xs ≡ laid book
    keeps_laid = same_rows_true xs (laid book) (and_right (eqb (length xs) book_rows && lawful_book book) (same_rows xs (laid book)) keeps)

    keeps_table : (t : Table) → lawful_table t book ≡ true
    keeps_table t = tables_lawful book (and_right (eqb (length xs) book_rows) (lawful_book book) front) t

    few : (t : Table) → length (rows t book) ≤ room t
    few t = rw (rows_part t xs) (omega (arith, used_within (part t xs), length_part xs keeps_length t))

    -- what keeps the rule is sound
    pub keeps_sound : Sound xs
    keeps_sound = record { long = keeps_length; tables = table; marked = ap (λ (l : List Row). get_or l marks_at []) keeps_laid ∙ marks_laid book few }
      where
        table : (t : Table) → Holds (key_width t) (part t xs)
        table t =
            let p = part t xs in
            let r : rising (key_width t) (rows t book) ≡ true =
            and_right (leb (length (rows t book)) (room t)) (rising (key_width t) (rows t book)) (and_left (leb (length (rows t book)) (room t) && rising (key_width t) (rows t book)) (lawful_rows t) (keeps_table t)) in
            let e : p ≡ filled (room t) (used p) = ap (part t) keeps_laid ∙ part_laid book few t ∙ ap (filled (room t)) (rows_part t xs) in
            record { rises = rw (rows_part t xs) at r; rest = e ∙ ap (λ (n : ℕ). filled n (used p)) (sym (length_part xs keeps_length t)) }

    -- and each of its rows is lawful
    pub keeps_rows : (t : Table) → lawful_rows t ≡ true
    keeps_rows t = and_right (leb (length (rows t book)) (room t) && rising (key_width t) (rows t book)) (lawful_rows t) (keeps_table t)

    pub keeps_row : (t : Table) (i : ℕ) → i < length (rows t book) → lawful t book (get_or (rows t book) i []) ≡ true
    keeps_row t i h = all_at (lawful t book) [] (rows t book) (keeps_rows t) i h

  -- the other way round: a slice that is none, or whose parts are none, breaks the rule
  pub breaks_length : (length xs ≡ book_rows → ⊥) → keeps_rule xs ≡ false
  breaks_length n = rw (ne_eqb (length xs) book_rows n)

  breaks_where : (b : Bool) → b ≡ false → (keeps_rule xs ≡ true → b ≡ true) → keeps_rule xs ≡ false
  breaks_where b e h = go (keeps_rule xs) refl
    where
      go : (k : Bool) → keeps_rule xs ≡ k → k ≡ false
      go true f = let g : b ≡ true = h f in let z : ◌≡◌ {A = ℕ} 0 1 = cc in absurd (omega arith)
      go false f = refl

  pub breaks_part : (t : Table) → holds (key_width t) (part t xs) ≡ false → keeps_rule xs ≡ false
  breaks_part t e = breaks_where (holds (key_width t) (part t xs)) e (λ k. true_holds (key_width t) (part t xs) ((keeps_sound k).tables t))

  pub breaks_rows : (t : Table) → lawful_rows t ≡ false → keeps_rule xs ≡ false
  breaks_rows t e = breaks_where (lawful_rows t) e (λ k. keeps_rows k t)

  -- the row of marks, tested
  abbrev pub marked : Bool
  marked = same (get_or xs marks_at []) (marks book.edition)

  pub breaks_marks : marked ≡ false → keeps_rule xs ≡ false
  breaks_marks e = breaks_where marked e (λ k. ap (same (get_or xs marks_at [])) (sym (keeps_sound k).marked) ∙ same_refl (get_or xs marks_at []))

  pub parts_sound : length xs ≡ book_rows → marked ≡ true → ((t : Table) → holds (key_width t) (part t xs) ≡ true) → Sound xs
  parts_sound l m h =
      record { long = l; tables = λ t. holds_true (key_width t) (part t xs) (h t); marked = same_true (get_or xs marks_at []) (marks book.edition) m }

  -- of a sound slice the rows are left to be asked
  pub sound_keeps : Sound xs → ((t : Table) → lawful_rows t ≡ true) → keeps_rule xs ≡ true
  sound_keeps s h = rw (eq-eqb (length xs) book_rows s.long, laid_book_lem xs s, same_rows_refl xs, lawful_tables book table)
    where
      o : Orderly book
      o = orderly_book xs s

      table : (t : Table) → lawful_table t book ≡ true
      table t = rw (le-leb (length (rows t book)) (room t) (o.few t), o.rises t, h t)

  -- the test of the parts, as the code makes it
  pub breaks : keeps_rule xs ≡ false → (◌≡◌ {A = Bool} false true → Sound xs) × (◌≡◌ {A = Bool} false false → keeps_rule xs ≡ false)
  breaks e = ((λ f. let z : ◌≡◌ {A = ℕ} 0 1 = cc in absurd (omega arith)), (λ f. e))

  abbrev pub held : Table → Bool
  held t = holds (key_width t) (part t xs)

  pub all_parts : length xs ≡ book_rows → marked ≡ true → ((t : Table) → held t ≡ true) → (r : Bool) → r ≡ true → (r ≡ true → Sound xs) × (r ≡ false → keeps_rule xs ≡ false)
  all_parts l m h r e = ((λ k. parts_sound l m h), (λ k. let z : ◌≡◌ {A = ℕ} 0 1 = cc in absurd (omega arith)))
