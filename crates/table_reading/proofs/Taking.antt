-- A line taken onto the shelf of its table, the rows of a text, and a table. Assumes nothing.
use mathlib.Core.Path.{◌≡◌, ap, ◌∙◌, subst, sym}
use mathlib.Core.List.{List}
use mathlib.Core.Bool.{true}
use Prim.Native.Nat.{ℕ, suc, ◌+◌, ◌-◌, ◌≤◌, ◌<◌, ◌^◌}
use native.Mathlib.Omega.{arith}
use native.Mathlib.Numerals.{add-one}
use lib.ListN.{length, take, drop, length-take, length-drop}
use lib.Seq.{take_all, length-take-le}
use Rattle.words.specs.Words.{Row, Bytes}
use Rattle.refusals.specs.Verdicts.{placed, Check, Verdict}
use Rattle.std.specs.Prelude.{Ok, Err}
use Rattle.refusals.specs.declared.Place.{Place}
use Rattle.refusals.proofs.Placing.{placed_passes}
use Rattle.lines.specs.Lines.{lines, head_line}
use Rattle.lines.proofs.Starting.{line_after_lem, head_few}
use Rattle.editions.specs.declared.Edition.{Edition}
use Rattle.tables.specs.Columns.{number}
use Rattle.tables.specs.declared.Table.{Table}
use Rattle.book.specs.Room.{laid, book_of}
use Rattle.book.specs.Holding.{Sound, result_of}
use Rattle.book.specs.Book.{Book, empty_by, entered}
use Rattle.book.specs.Result.{Result, leaves, unless}
use Rattle.book.proofs.Laying.{sound_begun, book_begun}
use Rattle.rules.specs.Points.{points_named}
use Rattle.intake.specs.Shelving.{shelf_book, OnShelf}
use Rattle.intake.proofs.Shelving.{sound_shelf, book_shelf}
use Rattle.header.specs.Header.{Header, header_of, top_faults}
use Rattle.header.specs.Heading.{places}
use Rattle.header.specs.Top.{TopOf}
use Rattle.header.specs.declared.Top.{Top}
use Rattle.row_line.specs.RowLine.{row_read}
use Rattle.table_lines.specs.Reading.{judged, rows_read}
use Rattle.table_lines.specs.Taking.{Taken, lines_after}
use Rattle.table_reading.specs.Reading.{table_read}
use Rattle.table_reading.specs.Taking.{RowsTaken, LineTaken}
use Rattle.table_reading.proofs.Pointing.{rows_left, line_left}
use Rattle.table_reading.specs.declared.Taken.{Taken as Reached}

-- the first part of a longer shelf
pub prefix_long : {A : Type 0} (n m : ℕ) (xs : List A) → length xs ≡ m → n ≤ m → n ≡ length (take n xs)
prefix_long n m xs e h = sym (length-take-le n xs (omega arith))

-- the rows on the shelf, laid out where they are accepted
pub laid_accepted : (t : Table) (xs slots : List Row) (order : List ℕ) (n : ℕ) → OnShelf t xs slots order n → (ys : List Row) → ys ≡ laid (shelf_book t xs slots order n)
    → Sound ys × (book_of ys ≡ shelf_book t xs slots order n)
laid_accepted t xs slots order n on ys e = (rw e (sound_shelf t xs slots order n on), ap book_of e ∙ book_shelf t xs slots order n on)

pub laid_next : (t : Table) (xs slots : List Row) (order : List ℕ) (n : ℕ) → OnShelf t xs slots order (suc n) → (ys : List Row) → ys ≡ laid (shelf_book t xs slots order (n + 1))
    → Sound ys × (book_of ys ≡ shelf_book t xs slots order (suc n))
laid_next t xs slots order n on ys e = laid_accepted t xs slots order (suc n) on ys (e ∙ ap (λ (m : ℕ). laid (shelf_book t xs slots order m)) (add-one n))

pub not_accepted : {A : Type 0} (p : Place) → ◌≡◌ {A = Verdict} (Err p) (Ok tt) → A
not_accepted p e = let z : ◌≡◌ {A = ℕ} 0 1 = cc in absurd (omega arith)

-- the lines of a text on the shelf, from line i on
module _ (t : Table) (at : List ℕ) (s : Bytes) (i : ℕ) (xs : List Row) (v : Verdict) (b : Book) (headed : (h : Header) × (at ≡ places h)) (named : points_named (book_of xs) ≡ true)
    (is : (h : Header) → at ≡ places h → unless v (leaves b) ≡ rows_read t h i (lines (book_of xs).edition s) (book_of xs)) where
  pub rows_accepted : v ≡ Ok tt → (ys : List Row) → Sound ys × (book_of ys ≡ b) → (next : ℕ) → next ≡ lines_after (book_of xs).edition i (lines (book_of xs).edition s)
      → RowsTaken t at s i xs ys (record { verdict = Ok tt; line = next })
  rows_accepted a ys left next k =
      record { sound = left.0; named = rows_left t headed.0 i (book_of xs) _ (lines (book_of xs).edition s) (taken headed.0 headed.1) named; next = λ e. k; taken = taken }
    where
      taken : (h : Header) → at ≡ places h → result_of (Ok tt) ys ≡ rows_read t h i (lines (book_of xs).edition s) (book_of xs)
      taken h e = ap leaves left.1 ∙ subst (λ (x : Verdict). unless x (leaves b) ≡ rows_read t h i (lines (book_of xs).edition s) (book_of xs)) a (is h e)

  pub rows_refused : (p : Place) → v ≡ Err p → Sound xs → (next : ℕ) → RowsTaken t at s i xs xs (record { verdict = Err p; line = next })
  rows_refused p a sound next =
      record { sound = sound; named = tt; next = not_accepted p; taken = λ h e. subst (λ (x : Verdict). unless x (leaves b) ≡ rows_read t h i (lines (book_of xs).edition s) (book_of xs)) a (is h e) }

-- one line on the shelf, which is line i
pub check_passes : (table i : ℕ) (c : Check) (v : Verdict) → v ≡ placed table i c → v ≡ Ok tt → c ≡ Ok tt
check_passes table i c v o a = placed_passes table i c (sym o ∙ a)

module _ (t : Table) (at : List ℕ) (line : Bytes) (i : ℕ) (xs : List Row) (b d : Book) (same : b ≡ book_of xs) (c : Check) (v : Verdict) (o : v ≡ placed (number t) i c)
    (headed : (h : Header) × (at ≡ places h)) (named : points_named (book_of xs) ≡ true) (k : (h : Header) → at ≡ places h → Taken t h line b d c) where
  -- what the line comes to
  abbrev after : Header → Result
  after h = unless (placed (number t) i (judged t h line (book_of xs))) (leaves (entered t (row_read (book_of xs).edition t h line) (book_of xs)))

  judged_so : (h : Header) → at ≡ places h → c ≡ judged t h line (book_of xs)
  judged_so h e = (k h e).is ∙ ap (judged t h line) same

  pub line_accepted : v ≡ Ok tt → (ys : List Row) → Sound ys × (book_of ys ≡ d) → LineTaken t at line i xs ys (Ok tt)
  line_accepted a ys left =
      record { sound = left.0; named = line_left t headed.0 i (book_of xs) _ line (is headed.0 headed.1) named; taken = is }
    where
      is : (h : Header) → at ≡ places h → result_of (Ok tt) ys ≡ after h
      is h e =
          let p : c ≡ (Ok tt) = check_passes (number t) i c v o a in
          let q : judged t h line (book_of xs) ≡ (Ok tt) = sym (judged_so h e) ∙ p in
          rw q (ap leaves (left.1 ∙ (k h e).enters p ∙ ap (λ (x : Book). entered t (row_read x.edition t h line) x) same))

  pub line_refused : (p : Place) → v ≡ Err p → Sound xs → LineTaken t at line i xs xs (Err p)
  line_refused p a sound = record { sound = sound; named = tt; taken = is }
    where
      is : (h : Header) → at ≡ places h → result_of (Err p) xs ≡ after h
      is h e =
          let q : placed (number t) i (judged t h line (book_of xs)) ≡ Err p = ap (placed (number t) i) (sym (judged_so h e)) ∙ sym o ∙ a in
          rw q

-- what is lent of a text from a place on
pub rest_length_lem : (s : Bytes) (n : ℕ) → length (take (length s - n) (drop n s)) ≤ length s
rest_length_lem s n = simp (length-take, length-drop) (omega arith)

rest_whole : (s : Bytes) (n : ℕ) → take (length s - n) (drop n s) ≡ drop n s
rest_whole s n = take_all (length s - n) (drop n s) (rw length-drop (omega arith))

-- the rows below it
module _ (t : Table) (s : Bytes) (top : Top) (xs : List Row) (e : Edition) (same : e ≡ (book_of xs).edition) (o : TopOf e t s top) where
  by_book : TopOf (book_of xs).edition t s top
  by_book = subst (λ (d : Edition). TopOf d t s top) same o

  pub table_refused : (p : Place) → top.verdict ≡ Err p → result_of (Err p) xs ≡ table_read t s (book_of xs)
  unfolding table_read
  table_refused p q = let z : top_faults (book_of xs).edition t s ≡ Err p = sym by_book.is ∙ q in rw z

  pub table_rows : (a : top.verdict ≡ Ok tt) (ys : List Row) (r : Reached) → RowsTaken t top.at (take (length s - top.next) (drop top.next s)) top.line xs ys r → result_of r.verdict ys ≡ table_read t s (book_of xs)
  unfolding table_read
  table_rows a ys r w =
      let z : top_faults (book_of xs).edition t s ≡ (Ok tt) = sym by_book.is ∙ a in
      let kept = by_book.kept a in
      w.taken (header_of (book_of xs).edition t s) kept.headed ∙ rw (z, rest_whole s top.next, kept.rest, kept.first)

  -- the lines of a text do not overflow
  pub few_lines : (a : top.verdict ≡ Ok tt) → top.line + length (take (length s - top.next) (drop top.next s)) + 1 < 2 ^ 64
  few_lines a =
      let kept = by_book.kept a in
      let d = (book_of xs).edition in
      omega (arith, rest_length_lem s top.next, kept.short, kept.first, line_after_lem d 1 (head_line (lines d s)), head_few d s)

-- a delivery ------------------------------------------------------------------------------------------------------------------------

pub sound_empty : (d : Edition) (ys : List Row) → ys ≡ laid (empty_by d) → Sound ys
sound_empty d ys e = rw e (sound_begun d)

pub book_empty : (d : Edition) (ys : List Row) → ys ≡ laid (empty_by d) → book_of ys ≡ empty_by d
book_empty d ys e = rw e (book_begun d)
