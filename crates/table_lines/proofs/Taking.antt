-- Laws of a line taken onto the shelf of its table, of the rows of a text, of a table and of a delivery. Assumes nothing.
use mathlib.Core.Path.{◌≡◌, refl, ap, sym, ◌∙◌}
use mathlib.Core.List.{List}
use Prim.Native.Nat.{ℕ, suc, ◌≤◌, ◌<◌, ◌-◌}
use native.Mathlib.Omega.{arith}
use lib.ListN.{length, take, drop}
use Rattle.words.specs.Words.{Bytes, Row}
use Rattle.std.specs.Prelude.{Ok, Err}
use Rattle.refusals.specs.Verdicts.{too_many_rows, placed, Check, Verdict, fault}
use Rattle.refusals.specs.declared.Place.{Place}
use Rattle.refusals.proofs.Placing.{placed_passes}
use Rattle.lines.specs.Lines.{lines, line_after}
use Rattle.lines.specs.Ends.{line_at}
use Rattle.lines.specs.declared.Line.{Line}
use Rattle.lines.proofs.Lining.{line_from, lines_none}
use Rattle.rows.specs.Rows.{column}
use Rattle.editions.specs.declared.Edition.{Edition}
use Rattle.tables.specs.declared.Table.{Table}
use Rattle.tables.specs.Parts.{room}
use Rattle.tables.specs.Columns.{number}
use Rattle.values.specs.declared.Judged.{Judged}
use Rattle.book.specs.Book.{Book, entered}
use Rattle.book.specs.Room.{book_of}
use Rattle.book.specs.Result.{refused, leaves, unless}
use Rattle.intake.specs.Shelving.{shelf_book, OnShelf, Entered}
use Rattle.intake.proofs.Shelving.{shelf_most, shelf_full, shelf_room}
use Rattle.header.specs.Header.{Header}
use Rattle.row_line.specs.Judging.{read}
use Rattle.row_line.specs.RowLine.{row_read}
use Rattle.table_lines.specs.Taking.{Taken, lines_after}
use Rattle.table_lines.specs.Reading.{judged, rows_read}
use Rattle.table_lines.proofs.Judging.{judged_full, judged_bad, judged_good, good_row, good_version}

-- a line ------------------------------------------------------------------------------------------------------------------------

-- a line that is refused says nothing of the shelf behind it
pub refused_shelf : {A : Type 0} (n k : ℕ) (c : Check) → c ≡ Err (fault n k) → c ≡ Ok tt → A
refused_shelf n k c f p = let z : ◌≡◌ {A = ℕ} 0 1 = cc in absurd (omega arith)

module _ (t : Table) (h : Header) (line : Bytes) (xs slots : List Row) (order : List ℕ) (n : ℕ) (on : OnShelf t xs slots order n) where
  pub line_full : n ≡ room t → (d : Book) (c : Check) → c ≡ too_many_rows → Taken t h line (shelf_book t xs slots order n) d c
  line_full e d c f =
      record { is = f ∙ sym (judged_full t h line (shelf_book t xs slots order n) (shelf_full t xs slots order n on e)); enters = refused_shelf _ _ c f }

  -- where the shelf has room
  module _ (less : n ≡ room t → ⊥) where
    pub line_room_lem : n < room t
    line_room_lem = omega (arith, shelf_most t xs slots order n on, less)

    module _ (j : Judged) (is : j ≡ read (book_of xs).edition t h line) where
      pub line_faulty : (d : Book) (m k : ℕ) → j.check ≡ Err (fault m k) → Taken t h line (shelf_book t xs slots order n) d (Err (fault m k))
      line_faulty d m k e =
          record {
            is = sym (judged_bad t h line (shelf_book t xs slots order n) (shelf_room t xs slots order n on line_room_lem) j is m k e);
            enters = refused_shelf m k (Err (fault m k)) refl;
          }

      module _ (good : j.check ≡ Ok tt) where
        pub line_version : 1 ≤ column 1 j.row
        line_version = good_version t h line (shelf_book t xs slots order n) (shelf_room t xs slots order n on line_room_lem) j is good

        pub line_entered : (slots' : List Row) (order' : List ℕ) (c : Check) → Entered t j.row xs slots slots' order order' n c
            → Taken t h line (shelf_book t xs slots order n) (shelf_book t xs slots' order' (suc n)) c
        line_entered slots' order' c e =
            record {
              is = e.is ∙ sym (judged_good t h line (shelf_book t xs slots order n) (shelf_room t xs slots order n on line_room_lem) j is good);
              enters = λ p. e.enters p
                  ∙ ap (λ (row : Row). entered t row (shelf_book t xs slots order n)) (good_row t h line (shelf_book t xs slots order n) (shelf_room t xs slots order n on line_room_lem) j is good);
            }

-- the lines of a text in turn -----------------------------------------------------------------------------------------------------

module _ (e : Edition) (n : ℕ) (s : Bytes) (i : ℕ) where
  pub after_end : length s ≤ i → lines_after e n (lines e (drop i s)) ≡ n
  unfolding lines_after
  after_end l = rw (lines_none e s i l)

  pub after_next : (r : Line) → r ≡ line_at e s i → i < length s → (m : ℕ) → m ≡ line_after e n (take (r.end - i) (drop i s)) → lines_after e n (lines e (drop i s)) ≡ lines_after e m (lines e (drop r.next s))
  unfolding lines_after
  after_next r k l m p = ap (lines_after e n) (line_from e s i r l k).is ∙ ap (λ (q : ℕ). lines_after e q (lines e (drop r.next s))) (sym p)

module _ (t : Table) (h : Header) (n : ℕ) (s : Bytes) (i : ℕ) (b : Book) where
  pub rows_end : length s ≤ i → rows_read t h n (lines b.edition (drop i s)) b ≡ leaves b
  unfolding rows_read
  rows_end l = rw (lines_none b.edition s i l)

  module _ (r : Line) (e : r ≡ line_at b.edition s i) (l : i < length s) (c : Check) (d : Book) (x : Taken t h (take (r.end - i) (drop i s)) b d c) (v : Verdict) (o : v ≡ placed (number t) n c) where
    step : rows_read t h n (lines b.edition (drop i s)) b
        ≡ unless (placed (number t) n (judged t h (take (r.end - i) (drop i s)) b)) (rows_read t h (line_after b.edition n (take (r.end - i) (drop i s))) (lines b.edition (drop r.next s)) (entered t (row_read b.edition t h (take (r.end - i) (drop i s))) b))
    unfolding rows_read
    step = rw (line_from b.edition s i r l e).is

    pub rows_passed : v ≡ Ok tt → (m : ℕ) → m ≡ line_after b.edition n (take (r.end - i) (drop i s)) → rows_read t h n (lines b.edition (drop i s)) b ≡ rows_read t h m (lines b.edition (drop r.next s)) d
    rows_passed a m w =
        let p : c ≡ (Ok tt) = placed_passes (number t) n c (sym o ∙ a) in
        let q : judged t h (take (r.end - i) (drop i s)) b ≡ (Ok tt) = sym x.is ∙ p in
        step ∙ rw (q, ← w, x.enters p)

    pub rows_refused : (p : Place) → v ≡ Err p → rows_read t h n (lines b.edition (drop i s)) b ≡ refused p
    rows_refused p a =
        let q : placed (number t) n (judged t h (take (r.end - i) (drop i s)) b) ≡ Err p = ap (placed (number t) n) (sym x.is) ∙ sym o ∙ a in
        step ∙ rw q
