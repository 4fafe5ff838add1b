-- The book while one of its tables stands on a shelf: how the rows come there, what a row that enters makes of them, and what is laid out of
-- them. Assumes nothing.
use mathlib.Core.Path.{◌≡◌, sym, ap, ◌∙◌, refl, subst}
use mathlib.Core.List.{List, append-nil, ◌++◌}
use mathlib.Core.Bool.{true, false}
use Prim.Native.Nat.{◌-◌, ℕ, ◌≤◌, suc, ◌<◌}
use native.Mathlib.Omega.{arith}
use lib.ListN.{length, take, length-append, get_or, set, length-set}
use lib.Seq.{take_at}
use borrow.Author.Tests.{le-leb, lt-leb}
use Rattle.words.specs.Words.{Row}
use Rattle.refusals.specs.Verdicts.{key_stands, ends_early, Check, fault}
use Rattle.rows.specs.Room.{filled, used}
use Rattle.std.specs.Prelude.{Ok, Err}
use Rattle.rows.specs.Rows.{column, inserted, rising}
use Rattle.rows.specs.Spots.{spot}
use Rattle.rows.proofs.Room.{Versioned, used_filled, used_versioned}
use Rattle.rows.proofs.Rising.{rising_inserted}
use Rattle.rows.proofs.Changes.{versioned_inserted}
use Rattle.rows.proofs.Places.{at_stands, gap_within, gap_missing}
use Rattle.shelf.specs.Shelf.{shelved, up_from}
use Rattle.shelf.proofs.Shelving.{shelf_start, start_shelved, length_shelved, put_shelf, put_inserted}
use Rattle.shelf.proofs.Shifts.{put_in}
use Rattle.tables.specs.Parts.{room}
use Rattle.tables.specs.declared.Table.{Table}
use Rattle.tables.specs.Columns.{key_width}
use Rattle.book.specs.Book.{rows, with_rows, knows, full}
use Rattle.book.specs.Room.{book_of, laid}
use Rattle.book.specs.Holding.{Sound}
use Rattle.book.proofs.Laying.{orderly_book, with_same, Orderly, orderly_with, sound_laid, book_laid, rows_with, entered_with}
use Rattle.rules.specs.Points.{Referable}
use Rattle.rules.specs.Rules.{time_fault, unknown, ruled}
use Rattle.rules.proofs.Referring.{ruled_early, ruled_stands, ruled_unknown, unknown_with}
use Rattle.intake.specs.Shelving.{shelf_book, OnShelf, Entered}

-- rows whose VERSION is at least 1 are all used
pub used_all : (xs : List Row) → Versioned xs → used xs ≡ xs
used_all xs v =
    let n : 0 - length xs ≡ 0 = omega arith in
    let e : filled 0 xs ≡ xs = rw n (append-nil xs) in
    ap used (sym e) ∙ used_filled 0 xs v

-- a table's rows on a shelf ---------------------------------------------------------------------------------------------------------

module _ (t : Table) (xs : List Row) (sound : Sound xs) (slots rest : List Row) (order : List ℕ) (n : ℕ)
    (s : slots ≡ rows t (book_of xs) ++ rest) (long : length slots ≡ room t) (o : order ≡ up_from 0 (room t)) (as_many : n ≡ length (rows t (book_of xs))) where
  few : n ≤ length slots
  few = omega (arith, ap (λ (l : List Row). length l) s, length-append (rows t (book_of xs)) rest)

  order_is : order ≡ up_from 0 (length slots)
  order_is = o ∙ ap (up_from 0) (sym long)

  start_rows : shelved slots order n ≡ rows t (book_of xs)
  start_rows =
      ap (λ (l : List ℕ). shelved slots l n) order_is ∙ start_shelved slots n few ∙ ap (take n) s
      ∙ take_at (rows t (book_of xs)) rest n (sym as_many)

  pub shelf_on : Referable t (book_of xs) → OnShelf t xs slots order n
  shelf_on points =
      let b = orderly_book xs sound in
      record {
        sound = sound;
        points = points;
        shelf = rw order_is (shelf_start slots n few);
        long = long;
        rises = rw start_rows (b.rises t);
        begun = rw start_rows (used_all (rows t (book_of xs)) (b.versioned t));
      }

  pub shelf_same : shelf_book t xs slots order n ≡ book_of xs
  shelf_same = ap (λ (l : List Row). with_rows t l (book_of xs)) start_rows ∙ with_same t (book_of xs)

-- a shelf's rows in the book --------------------------------------------------------------------------------------------------------

module _ (t : Table) (xs slots : List Row) (order : List ℕ) (n : ℕ) (on : OnShelf t xs slots order n) where
  pub versioned_shelf : Versioned (shelved slots order n)
  versioned_shelf = subst Versioned on.begun (used_versioned (shelved slots order n))

  pub shelf_count : length (rows t (shelf_book t xs slots order n)) ≡ n
  shelf_count = ap length (rows_with t (shelved slots order n) (book_of xs)) ∙ length_shelved slots order n on.shelf

  pub shelf_most : n ≤ room t
  shelf_most = omega (arith, on.shelf.few, on.long)

  pub shelf_full : n ≡ room t → full t (shelf_book t xs slots order n) ≡ true
  shelf_full e = le-leb (room t) (length (rows t (shelf_book t xs slots order n))) (omega (arith, shelf_count))

  pub shelf_room : n < room t → full t (shelf_book t xs slots order n) ≡ false
  shelf_room h = lt-leb (room t) (length (rows t (shelf_book t xs slots order n))) (omega (arith, shelf_count))

  pub orderly_shelf : Orderly (shelf_book t xs slots order n)
  orderly_shelf =
      orderly_with (book_of xs) (orderly_book xs on.sound) t (shelved slots order n) (omega (arith, length_shelved slots order n on.shelf, shelf_most)) on.rises versioned_shelf

  -- what is laid out of it
  pub sound_shelf : Sound (laid (shelf_book t xs slots order n))
  sound_shelf = sound_laid (shelf_book t xs slots order n) orderly_shelf

  pub book_shelf : book_of (laid (shelf_book t xs slots order n)) ≡ shelf_book t xs slots order n
  book_shelf = book_laid (shelf_book t xs slots order n) orderly_shelf

  -- where a key stands on the shelf
  pub shelf_at : (row : Row) (i : ℕ) → spot (key_width t) row (shelved slots order n) ≡ Ok i → knows t row (shelf_book t xs slots order n) ≡ true
  shelf_at row i e = rw (rows_with t (shelved slots order n) (book_of xs)) (at_stands (key_width t) row (shelved slots order n) i e)

  pub shelf_gap : (row : Row) (i : ℕ) → spot (key_width t) row (shelved slots order n) ≡ Err i → knows t row (shelf_book t xs slots order n) ≡ false
  shelf_gap row i e = rw (rows_with t (shelved slots order n) (book_of xs)) (gap_missing (key_width t) row (shelved slots order n) i e on.rises)

  pub gap_most : (row : Row) (i : ℕ) → spot (key_width t) row (shelved slots order n) ≡ Err i → i ≤ n
  gap_most row i e = omega (arith, gap_within (key_width t) row (shelved slots order n) i e, length_shelved slots order n on.shelf)

  module _ (row : Row) where
    -- a row that is refused leaves the shelf as it was
    refused_entered : (m k : ℕ) (c : Check) → c ≡ Err (fault m k) → c ≡ ruled t row (shelf_book t xs slots order n) → Entered t row xs slots slots order order n c
    refused_entered m k c f e = record { is = e; on = λ p. absurd (fails p); enters = λ p. absurd (fails p); stays = λ p. (refl, refl) }
      where
        fails : c ≡ Ok tt → ⊥
        fails p = let z : ◌≡◌ {A = ℕ} 0 1 = cc in omega arith

    pub early_entered : time_fault t row ≡ true → (c : Check) → c ≡ ends_early → Entered t row xs slots slots order order n c
    early_entered e c f = refused_entered _ _ c f (f ∙ sym (ruled_early t row (shelf_book t xs slots order n) e))

    pub stands_entered : time_fault t row ≡ false → (i : ℕ) → spot (key_width t) row (shelved slots order n) ≡ Ok i → (c : Check) → c ≡ key_stands → Entered t row xs slots slots order order n c
    stands_entered e i s c f = refused_entered _ _ c f (f ∙ sym (ruled_stands t row (shelf_book t xs slots order n) e (shelf_at row i s)))

    module _ (e : time_fault t row ≡ false) (at : ℕ) (gap : spot (key_width t) row (shelved slots order n) ≡ Err at) (c : Check) (f : c ≡ unknown t row (book_of xs)) where
      ruled_gap : c ≡ ruled t row (shelf_book t xs slots order n)
      ruled_gap = f ∙ sym (ruled_unknown t row (shelf_book t xs slots order n) e (shelf_gap row at gap) ∙ unknown_with t row (shelved slots order n) (book_of xs))

      pub unknown_entered : (m k : ℕ) → c ≡ Err (fault m k) → Entered t row xs slots slots order order n (Err (fault m k))
      unknown_entered m k g = refused_entered m k (Err (fault m k)) refl (sym g ∙ ruled_gap)

      -- a row that keeps the rules
      pub put_entered : c ≡ Ok tt → n < room t → 1 ≤ column 1 row → (slots' : List Row) (order' : List ℕ) → slots' ≡ set slots (get_or order n 0) row → order' ≡ put_in n at (get_or order n 0) order
          → Entered t row xs slots slots' order order' n (Ok tt)
      put_entered g room v slots' order' s o =
          let r : n < length slots = omega (arith, on.long) in
          let i = put_inserted slots order n on.shelf at row r (gap_most row at gap) slots' order' s o (key_width t) gap in
          let rises' : rising (key_width t) (shelved slots' order' (suc n)) ≡ true = rw i (rising_inserted (key_width t) row (shelved slots order n) on.rises) in
          let begun' : used (shelved slots' order' (suc n)) ≡ shelved slots' order' (suc n) =
          rw i (used_all (inserted (key_width t) row (shelved slots order n)) (versioned_inserted (key_width t) row (shelved slots order n) v versioned_shelf)) in
          record {
            is = sym g ∙ ruled_gap;
            on = λ p. record {
              sound = on.sound;
              points = on.points;
              shelf = put_shelf slots order n on.shelf at row r (gap_most row at gap) slots' order' s o;
              long = ap length s ∙ length-set slots (get_or order n 0) row ∙ on.long;
              rises = rises';
              begun = begun';
            };
            enters = λ p. ap (λ (l : List Row). with_rows t l (book_of xs)) i ∙ sym (entered_with t row (shelved slots order n) (book_of xs));
            stays = λ p. absurd (p refl);
          }
