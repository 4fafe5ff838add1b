-- What a line leaves on the shelf of the blocks: as it was where the line is refused, and as the line asks where it passes. Assumes nothing.
use mathlib.Core.Path.{◌≡◌, ◌∙◌, refl, sym, ap}
use mathlib.Core.List.{List, append-nil}
use mathlib.Core.Bool.{true}
use Prim.Native.Nat.{ℕ, ◌-◌, ◌+◌, ◌≤◌, ◌<◌}
use native.Mathlib.Omega.{arith}
use native.Mathlib.Numerals.{add-one}
use lib.ListN.{length, get_or, set, length-map, length-set}
use lib.Dec.{lit≤}
use Rattle.words.specs.Words.{Row, Bytes}
use Rattle.refusals.proofs.Chaining.{both}
use Rattle.refusals.specs.Verdicts.{◌⊳◌, ◌when◌, too_many_rows, ends_early, unknown_line, no_block, Check, fault}
use Rattle.numbers.specs.Numbers.{value}
use Rattle.fields.specs.Fields.{fields}
use Rattle.rows.specs.Rows.{wide, removed, column, replaced, rising}
use Rattle.std.specs.Prelude.{Ok, Err}
use Rattle.rows.specs.Spots.{spot}
use Rattle.rows.proofs.Keys.{same_key_refl}
use Rattle.rows.proofs.Changes.{removed_key, versioned_replaced, versioned_removed}
use Rattle.rows.proofs.Rising.{rising_replaced, rising_removed}
use Rattle.rows.proofs.Room.{Versioned}
use Rattle.rows.proofs.Places.{at_within}
use Rattle.shelf.specs.Shelf.{Shelf, shelved}
use Rattle.shelf.proofs.Shifts.{taken_out}
use Rattle.shelf.proofs.Shelving.{length_shelved, set_shelf, set_replaced, free_shelf, free_removed}
use Rattle.tables.specs.declared.Table.TheVariants.{Block}
use Rattle.values.specs.declared.Judged.{Judged}
use Rattle.book.specs.Book.{Book, with_rows}
use Rattle.book.specs.Room.{book_of}
use Rattle.rules.specs.Rules.{time_fault, unknown}
use Rattle.rules.proofs.Referring.{same_key_wide, unknown_with}
use Rattle.intake.specs.Shelving.{shelf_book, OnShelf, Entered}
use Rattle.intake.proofs.Shelving.{used_all, versioned_shelf, shelf_most, shelf_full, shelf_room, shelf_at, shelf_gap}
use Rattle.slip_line.specs.SlipLine.{numbers, wish, row_in}
use Rattle.slip_line.specs.Marks.{fields_read}
use Rattle.slip_line.specs.declared.Wish.{Wish}
use Rattle.slip_line.specs.declared.Wish.TheVariants.{Add, Replace, Delete, Unknown}
use Rattle.slip_line.proofs.Asking.{wish_size}
use Rattle.slip_line.proofs.Numbers.{version_some}
use Rattle.block_change.specs.Change.{missing_block, line_judged, granted, slip_check, slip_leaves}
use Rattle.block_change.specs.Taking.{Taken}
use Rattle.block_change.proofs.Padding.{add_read, replace_read, delete_read, read_passes, row_read_lem}

-- a row with zeros behind its numbers does the same to the book
wide_whole : (ns : List ℕ) → length ns ≡ 11 → wide ns ≡ ns
wide_whole ns e = let z : 11 - length ns ≡ 0 = omega arith in rw (z, append-nil ns)

removed_wide : (k : ℕ) (ns : List ℕ) (xs : List Row) → removed k (wide ns) xs ≡ removed k ns xs
removed_wide k ns xs = removed_key k (wide ns) ns (same_key_wide k ns ns ∙ same_key_refl k ns) xs

-- a check does not pass where a later one fails
then_fails : (c d : Check) → (d ≡ Ok tt → ⊥) → c ⊳ d ≡ Ok tt → ⊥
then_fails (Ok _) d f e = f e
then_fails (Err w) d f e = let z : ◌≡◌ {A = ℕ} 0 1 = cc in omega arith

module _ (line : Bytes) (slice slots : List Row) (order : List ℕ) (n : ℕ) (on : OnShelf Block slice slots order n) where
  abbrev b : Book
  b = shelf_book Block slice slots order n

  abbrev xs : List Row
  xs = shelved slots order n

  abbrev fs : List Bytes
  fs = numbers (fields line)

  -- a line that is refused
  pub line_stays : (c : Check) → c ≡ slip_check line b → (c ≡ Ok tt → ⊥) → Taken line slice slots slots order order n (record { check = c; count = n })
  line_stays c e f = record { is = e; on = λ p. absurd (f p); grants = λ p. absurd (f p); stays = λ p. (refl, refl, refl) }

  pub line_faulty : (i k : ℕ) → slip_check line b ≡ Err (fault i k) → Taken line slice slots slots order order n (record { check = Err (fault i k); count = n })
  line_faulty i k e = line_stays (Err (fault i k)) (sym e) (λ p. let z : ◌≡◌ {A = ℕ} 0 1 = cc in omega arith)

  pub line_unknown : wish (fields line) ≡ Unknown → (c : Check) → c ≡ unknown_line → Taken line slice slots slots order order n (record { check = c; count = n })
  line_unknown w c e = line_stays c (e ∙ rw w) (λ p. let z : ◌≡◌ {A = ℕ} 0 1 = cc in omega arith)

  check_of_lem : (w : Wish) → wish (fields line) ≡ w → slip_check line b ≡ line_judged w fs (row_in line) b
  check_of_lem w e = ap (λ (v : Wish). line_judged v fs (row_in line) b) e

  leaves_of : (w : Wish) → wish (fields line) ≡ w → slip_leaves line b ≡ granted w (row_in line) b
  leaves_of w e = ap (λ (v : Wish). granted v (row_in line) b) e

  -- a line that passes, by the blocks that it leaves
  module _ (slots' : List Row) (order' : List ℕ) (n' : ℕ) (shelf : Shelf slots' order' n') (long : length slots' ≡ 512) (ys : List Row) (are : shelved slots' order' n' ≡ ys) where
    line_passes : slip_check line b ≡ Ok tt → rising 4 ys ≡ true → Versioned ys → with_rows Block ys (book_of slice) ≡ slip_leaves line b
        → Taken line slice slots slots' order order' n (record { check = Ok tt; count = n' })
    line_passes e r v g =
        record {
          is = sym e;
          on = λ p. record { sound = on.sound; points = on.points; shelf = shelf; long = long; rises = rw are r; begun = rw are (used_all ys v) };
          grants = λ p. ap (λ (l : List Row). with_rows Block l (book_of slice)) are ∙ g;
          stays = λ p. absurd (p refl);
        }

  -- A where there is no room
  pub add_full : wish (fields line) ≡ Add → n ≡ 512 → (c : Check) → c ≡ too_many_rows → Taken line slice slots slots order order n (record { check = c; count = n })
  add_full w e c f = line_stays c (f ∙ sym (check_of_lem Add w ∙ rw (shelf_full Block slice slots order n on e))) (λ p. let z : ◌≡◌ {A = ℕ} 0 1 = cc in omega arith)

  module _ (j : Judged) (read : j ≡ fields_read (book_of slice).edition fs) where
    -- the row of eleven numbers that pass is the line's own
    row_whole : length fs ≡ 11 → j.check ≡ Ok tt → j.row ≡ row_in line
    row_whole eleven p = row_read_lem fs b j read p ∙ wide_whole (row_in line) (length-map fs value ∙ eleven)

    -- where its key stands
    pub place_within : (i : ℕ) → spot 4 j.row xs ≡ Ok i → i < n
    place_within i s = omega (arith, at_within 4 j.row xs i s, length_shelved slots order n on.shelf)

    missing_at : (i : ℕ) → spot 4 j.row xs ≡ Ok i → missing_block j.row b ≡ Ok tt
    missing_at i s = rw (shelf_at Block slice slots order n on j.row i s)

    missing_gap : (i : ℕ) → spot 4 j.row xs ≡ Err i → missing_block j.row b ≡ no_block
    missing_gap i s = rw (shelf_gap Block slice slots order n on j.row i s)

    -- A
    module _ (w : wish (fields line) ≡ Add) where
      module _ (room : n ≡ 512 → ⊥) where
        pub add_room : n < 512
        add_room = let m = shelf_most Block slice slots order n on in omega arith

        pub add_faulty : (i k : ℕ) → j.check ≡ Err (fault i k) → Taken line slice slots slots order order n (record { check = Err (fault i k); count = n })
        add_faulty i k e = line_faulty i k (check_of_lem Add w ∙ sym (add_read fs b j read) ∙ rw (shelf_room Block slice slots order n on add_room, e))

        module _ (p : j.check ≡ Ok tt) where
          eleven : length fs ≡ 11
          eleven = wish_size (fields line) Add w (λ f. let z : ◌≡◌ {A = ℕ} 0 1 = cc in omega arith)

          pub add_version : 1 ≤ column 1 j.row
          add_version = rw (row_whole eleven p) (version_some (book_of slice).edition fs (omega (arith, eleven)) (omega (arith, eleven)) (read_passes fs b j read p))

          module _ (slots' : List Row) (order' : List ℕ) (c : Check) (in-book : Entered Block j.row slice slots slots' order order' n c) where
            add_check : c ≡ slip_check line b
            add_check = in-book.is ∙ sym (check_of_lem Add w ∙ sym (add_read fs b j read) ∙ rw (shelf_room Block slice slots order n on add_room, p))

            pub add_refused : (i k : ℕ) → c ≡ Err (fault i k) → Taken line slice slots slots' order order' n (record { check = Err (fault i k); count = n })
            add_refused i k e =
                let f : c ≡ Ok tt → ⊥ = λ q. (let z : ◌≡◌ {A = ℕ} 0 1 = cc in omega arith) in
                rw ((in-book.stays f).0, (in-book.stays f).1) (line_faulty i k (sym add_check ∙ e))

            pub add_taken : c ≡ Ok tt → Taken line slice slots slots' order order' n (record { check = Ok tt; count = n + 1 })
            add_taken e =
                rw add-one record {
                  is = sym e ∙ add_check;
                  on = λ q. in-book.on e;
                  grants = λ q. in-book.enters e ∙ sym (leaves_of Add w ∙ ap (λ (r : Row). granted Add r b) (sym (row_whole eleven p)));
                  stays = λ q. absurd (q refl);
                }

    -- R
    module _ (w : wish (fields line) ≡ Replace) (c : Check) where
      abbrev judged : Check → Check
      judged missing = j.check ⊳ (ends_early when time_fault Block j.row ⊳ (missing ⊳ unknown Block j.row (book_of slice)))

      replace_check : (missing : Check) → missing ≡ missing_block j.row b → c ≡ judged missing → c ≡ slip_check line b
      replace_check missing e f =
          f ∙ rw (e, ← unknown_with Block j.row xs (book_of slice)) (replace_read fs b j read) ∙ sym (check_of_lem Replace w)

      pub replace_missing : (i : ℕ) → spot 4 j.row xs ≡ Err i → (missing : Check) → missing ≡ no_block → c ≡ judged missing → Taken line slice slots slots order order n (record { check = c; count = n })
      replace_missing i s missing e f =
          line_stays c (replace_check missing (e ∙ sym (missing_gap i s)) f) fails
        where
          fails : c ≡ Ok tt → ⊥
          fails p = then_fails j.check _ (then_fails (ends_early when time_fault Block j.row) _ (λ q. let z : ◌≡◌ {A = ℕ} 0 1 = cc in omega arith)) (rw e at (sym f ∙ p))

      module _ (i : ℕ) (s : spot 4 j.row xs ≡ Ok i) (f : c ≡ judged (Ok tt)) where
        check_standing : c ≡ slip_check line b
        check_standing = replace_check (Ok tt) (sym (missing_at i s)) f

        pub replace_refused : (m k : ℕ) → c ≡ Err (fault m k) → Taken line slice slots slots order order n (record { check = Err (fault m k); count = n })
        replace_refused m k e = line_faulty m k (sym check_standing ∙ e)

        pub replace_taken : c ≡ Ok tt → (slots' : List Row) → slots' ≡ set slots (get_or order i 0) j.row → Taken line slice slots slots' order order n (record { check = Ok tt; count = n })
        replace_taken e slots' g =
            let h : i < n = place_within i s in
            line_passes slots' order n (set_shelf slots order n on.shelf i j.row h slots' g) (ap length g ∙ length-set slots (get_or order i 0) j.row ∙ on.long)
            (replaced 4 j.row xs) (set_replaced slots order n on.shelf i j.row h slots' g 4 s) (sym check_standing ∙ e)
            (rising_replaced 4 j.row xs on.rises) (versioned_replaced 4 j.row xs (lit≤ tt) (versioned_shelf Block slice slots order n on))
            (sym (leaves_of Replace w ∙ ap (λ (r : Row). granted Replace r b) (sym replace_row)))
          where
            replace_row : j.row ≡ row_in line
            replace_row =
                row_whole (wish_size (fields line) Replace w (λ q. let z : ◌≡◌ {A = ℕ} 0 1 = cc in omega arith)) (both j.check _ (sym f ∙ e)).0

    -- D
    module _ (w : wish (fields line) ≡ Delete) where
      pub delete_missing : (i : ℕ) → spot 4 j.row xs ≡ Err i → (missing c : Check) → missing ≡ no_block → c ≡ j.check ⊳ missing → Taken line slice slots slots order order n (record { check = c; count = n })
      delete_missing i s missing c e f =
          line_stays c (f ∙ ap (λ (q : Check). j.check ⊳ q) (e ∙ sym (missing_gap i s)) ∙ delete_read fs b j read ∙ sym (check_of_lem Delete w)) fails
        where
          fails : c ≡ Ok tt → ⊥
          fails p = then_fails j.check no_block (λ q. let z : ◌≡◌ {A = ℕ} 0 1 = cc in omega arith) (rw e at (sym f ∙ p))

      pub delete_refused : (m k : ℕ) → j.check ≡ Err (fault m k) → Taken line slice slots slots order order n (record { check = Err (fault m k); count = n })
      delete_refused m k e = line_faulty m k (check_of_lem Delete w ∙ sym (delete_read fs b j read) ∙ rw e)

      module _ (i : ℕ) (s : spot 4 j.row xs ≡ Ok i) where
        pub delete_taken : j.check ≡ Ok tt → (order' : List ℕ) → order' ≡ taken_out n i (get_or order i 0) order → Taken line slice slots slots order order' n (record { check = Ok tt; count = n - 1 })
        delete_taken e order' o =
            let h : i < n = place_within i s in
            line_passes slots order' (n - 1) (free_shelf slots order n on.shelf i j.row h order' o) on.long
            (removed 4 j.row xs) (free_removed slots order n on.shelf i j.row h order' o 4 s)
            (check_of_lem Delete w ∙ sym (delete_read fs b j read) ∙ rw (e, missing_at i s))
            (rising_removed 4 j.row xs on.rises) (versioned_removed 4 j.row xs (versioned_shelf Block slice slots order n on))
            (sym (leaves_of Delete w ∙ ap (λ (l : List Row). with_rows Block l (book_of slice)) (sym (ap (λ (r : Row). removed 4 r xs) (row_read_lem fs b j read e) ∙ removed_wide 4 (row_in line) xs))))
