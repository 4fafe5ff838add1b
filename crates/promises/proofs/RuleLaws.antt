-- The test of the book rule, and the book as it is laid out in its slice. Assumes nothing.
use mathlib.Core.Path.{◌≡◌, refl, subst, sym, ap, ◌∙◌}
use mathlib.Core.Bool.{true, not, ◌&&◌, Bool}
use mathlib.Core.List.{List, [], ◌∷◌}
use Prim.Native.Nat.{◌≤◌, ℕ}
use native.Mathlib.Omega.{arith}
use lib.ListN.{length, take, get_or}
use lib.Dec.{leb, eqb}
use lib.Seq.{get_or-take}
use borrow.Author.Tests.{leb-true, le-leb, not-true, eq-eqb}
use Rattle.words.specs.Words.{Row, same, all}
use Rattle.words.proofs.Lists.{same_refl, same_true, and_left, and_right}
use Rattle.refusals.specs.Verdicts.{passes, ◌when◌, ◌before◌, nowhere, not_there, bad_loan}
use Rattle.rows.specs.Rows.{wide, rising, column, stands, found}
use Rattle.rows.specs.Room.{same_rows}
use Rattle.rows.proofs.Room.{Versioned, same_rows_refl}
use Rattle.editions.specs.declared.Edition.{Edition}
use Rattle.tables.specs.Columns.{columns_of, key_width, kept_width, Column, no_column, in_range, column_at}
use Rattle.tables.specs.Parts.{room, book_rows}
use Rattle.tables.specs.declared.Table.{Table}
use Rattle.tables.specs.declared.Rules.{Rules}
use Rattle.tables.specs.declared.Table.TheVariants.{VehicleType, Block}
use Rattle.tables.proofs.Figures.{kept_columns, keys_some, keys_kept, version_low}
use Rattle.ranges.proofs.Ranges.{range_within}
use Rattle.book.specs.Book.{Book, rows, knows}
use Rattle.book.specs.Room.{laid, book_of}
use Rattle.book.proofs.Laying.{Orderly, book_laid, sound_laid}
use Rattle.rules.specs.Rules.{time_fault, unknown}
use Rattle.rules.proofs.Referring.{passed}
use Rattle.keeping.specs.Keeping.{ranged, lawful, lawful_table, lawful_book, keeps_rule}
use Rattle.keeping.proofs.Keeping.{tables_lawful, lawful_tables}
use Rattle.questions.specs.Questions.{seconds_of, count_of, seven}
use Rattle.questions.specs.Calls.{type_answered, type_call, block_answered, block_call}
use Rattle.questions.specs.declared.TypeAnswer.{TypeAnswer}
use Rattle.questions.specs.declared.BlockAnswer.{BlockAnswer}
use Rattle.promises.proofs.TestLaws.{and_both, and_three, and_four}
use Rattle.promises.proofs.HeldLaws.{Good, EachGood, Held, good_eleven}
use Rattle.promises.proofs.DeliveryLaws.{Standing}
use Rattle.promises.proofs.PlainLaws.{Eleven, kept_long}

-- lawful rows stand by right ---------------------------------------------------------------------------------------------

module _ (t : Table) (b : Book) where
  lawful_good : (row : Row) → lawful t b row ≡ true → Good t b row
  lawful_good row h =
      let k = and_four (same row (wide (take (kept_width t) row))) (ranged (columns_of b.edition t) (take (kept_width t) row)) (not (time_fault t row)) (passes (unknown t row b)) h in
      record {
        shape = same_true row (wide (take (kept_width t) row)) k.0;
        inside = k.1;
        timed = not-true (time_fault t row) k.2;
        known = passed (unknown t row b) k.3;
      }

  good_lawful : (row : Row) → Good t b row → lawful t b row ≡ true
  good_lawful row g =
      let w : same row (wide (take (kept_width t) row)) ≡ true = subst (λ (z : Row). same row z ≡ true) g.shape (same_refl row) in
      rw (w, g.inside, g.timed, g.known)

  all_good : (xs : List Row) → all (lawful t b) xs ≡ true → EachGood t b xs
  unfolding all EachGood
  all_good [] h = tt
  all_good (x ∷ xs) h = (lawful_good x (and_left (lawful t b x) (all (lawful t b) xs) h), all_good xs (and_right (lawful t b x) (all (lawful t b) xs) h))

  good_all : (xs : List Row) → EachGood t b xs → all (lawful t b) xs ≡ true
  unfolding all EachGood
  good_all [] h = refl
  good_all (x ∷ xs) h = and_both (lawful t b x) (all (lawful t b) xs) (good_lawful x h.0) (good_all xs h.1)

  table_held : lawful_table t b ≡ true → Held t b (rows t b)
  table_held h =
      let xs = rows t b in
      let k = and_three (leb (length xs) (room t)) (rising (key_width t) xs) (all (lawful t b) xs) h in
      record { rising = k.1; good = all_good xs k.2; size = leb-true (length xs) (room t) k.0 }

  held_table : Held t b (rows t b) → lawful_table t b ≡ true
  held_table h = rw (le-leb (length (rows t b)) (room t) h.size, h.rising, good_all (rows t b) h.good)

pub lawful_standing : (b : Book) → lawful_book b ≡ true → Standing b
lawful_standing b h t = table_held t b (tables_lawful b h t)

pub standing_lawful : (b : Book) → Standing b → lawful_book b ≡ true
standing_lawful b h = lawful_tables b (λ t. held_table t b (h t))

-- the slice --------------------------------------------------------------------------------------------------------------

-- VERSION is at least 1
first_inside : (xs : List Column) (ns : Row) → 1 ≤ length xs → 1 ≤ length ns → ranged xs ns ≡ true → in_range (get_or xs 0 no_column).rules (get_or ns 0 0) ≡ true
unfolding ranged
first_inside [] ns l m r = absurd (omega arith)
first_inside (x ∷ xs) [] l m r = absurd (omega arith)
first_inside (x ∷ xs) (n ∷ ns) l m r = and_left (in_range x.rules n) (ranged xs ns) r

first_versioned : (ed : Edition) (t : Table) (row : Row) → Eleven row → ranged (columns_of ed t) (take (kept_width t) row) ≡ true → 1 ≤ column 1 row
first_versioned ed t row e r =
    let x : Rules = (column_at ed t 0).rules in
    let some : 1 ≤ kept_width t = omega (arith, keys_some t, keys_kept t) in
    let inside : in_range x (get_or (take (kept_width t) row) 0 0) ≡ true =
    first_inside (columns_of ed t) (take (kept_width t) row) (omega (arith, kept_columns ed t)) (omega (arith, kept_long t row e)) r in
    let low : x.low ≤ get_or (take (kept_width t) row) 0 0 = (range_within x (get_or (take (kept_width t) row) 0 0) inside).0 in
    omega (arith, version_low ed t, get_or-take (kept_width t) row 0 0 some)

versioned : (t : Table) (b : Book) (xs : List Row) → EachGood t b xs → Versioned xs
unfolding Versioned EachGood
versioned t b [] h = tt
versioned t b (x ∷ xs) h = let g : Good t b x = h.0 in (first_versioned b.edition t x (good_eleven t x g.shape) g.inside, versioned t b xs h.1)

pub standing_orderly : (b : Book) → Standing b → Orderly b
standing_orderly b h = record { few = λ t. (h t).size; rises = λ t. (h t).rising; versioned = λ t. versioned t b (rows t b) (h t).good }

pub laid_keeps : (b : Book) → Standing b → keeps_rule (laid b) ≡ true
laid_keeps b h =
    let o : Orderly b = standing_orderly b h in
    and_both (eqb (length (laid b)) book_rows && lawful_book (book_of (laid b))) (same_rows (laid b) (laid (book_of (laid b))))
    (and_both (eqb (length (laid b)) book_rows) (lawful_book (book_of (laid b))) (eq-eqb (length (laid b)) book_rows (sound_laid b o).long)
    (subst (λ (z : Book). lawful_book z ≡ true) (sym (book_laid b o)) (standing_lawful b h)))
    (subst (λ (z : Book). same_rows (laid b) (laid z) ≡ true) (sym (book_laid b o)) (same_rows_refl (laid b)))

-- the questions on a book that keeps the rule ------------------------------------------------------------------------------

pub type_asked : (b : Book) → Standing b → (version type : ℕ) →
    type_call (laid b) version type
    ≡ type_answered (nowhere (not_there when not (stands 2 (version ∷ type ∷ []) b.types))) (seconds_of version type b.blocks) (count_of version type b.blocks)
type_asked b h version type =
    let answer : Bool → Book → TypeAnswer =
    λ q z. type_answered (nowhere (bad_loan when not q) before nowhere (not_there when not (knows VehicleType (version ∷ type ∷ []) z)))
    (seconds_of version type z.blocks) (count_of version type z.blocks) in
    ap (λ (q : Bool). answer q (book_of (laid b))) (laid_keeps b h) ∙ ap (λ (z : Book). answer true z) (book_laid b (standing_orderly b h))

pub block_asked : (b : Book) → Standing b → (version day depot block : ℕ) →
    let key = version ∷ day ∷ depot ∷ block ∷ [] in
    block_call (laid b) version day depot block ≡ block_answered (nowhere (not_there when not (stands 4 key b.blocks))) (seven (found 4 key b.blocks))
block_asked b h version day depot block =
    let key : Row = version ∷ day ∷ depot ∷ block ∷ [] in
    let answer : Bool → Book → BlockAnswer =
    λ q z. block_answered (nowhere (bad_loan when not q) before nowhere (not_there when not (knows Block key z))) (seven (found 4 key z.blocks)) in
    ap (λ (q : Bool). answer q (book_of (laid b))) (laid_keeps b h) ∙ ap (λ (z : Book). answer true z) (book_laid b (standing_orderly b h))
