-- The rule of what is kept, taken apart. Assumes nothing.
use mathlib.Core.Path.{◌≡◌}
use mathlib.Core.Bool.{true, ◌&&◌}
use Prim.Native.Nat.{ℕ, suc, ◌+◌, ◌≤◌}
use lib.Dec.{leb}
use lib.ListN.{length}
use borrow.Author.Tests.{leb-true, le-leb}
use Rattle.words.specs.Words.{Bytes}
use Rattle.words.proofs.Lists.{and_left, and_right}
use Rattle.tables.specs.declared.Table.{Table}
use Rattle.book.specs.Book.{Book}
use Rattle.keeping.specs.Keeping.{lawful_book}
use Rattle.radio.specs.Radio.{Course, going, hears, most_counted, kept_line}
use Rattle.radio.specs.Rule.{lawful_head, lawful_course, lawful_radio}

pub record Kept (t : Table) (n : ℕ) (b : Book) (i : ℕ) (head rest : Bytes) : Type 0 where
  pub book : lawful_book b ≡ true
  pub some : 1 ≤ i
  pub few : i + length rest ≤ suc n
  pub top : lawful_head b.edition t i head ≡ true
  pub short : length rest ≤ kept_line

module _ (t : Table) (n : ℕ) (b : Book) (i : ℕ) (head rest : Bytes) where
  pub kept : lawful_course t n (going b i head rest) ≡ true → Kept t n b i head rest
  kept e =
      let e4 = and_left (lawful_book b && leb 1 i && leb (i + length rest) (suc n) && lawful_head b.edition t i head) (leb (length rest) kept_line) e in
      let e3 = and_left (lawful_book b && leb 1 i && leb (i + length rest) (suc n)) (lawful_head b.edition t i head) e4 in
      let e2 = and_left (lawful_book b && leb 1 i) (leb (i + length rest) (suc n)) e3 in
      record {
        book = and_left (lawful_book b) (leb 1 i) e2;
        some = leb-true 1 i (and_right (lawful_book b) (leb 1 i) e2);
        few = leb-true (i + length rest) (suc n) (and_right (lawful_book b && leb 1 i) (leb (i + length rest) (suc n)) e3);
        top = and_right (lawful_book b && leb 1 i && leb (i + length rest) (suc n)) (lawful_head b.edition t i head) e4;
        short = leb-true (length rest) kept_line (and_right (lawful_book b && leb 1 i && leb (i + length rest) (suc n) && lawful_head b.edition t i head) (leb (length rest) kept_line) e);
      }

  pub is_lawful : Kept t n b i head rest → lawful_course t n (going b i head rest) ≡ true
  is_lawful k = rw (k.book, le-leb 1 i k.some, le-leb (i + length rest) (suc n) k.few, k.top, le-leb (length rest) kept_line k.short)

pub record Heard (t : Table) (a n : ℕ) (c : Course) : Type 0 where
  pub announced : a ≤ most_counted
  pub come : n ≤ most_counted
  pub course : lawful_course t n c ≡ true

pub heard_of : (t : Table) (a n : ℕ) (c : Course) → lawful_radio (hears t a n c) ≡ true → Heard t a n c
unfolding lawful_radio
heard_of t a n c e =
    let e2 = and_left (leb a most_counted && leb n most_counted) (lawful_course t n c) e in
    record {
      announced = leb-true a most_counted (and_left (leb a most_counted) (leb n most_counted) e2);
      come = leb-true n most_counted (and_right (leb a most_counted) (leb n most_counted) e2);
      course = and_right (leb a most_counted && leb n most_counted) (lawful_course t n c) e;
    }

pub of_heard : (t : Table) (a n : ℕ) (c : Course) → Heard t a n c → lawful_radio (hears t a n c) ≡ true
unfolding lawful_radio
of_heard t a n c h = rw (le-leb a most_counted h.announced, le-leb n most_counted h.come, h.course)
