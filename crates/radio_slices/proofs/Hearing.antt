-- What is taken up of a table that is heard. Assumes nothing.
use mathlib.Core.Path.{◌≡◌, ap, sym, ◌∙◌}
use mathlib.Core.List.{List}
use mathlib.Core.Bool.{true}
use Prim.Native.Nat.{ℕ, ◌≤◌}
use native.Mathlib.Omega.{arith}
use lib.ListN.{length, take, drop, length-drop}
use lib.Seq.{length-take-le}
use borrow.Author.Tests.{eq-eqb, ne_eqb, eqb-true}
use Rattle.words.specs.Words.{Bytes, Row}
use Rattle.lines.specs.Lines.{most_line}
use Rattle.tables.specs.declared.Table.TheVariants.{StopPoint}
use Rattle.book.specs.Room.{book_of}
use Rattle.rules.proofs.Referring.{passed}
use Rattle.keeping.specs.Keeping.{keeps_rule}
use Rattle.keeping.proofs.Keeping.{keeps_sound, keeps_rows}
use Rattle.keeping.proofs.Points.{points_named_lem}
use Rattle.header.specs.Header.{header_check}
use Rattle.radio.specs.Radio.{stopped}
use Rattle.radio.specs.Rule.{lawful_head, lawful_course}
use Rattle.radio.specs.Room.{fault_in, course_in, keeps_radio, first_heard, turn_of, come_of, line_of, head_of, rest_of, flag_of}
use Rattle.radio.proofs.Lawful as lawful
use Rattle.radio_rule.specs.Lent.{slices}
use Rattle.radio_rule.specs.Testing.{numbers_keep, lines_keep, book_keeps}
use Rattle.radio_rule.proofs.Numbers as numbers
use Rattle.radio_rule.proofs.Numbers.{and_three}
use Rattle.radio_rule.proofs.Rule.{book_lawful, rule_tested}
use Rattle.radio_lines.specs.Lines as hearing
use Rattle.radio_lines.specs.Lines.{Holding}
use Rattle.radio_slices.specs.Hearing.{table_of, taken, Hears}
use Rattle.radio_slices.proofs.Keeping.{fit, numbers_kept, book_long, numbers_long, lines_long}
use Rattle.radio_slices.proofs.Turns.{heard_keeps_lem}

pub hears_so : (b : List Row) (k : List ℕ) (l : Bytes) → keeps_radio (slices b k l) ≡ true → first_heard ≤ turn_of k → Hears b k l
hears_so b k l keeps h =
    let e = heard_keeps_lem (slices b k l) keeps h in
    record { keeps = keeps; rows = book_long b k l keeps; numbers = numbers_long b k l keeps; bytes = lines_long b k l keeps; heard = h; last = (numbers_kept b k l keeps).turns; announced = e.announced; come = e.come }

module _ (b : List Row) (k : List ℕ) (l : Bytes) (h : Hears b k l) where
  pub course_stopped : (flag_of k ≡ 0 → ⊥) → course_in (slices b k l) ≡ stopped (fault_in (slices b k l))
  course_stopped n = rw (ne_eqb (flag_of k) 0 n)

  module _ (e : flag_of k ≡ 0) where
    pub course_going : course_in (slices b k l) ≡ hearing.kept (taken k) b l
    course_going = rw (eq-eqb (flag_of k) 0 e)

    pub lengths : numbers.Course k
    lengths = ((numbers_kept b k l h.keeps).hears h.heard).going e

    book_keeps_lem : keeps_rule b ≡ true
    book_keeps_lem =
        sym (book_lawful k b e)
        ∙ (and_three (numbers_keep k) (lines_keep (book_of b).edition k l) (book_keeps k b) (sym (rule_tested (slices b k l) (fit b k l h.keeps)) ∙ h.keeps)).2

    head_lawful : lawful_head (book_of b).edition (table_of k) (line_of k) (take (head_of k) l) ≡ true
    head_lawful =
        let c : lawful_course (table_of k) (come_of k) (hearing.kept (taken k) b l) ≡ true =
        ap (lawful_course (table_of k) (come_of k)) (sym course_going) ∙ (heard_keeps_lem (slices b k l) h.keeps h.heard).course in
        (lawful.kept (table_of k) (come_of k) (book_of b) (line_of k) (take (head_of k) l) (take (rest_of k) (drop most_line l)) c).top

    pub can_go_on : Holding (table_of k) (taken k) b l
    can_go_on =
        record {
          sound = keeps_sound b book_keeps_lem;
          named = points_named_lem (book_of b) (book_of b).points (keeps_rows b book_keeps_lem StopPoint);
          long = lines_long b k l h.keeps;
          heads = lengths.head;
          rests = lengths.rest;
          begun = lengths.some;
          first = λ f. eqb-true (head_of k) 0 (rw (eq-eqb (line_of k) 1 f) at lengths.first);
          headed = λ n. passed (header_check (book_of b).edition (table_of k) (take (head_of k) l)) (rw (ne_eqb (line_of k) 1 n) at head_lawful);
        }

    pub rest_long : length (take (rest_of k) (drop most_line l)) ≡ rest_of k
    rest_long = length-take-le (rest_of k) (drop most_line l) (omega (arith, length-drop most_line l, h.bytes, lengths.rest))
