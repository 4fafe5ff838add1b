-- Lines that are finished come to what their rows come to. Assumes nothing.
use mathlib.Core.Path.{◌≡◌, refl, ap, ◌∙◌}
use mathlib.Core.List.{List, [], ◌∷◌, ◌++◌}
use mathlib.Core.Bool.{Bool, true, false}
use Prim.Native.Nat.{ℕ, suc, ◌≤◌, ◌<◌}
use native.Mathlib.Omega.{arith}
use lib.Dec.{ltb}
use lib.ListN.{length, length-append}
use borrow.Author.Tests.{ltb-true, ltb-false, ne_eqb}
use Rattle.words.specs.Words.{Bytes, Row, whether◌then◌else◌}
use Rattle.refusals.specs.Verdicts.{◌⊳◌, ◌when◌, placed, too_many_rows, line_too_long, Verdict}
use Rattle.std.specs.Prelude.{Ok, Err}
use Rattle.lines.specs.Lines.{line_after, lines, most_line}
use Rattle.editions.specs.declared.Edition.{Edition}
use Rattle.tables.specs.Columns.{number}
use Rattle.tables.specs.declared.Table.{Table}
use Rattle.book.specs.Book.{Book, entered, full}
use Rattle.book.specs.Holding.{result_of}
use Rattle.book.specs.Result.{Result, refused, leaves, unless}
use Rattle.row_line.specs.RowLine.{row_read}
use Rattle.table_lines.specs.Reading.{judged, rows_read}
use Rattle.table_lines.specs.Taking.{lines_after}
use Rattle.radio.specs.Radio.{Course, stopped, going, onward, header_in, line_heard, row_heard, byte_heard, ended, ends_line, kept_line}
use Rattle.radio.proofs.Parting.{lines_behind, lines_all, FirstLong, first_long}
use Rattle.radio.specs.Hearing.{bytes_heard}
use Rattle.radio.proofs.Hearing.{over_stopped, long_judged, line_after_lem}
use Rattle.radio_lines.specs.Lines.{Finished}

-- what a result of rows comes to behind them, on line i
abbrev pub coursed : Result → ℕ → Bytes → Course
coursed (refused p) i head = stopped p
coursed (leaves b) i head = going b i head []

pub coursed_unless : (v : Verdict) (b : Book) (i : ℕ) (head : Bytes) → coursed (unless v (leaves b)) i head ≡ onward v (going b i head [])
coursed_unless (Ok _) b i head = refl
coursed_unless (Err p) b i head = refl

-- the line counts only where the rows are accepted
pub coursed_line : (v : Verdict) (xs : List Row) (i j : ℕ) (head : Bytes) → (v ≡ Ok tt → i ≡ j) → coursed (result_of v xs) i head ≡ coursed (result_of v xs) j head
coursed_line (Ok _) xs i j head k = ap (λ (n : ℕ). coursed (result_of (Ok tt) xs) n head) (k refl)
coursed_line (Err p) xs i j head k = refl

pub lines_low : (e : Edition) (i : ℕ) (ls : List Bytes) → i ≤ lines_after e i ls
unfolding lines_after
lines_low e i [] = omega arith
lines_low e i (l ∷ ls) = omega (arith, lines_low e (line_after e i l) ls, line_after_lem e i l)

pub row_heard_lem : (t : Table) (line : Bytes) (b : Book) (i : ℕ) (head : Bytes) → (i ≡ 1 → ⊥) → line_heard t line b i head ≡ row_heard t line b i head
unfolding line_heard
row_heard_lem t line b i head n = rw (ne_eqb i 1 n)

module _ (t : Table) (head : Bytes) where
  -- a long line stops the table
  long_row : (s l : Bytes) (ls : List Bytes) (b : Book) (i : ℕ) → 2 ≤ i → most_line < length l → (m : Bytes) → most_line < length m →
      bytes_heard t s (line_heard t l b i head) ≡ coursed (rows_read t (header_in b.edition t head) i (m ∷ ls) b) (lines_after b.edition i (m ∷ ls)) head
  unfolding rows_read
  long_row s l ls b i two n m k =
      rw (row_heard_lem t l b i head (λ e. omega arith), long_judged t (header_in b.edition t head) l b n, long_judged t (header_in b.edition t head) m b k) (go (full t b))
    where
      go : (q : Bool) → bytes_heard t s (onward (placed (number t) i (too_many_rows when q ⊳ line_too_long)) (going (entered t (row_read b.edition t (header_in b.edition t head) l) b) (line_after b.edition i l) head []))
          ≡ coursed (unless (placed (number t) i (too_many_rows when q ⊳ line_too_long)) (rows_read t (header_in b.edition t head) (line_after b.edition i m) ls (entered t (row_read b.edition t (header_in b.edition t head) m) b))) (lines_after b.edition i (m ∷ ls)) head
      go true = over_stopped t s _
      go false = over_stopped t s _

  rows_coursed : (s : Bytes) (b : Book) (i : ℕ) (rest : Bytes) → 2 ≤ i → length rest ≤ kept_line → Finished b.edition rest s →
      bytes_heard t s (going b i head rest) ≡ coursed (rows_read t (header_in b.edition t head) i (lines_behind b.edition rest s) b) (lines_after b.edition i (lines_behind b.edition rest s)) head
  unfolding bytes_heard lines_behind rows_read byte_heard Finished lines_after
  rows_coursed [] b i [] two few fed = refl
  rows_coursed [] b i (x ∷ xs) two few fed = let z : ◌≡◌ {A = ℕ} (length (x ∷ xs)) 0 = ap length fed in absurd (omega arith)
  rows_coursed (x ∷ s) b i rest two few fed =
      go (ends_line b.edition rest x) refl (ltb (length rest) kept_line) refl fed (λ c j l f. rows_coursed s c j [] l (omega arith) f) (λ l f. rows_coursed s b i (rest ++ (x ∷ [])) two l f)
    where
      came : List Bytes → ℕ → Book → Course
      came ls j c = coursed (rows_read t (header_in c.edition t head) j ls c) (lines_after c.edition j ls) head

      IH : Type 0
      IH = (c : Book) (j : ℕ) → 2 ≤ j → Finished c.edition [] s → bytes_heard t s (going c j head []) ≡ came (lines_behind c.edition [] s) j c

      row : (line : Bytes) (v : Verdict) → IH → Finished b.edition [] s →
          bytes_heard t s (onward v (going (entered t (row_read b.edition t (header_in b.edition t head) line) b) (line_after b.edition i line) head []))
          ≡ coursed (unless v (rows_read t (header_in b.edition t head) (line_after b.edition i line) (lines_behind b.edition [] s) (entered t (row_read b.edition t (header_in b.edition t head) line) b))) (lines_after b.edition (line_after b.edition i line) (lines_behind b.edition [] s)) head
      row line (Ok _) ih f = ih _ (line_after b.edition i line) (omega (arith, line_after_lem b.edition i line)) f
      row line (Err p) ih f = over_stopped t s p

      go : (q : Bool) → ends_line b.edition rest x ≡ q → (u : Bool) → ltb (length rest) kept_line ≡ u → Finished b.edition (whether q then [] else rest ++ (x ∷ [])) s → IH →
          (length (rest ++ (x ∷ [])) ≤ kept_line → Finished b.edition (rest ++ (x ∷ [])) s → bytes_heard t s (going b i head (rest ++ (x ∷ []))) ≡ came (lines_behind b.edition (rest ++ (x ∷ [])) s) i b) →
          bytes_heard t s (byte_heard t x (going b i head rest))
          ≡ came (whether q then ended rest ∷ lines_behind b.edition [] s else lines_behind b.edition (rest ++ (x ∷ [])) s) i b
      go true e u f fin ih more = rw (e, row_heard_lem t (ended rest) b i head (λ z. omega arith)) (row (ended rest) (placed (number t) i (judged t (header_in b.edition t head) (ended rest) b)) ih fin)
      go false e true f fin ih more = rw (e, f) (more (rw length-append (omega (arith, ltb-true (length rest) kept_line f))) fin)
      go false e false f fin ih more =
          let long : (suc kept_line) ≤ length (rest ++ (x ∷ [])) = rw length-append (omega (arith, ltb-false (length rest) kept_line f)) in
          let first : FirstLong (lines_behind b.edition (rest ++ (x ∷ [])) s) = first_long b.edition (rest ++ (x ∷ [])) s long in
          rw (e, f, first.is) (long_row s (rest ++ (x ∷ [])) first.behind b i two (omega arith) first.line first.long)

  pub rows_came : (s : Bytes) (b : Book) (i : ℕ) → 2 ≤ i → Finished b.edition [] s → bytes_heard t s (going b i head []) ≡ coursed (rows_read t (header_in b.edition t head) i (lines b.edition s) b) (lines_after b.edition i (lines b.edition s)) head
  rows_came s b i two fed = rows_coursed s b i [] two (omega arith) fed ∙ ap (λ (ls : List Bytes). coursed (rows_read t (header_in b.edition t head) i ls b) (lines_after b.edition i ls) head) (lines_all b.edition s)
