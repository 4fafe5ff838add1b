-- A table in parts comes to what it comes to as a whole. Assumes nothing.
use mathlib.Core.Path.{◌≡◌, refl, ap, ◌∙◌}
use mathlib.Core.List.{List, [], ◌∷◌, ◌++◌}
use mathlib.Core.Bool.{Bool, true, false}
use Prim.Native.Nat.{ℕ, suc, ◌+◌, ◌≤◌, ◌<◌}
use native.Mathlib.Omega.{arith}
use lib.Dec.{eqb, ltb}
use lib.ListN.{length, length-append}
use borrow.Author.Tests.{ltb-true, ltb-false, lt-ltb, le-ltb, eq-eqb, ne_eqb}
use Rattle.words.specs.Words.{Bytes, whether◌then◌else◌}
use Rattle.refusals.specs.Verdicts.{◌⊳◌, ◌when◌, placed, in_header, too_many_rows, line_too_long, Check, Verdict}
use Rattle.refusals.specs.declared.Place.{Place}
use Rattle.std.specs.Prelude.{Ok, Err}
use Rattle.lines.specs.Lines.{line_after, head_line, row_lines, most_line, most_bytes}
use Rattle.lines.proofs.Starting.{breaks_most}
use Rattle.lines.proofs.Starting as starting
use Rattle.editions.specs.declared.Edition.{Edition}
use Rattle.tables.specs.Columns.{number}
use Rattle.tables.specs.declared.Table.{Table}
use Rattle.book.specs.Book.{Book, entered, full}
use Rattle.book.specs.Result.{Result, refused, leaves, unless}
use Rattle.header.specs.Header.{Header, header_check}
use Rattle.row_line.specs.RowLine.{row_read}
use Rattle.table_lines.specs.Reading.{judged, rows_read}
use Rattle.table_reading.specs.Reading.{table_read}
use Rattle.radio.specs.Radio.{Course, stopped, going, onward, header_in, line_heard, head_heard, row_heard, byte_heard, finished, came_to, ended, ends_line, fault_before, kept_line}
use Rattle.radio.specs.Hearing.{bytes_heard}
use Rattle.radio.proofs.Parting.{lines_behind, lines_all, FirstLong, first_long}

-- a line ends behind its begin, and no further than it has bytes
pub line_after_lem : (e : Edition) (i : ℕ) (line : Bytes) → i < line_after e i line
line_after_lem e i line = omega (arith, starting.line_after_lem e i line)

pub line_before : (e : Edition) (i : ℕ) (line : Bytes) → line_after e i line ≤ suc (i + length line)
line_before e i line = omega (arith, starting.line_after_lem e i line, breaks_most e line)

pub over_stopped : (t : Table) (s : Bytes) (p : Place) → bytes_heard t s (stopped p) ≡ stopped p
unfolding bytes_heard byte_heard
over_stopped t [] p = refl
over_stopped t (x ∷ s) p = over_stopped t s p

finished_stopped : (t : Table) (s : Bytes) (p : Place) → finished t (bytes_heard t s (stopped p)) ≡ refused p
unfolding finished
finished_stopped t s p = ap (finished t) (over_stopped t s p)

-- 17, and 5, of a line do not depend on the rest of it
pub long_judged : (t : Table) (h : Header) (l : Bytes) (b : Book) → most_line < length l → judged t h l b ≡ (too_many_rows when full t b ⊳ line_too_long)
unfolding judged
long_judged t h l b n = rw (lt-ltb most_line (length l) n)

pub long_headed : (e : Edition) (t : Table) (l : Bytes) → most_line < length l → header_check e t l ≡ line_too_long
unfolding header_check
long_headed e t l n = rw (lt-ltb most_line (length l) n)

-- so a long line stops the table, at the same place whichever line it is
pub record Stops (c : Course) : Type 0 where
  pub at : Place
  pub is : c ≡ stopped at

stops_row : (t : Table) (i : ℕ) (q : Bool) (c : Course) → Stops (onward (placed (number t) i (too_many_rows when q ⊳ line_too_long)) c)
stops_row t i true c = record { at = _; is = refl }
stops_row t i false c = record { at = _; is = refl }

pub long_stops : (t : Table) (l : Bytes) (b : Book) (i : ℕ) (head : Bytes) → most_line < length l → Stops (line_heard t l b i head)
unfolding line_heard
long_stops t l b i head n = go (eqb i 1)
  where
    go : (q : Bool) → Stops (whether q then head_heard t l b else row_heard t l b i head)
    go true = rw (long_headed b.edition t l n) (record { at = _; is = refl })
    go false = rw (long_judged t (header_in b.edition t head) l b n) (stops_row t i (full t b) _)

pub long_alike : (t : Table) (l m : Bytes) (b : Book) (i : ℕ) (head : Bytes) → most_line < length l → most_line < length m → line_heard t l b i head ≡ line_heard t m b i head
unfolding line_heard
long_alike t l m b i head n k = go (eqb i 1)
  where
    same : (q : Bool) (c e : Course) → onward (placed (number t) i (too_many_rows when q ⊳ line_too_long)) c ≡ onward (placed (number t) i (too_many_rows when q ⊳ line_too_long)) e
    same true c e = refl
    same false c e = refl

    go : (q : Bool) → (whether q then head_heard t l b else row_heard t l b i head) ≡ (whether q then head_heard t m b else row_heard t m b i head)
    go true = rw (long_headed b.edition t l n, long_headed b.edition t m k)
    go false = rw (long_judged t (header_in b.edition t head) l b n, long_judged t (header_in b.edition t head) m b k) (same (full t b) _ _)

-- the rows ----------------------------------------------------------------------------------------------------------------

module _ (t : Table) (head : Bytes) where
  pub row_heard_lem : (line : Bytes) (b : Book) (i : ℕ) → 2 ≤ i → line_heard t line b i head ≡ row_heard t line b i head
  unfolding line_heard
  row_heard_lem line b i l = rw (ne_eqb i 1 (λ e. omega arith))

  result_onward : (v : Verdict) (b : Book) (i : ℕ) → came_to (onward v (going b i head [])) ≡ unless v (leaves b)
  result_onward (Ok _) b i = refl
  result_onward (Err p) b i = refl

  -- a long line ends it
  long_row : (s l : Bytes) (ls : List Bytes) (b : Book) (i : ℕ) → 2 ≤ i → most_line < length l → (m : Bytes) → most_line < length m →
      finished t (bytes_heard t s (line_heard t l b i head)) ≡ rows_read t (header_in b.edition t head) i (m ∷ ls) b
  unfolding rows_read
  long_row s l ls b i two n m k =
      rw (row_heard_lem l b i two, long_judged t (header_in b.edition t head) l b n, long_judged t (header_in b.edition t head) m b k) (go (full t b))
    where
      go : (q : Bool) → finished t (bytes_heard t s (onward (placed (number t) i (too_many_rows when q ⊳ line_too_long)) (going (entered t (row_read b.edition t (header_in b.edition t head) l) b) (line_after b.edition i l) head [])))
          ≡ unless (placed (number t) i (too_many_rows when q ⊳ line_too_long)) (rows_read t (header_in b.edition t head) (line_after b.edition i m) ls (entered t (row_read b.edition t (header_in b.edition t head) m) b))
      go true = finished_stopped t s _
      go false = finished_stopped t s _

  pub rows_over : (s : Bytes) (b : Book) (i : ℕ) (rest : Bytes) → 2 ≤ i → length rest ≤ kept_line →
      finished t (bytes_heard t s (going b i head rest)) ≡ rows_read t (header_in b.edition t head) i (lines_behind b.edition rest s) b
  unfolding bytes_heard lines_behind finished rows_read byte_heard
  rows_over [] b i [] two few = rw (ne_eqb i 1 (λ e. omega arith))
  rows_over [] b i (x ∷ xs) two few = rw (ne_eqb i 1 (λ e. omega arith), row_heard_lem (x ∷ xs) b i two) (result_onward (placed (number t) i (judged t (header_in b.edition t head) (x ∷ xs) b)) _ (line_after b.edition i (x ∷ xs)))
  rows_over (x ∷ s) b i rest two few = go (ends_line b.edition rest x) refl (ltb (length rest) kept_line) refl (λ c j l. rows_over s c j [] l (omega arith)) (rows_over s b i (rest ++ (x ∷ [])) two)
    where
      IH : Type 0
      IH = (c : Book) (j : ℕ) → 2 ≤ j → finished t (bytes_heard t s (going c j head [])) ≡ rows_read t (header_in c.edition t head) j (lines_behind c.edition [] s) c

      row : (line : Bytes) (v : Verdict) → IH →
          finished t (bytes_heard t s (onward v (going (entered t (row_read b.edition t (header_in b.edition t head) line) b) (line_after b.edition i line) head [])))
          ≡ unless v (rows_read t (header_in b.edition t head) (line_after b.edition i line) (lines_behind b.edition [] s) (entered t (row_read b.edition t (header_in b.edition t head) line) b))
      row line (Ok _) ih = ih _ (line_after b.edition i line) (omega (arith, line_after_lem b.edition i line))
      row line (Err p) ih = finished_stopped t s p

      go : (q : Bool) → ends_line b.edition rest x ≡ q → (u : Bool) → ltb (length rest) kept_line ≡ u → IH →
          (length (rest ++ (x ∷ [])) ≤ kept_line → finished t (bytes_heard t s (going b i head (rest ++ (x ∷ [])))) ≡ rows_read t (header_in b.edition t head) i (lines_behind b.edition (rest ++ (x ∷ [])) s) b) →
          finished t (bytes_heard t s (byte_heard t x (going b i head rest)))
          ≡ rows_read t (header_in b.edition t head) i (whether q then ended rest ∷ lines_behind b.edition [] s else lines_behind b.edition (rest ++ (x ∷ [])) s) b
      go true e u f ih more = rw (e, row_heard_lem (ended rest) b i two) (row (ended rest) (placed (number t) i (judged t (header_in b.edition t head) (ended rest) b)) ih)
      go false e true f ih more = rw (e, f) (more (rw length-append (omega (arith, ltb-true (length rest) kept_line f))))
      go false e false f ih more =
          let long : (suc kept_line) ≤ length (rest ++ (x ∷ [])) = rw length-append (omega (arith, ltb-false (length rest) kept_line f)) in
          let first : FirstLong (lines_behind b.edition (rest ++ (x ∷ [])) s) = first_long b.edition (rest ++ (x ∷ [])) s long in
          rw (e, f, first.is) (long_row s (rest ++ (x ∷ [])) first.behind b i two (omega arith) first.line first.long)

-- the header, and the whole table -----------------------------------------------------------------------------------------

-- what the lines of a text come to, below its length
abbrev pub lines_read : Table → List Bytes → Book → Result
lines_read t ls b = unless (in_header (number t) (header_check b.edition t (head_line ls))) (rows_read t (header_in b.edition t (head_line ls)) (line_after b.edition 1 (head_line ls)) (row_lines ls) b)

module _ (t : Table) (head : Bytes) where
  head_heard_lem : (line : Bytes) (b : Book) → line_heard t line b 1 head ≡ head_heard t line b
  unfolding line_heard
  head_heard_lem line b = refl

  head_result : (v : Verdict) (b : Book) (line : Bytes) → came_to (onward v (going b (line_after b.edition 1 line) line [])) ≡ unless v (leaves b)
  head_result (Ok _) b line = refl
  head_result (Err p) b line = refl

  long_head : (s l : Bytes) (ls : List Bytes) (b : Book) → most_line < length l → (m : Bytes) → most_line < length m → finished t (bytes_heard t s (line_heard t l b 1 head)) ≡ lines_read t (m ∷ ls) b
  long_head s l ls b n m k = rw (head_heard_lem l b, long_headed b.edition t l n, long_headed b.edition t m k) (finished_stopped t s _)

  pub head_over : (s : Bytes) (b : Book) (rest : Bytes) → length rest ≤ kept_line → finished t (bytes_heard t s (going b 1 head rest)) ≡ lines_read t (lines_behind b.edition rest s) b
  unfolding bytes_heard lines_behind finished rows_read byte_heard
  head_over [] b [] few = rw head_heard_lem (head_result (in_header (number t) (header_check b.edition t [])) b [])
  head_over [] b (x ∷ xs) few = rw head_heard_lem (head_result (in_header (number t) (header_check b.edition t (x ∷ xs))) b (x ∷ xs))
  head_over (x ∷ s) b rest few = go (ends_line b.edition rest x) refl (ltb (length rest) kept_line) refl (head_over s b (rest ++ (x ∷ [])))
    where
      top : (line : Bytes) (v : Verdict) →
          finished t (bytes_heard t s (onward v (going b (line_after b.edition 1 line) line []))) ≡ unless v (rows_read t (header_in b.edition t line) (line_after b.edition 1 line) (lines_behind b.edition [] s) b)
      top line (Ok _) = rows_over t line s b (line_after b.edition 1 line) [] (line_after_lem b.edition 1 line) (omega arith)
      top line (Err p) = finished_stopped t s p

      go : (q : Bool) → ends_line b.edition rest x ≡ q → (u : Bool) → ltb (length rest) kept_line ≡ u →
          (length (rest ++ (x ∷ [])) ≤ kept_line → finished t (bytes_heard t s (going b 1 head (rest ++ (x ∷ [])))) ≡ lines_read t (lines_behind b.edition (rest ++ (x ∷ [])) s) b) →
          finished t (bytes_heard t s (byte_heard t x (going b 1 head rest)))
          ≡ lines_read t (whether q then ended rest ∷ lines_behind b.edition [] s else lines_behind b.edition (rest ++ (x ∷ [])) s) b
      go true e u f more = rw (e, head_heard_lem (ended rest) b) (top (ended rest) (in_header (number t) (header_check b.edition t (ended rest))))
      go false e true f more = rw (e, f) (more (rw length-append (omega (arith, ltb-true (length rest) kept_line f))))
      go false e false f more =
          let long : (suc kept_line) ≤ length (rest ++ (x ∷ [])) = rw length-append (omega (arith, ltb-false (length rest) kept_line f)) in
          let first : FirstLong (lines_behind b.edition (rest ++ (x ∷ [])) s) = first_long b.edition (rest ++ (x ∷ [])) s long in
          rw (e, f, first.is) (long_head s (rest ++ (x ∷ [])) first.behind b (omega arith) first.line first.long)

pub table_over : (t : Table) (s : Bytes) (b : Book) → length s ≤ most_bytes → finished t (bytes_heard t s (going b 1 [] [])) ≡ table_read t s b
unfolding table_read
table_over t s b n =
    head_over t [] s b [] (omega arith) ∙ ap (λ (ls : List Bytes). lines_read t ls b) (lines_all b.edition s)
    ∙ rw (le-ltb most_bytes (length s) n)

-- a fault that comes of its bytes is the table's own ------------------------------------------------------------------------

own_onward : (t : Table) (i : ℕ) (v : Check) (b : Book) (j : ℕ) (head rest : Bytes) → fault_before t (onward (placed (number t) i v) (going b j head rest)) ≡ false
own_onward t i (Ok _) b j head rest = refl
own_onward t i (Err f) b j head rest = rw (eq-eqb (number t) (number t) refl)

own_line : (t : Table) (line : Bytes) (b : Book) (i : ℕ) (head : Bytes) → fault_before t (line_heard t line b i head) ≡ false
unfolding line_heard
own_line t line b i head = go (eqb i 1)
  where
    go : (q : Bool) → fault_before t (whether q then head_heard t line b else row_heard t line b i head) ≡ false
    go true = own_onward t 1 (header_check b.edition t line) b (line_after b.edition 1 line) line []
    go false = own_onward t i (judged t (header_in b.edition t head) line b) _ (line_after b.edition i line) head []

own_byte : (t : Table) (x : ℕ) (c : Course) → fault_before t c ≡ false → fault_before t (byte_heard t x c) ≡ false
unfolding byte_heard
own_byte t x (stopped p) e = e
own_byte t x (going b i head rest) e = go (ends_line b.edition rest x) (ltb (length rest) kept_line)
  where
    go : (q u : Bool) → fault_before t (whether q then line_heard t (ended rest) b i head else whether u then going b i head (rest ++ (x ∷ [])) else line_heard t (rest ++ (x ∷ [])) b i head) ≡ false
    go true u = own_line t (ended rest) b i head
    go false true = refl
    go false false = own_line t (rest ++ (x ∷ [])) b i head

pub own_fault : (t : Table) (s : Bytes) (c : Course) → fault_before t c ≡ false → fault_before t (bytes_heard t s c) ≡ false
unfolding bytes_heard
own_fault t [] c e = e
own_fault t (x ∷ s) c e = own_fault t s (byte_heard t x c) (own_byte t x c e)

-- the edition of the book that is read stays --------------------------------------------------------------------------------

abbrev pub Of : Edition → Course → Type 0
Of e (stopped p) = Unit {0}
Of e (going b i head rest) = b.edition ≡ e

module _ (e : Edition) (t : Table) where
  of_onward : (v : Verdict) (c : Course) → Of e c → Of e (onward v c)
  of_onward (Ok _) c o = o
  of_onward (Err p) c o = tt

  pub of_line : (line : Bytes) (b : Book) (i : ℕ) (head : Bytes) → b.edition ≡ e → Of e (line_heard t line b i head)
  unfolding line_heard
  of_line line b i head o = go (eqb i 1)
    where
      go : (q : Bool) → Of e (whether q then head_heard t line b else row_heard t line b i head)
      go true = of_onward (in_header (number t) (header_check b.edition t line)) (going b (line_after b.edition 1 line) line []) o
      go false =
          let h = header_in b.edition t head in
          of_onward (placed (number t) i (judged t h line b)) (going (entered t (row_read b.edition t h line) b) (line_after b.edition i line) head []) o

  of_byte : (x : ℕ) (c : Course) → Of e c → Of e (byte_heard t x c)
  unfolding byte_heard
  of_byte x (stopped p) o = tt
  of_byte x (going b i head rest) o = go (ends_line b.edition rest x) (ltb (length rest) kept_line)
    where
      go : (q u : Bool) → Of e (whether q then line_heard t (ended rest) b i head else whether u then going b i head (rest ++ (x ∷ [])) else line_heard t (rest ++ (x ∷ [])) b i head)
      go true u = of_line (ended rest) b i head o
      go false true = o
      go false false = of_line (rest ++ (x ∷ [])) b i head o

  pub of_bytes : (s : Bytes) (c : Course) → Of e c → Of e (bytes_heard t s c)
  unfolding bytes_heard
  of_bytes [] c o = o
  of_bytes (x ∷ s) c o = of_bytes s (byte_heard t x c) (of_byte x c o)
