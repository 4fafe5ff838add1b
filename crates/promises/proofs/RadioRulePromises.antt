-- The rule of what is kept between parts is kept by every call, and the book that closes keeps the book rule. Assumes nothing.
use mathlib.Core.Path.{◌≡◌, refl, sym, ap, subst, ◌∙◌}
use mathlib.Core.List.{List, [], ◌∷◌, ◌++◌, map}
use mathlib.Core.Bool.{Bool, true, false, ◌&&◌, not}
use Prim.Native.Nat.{ℕ, suc, ◌≤◌, ◌<◌}
use native.Mathlib.Omega.{arith}
use lib.Dec.{eqb, ltb}
use lib.ListN.{length, length-append}
use borrow.Author.Tests.{ltb-true, ltb-false, ne_eqb, eqb-true}
use Rattle.words.specs.Words.{Bytes, Row, whether◌then◌else◌}
use Rattle.words.proofs.Lists.{and_left, and_right, every}
use Rattle.refusals.specs.Verdicts.{◌⊳◌, ◌when◌, placed, in_text, text_too_long, too_many_rows, line_too_long, length_differs, Check, fault}
use Rattle.std.specs.Prelude.{Ok, Err}
use Rattle.lines.specs.Lines.{line_after, most_bytes, most_line}
use Rattle.rows.specs.Rows.{stands, inserted, same_key}
use Rattle.rows.proofs.Changes.{stands_key, stands_inserted, other_stands_inserted}
use Rattle.editions.specs.declared.Edition.{Edition}
use Rattle.tables.specs.Columns.{number, key_width, references}
use Rattle.tables.specs.Parts.{tables}
use Rattle.tables.specs.declared.Table.{Table}
use Rattle.tables.specs.declared.Table.TheVariants.{VehicleType, Depot, Stop, StopPoint, Block, Calendar}
use Rattle.tables.specs.declared.Reference.{Reference}
use Rattle.book.specs.Book.{Book, rows, entered, knows, full}
use Rattle.book.specs.Result.{Result, refused, leaves, unless}
use Rattle.book.proofs.Laying.{every_table, rows_with}
use Rattle.rules.specs.Rules.{named, finds, unknown_of}
use Rattle.keeping.specs.Keeping.{lawful_book}
use Rattle.header.specs.Header.{Header, member, header_check}
use Rattle.row_line.specs.RowLine.{row_read}
use Rattle.table_lines.specs.Reading.{judged}
use Rattle.radio.specs.Radio.{length_check, Course, stopped, going, onward, header_in, head_heard, row_heard, line_heard, ends_line, ended, byte_heard, none, came_to, finished, fault_before, Radio, awaits, hears, over, counted, announce, part, close, next, begun, byte_taken, part_taken, closing, after, standing, kept_line}
use Rattle.radio.specs.Rule.{reading_numbers, lawful_result, lawful_head, lawful_course, lawful_radio}
use Rattle.radio.proofs.Parting.{ended_short}
use Rattle.radio.proofs.Hearing.{line_after_lem, line_before, long_judged, long_headed}
use Rattle.radio.proofs.Counting.{counts, counted_next, counted_grows}
use Rattle.radio.proofs.Lawful.{Kept, kept, is_lawful, Heard, heard_of, of_heard}
use Rattle.promises.specs.Promises.{Numbered, among, header_numbers, row_numbers}
use Rattle.promises.specs.Radio.{RadioKept, ClosesLawful}
use Rattle.promises.proofs.HeldLaws.{Good, EachGood, Held, Taken, judged_taken, held_entered}
use Rattle.promises.proofs.DeliveryLaws.{Standing}
use Rattle.promises.proofs.NumberedPromises.{given, given_header, given_row}
use Rattle.promises.proofs.HeardPromises.{never}
use Rattle.promises.proofs.RuleLaws.{lawful_standing, standing_lawful, laid_keeps}

-- a row more breaks no other table's references -------------------------------------------------------------------------------

stands_still : (k : ℕ) (key row : Row) (xs : List Row) → stands k key xs ≡ true → stands k key (inserted k row xs) ≡ true
stands_still k key row xs e = go (same_key k key row) refl
  where
    go : (s : Bool) → same_key k key row ≡ s → stands k key (inserted k row xs) ≡ true
    go true q = stands_key k key row q (inserted k row xs) ∙ stands_inserted k row xs
    go false q = other_stands_inserted k key row q xs ∙ e

module _ (t : Table) (row : Row) (b : Book) where
  knows_still : (u : Table) (key : Row) → knows u key b ≡ true → knows u key (entered t row b) ≡ true
  knows_still u key =
      every_table (λ v ys. stands (key_width v) key (rows v b) ≡ true → stands (key_width v) key ys ≡ true) b t (inserted (key_width t) row (rows t b))
      (stands_still (key_width t) key row (rows t b)) (λ v e. e) u

  unknown_still : (xs : List Reference) (x : Row) → unknown_of xs x b ≡ Ok tt → unknown_of xs x (entered t row b) ≡ Ok tt
  unfolding unknown_of
  unknown_still [] x e = refl
  unknown_still (r ∷ rs) x e = go (finds r x b) refl e (unknown_still rs x)
    where
      go : (q : Bool) → finds r x b ≡ q → Err (fault 10 r.column) when not q ⊳ unknown_of rs x b ≡ Ok tt → (unknown_of rs x b ≡ Ok tt → unknown_of rs x (entered t row b) ≡ Ok tt)
          → unknown_of (r ∷ rs) x (entered t row b) ≡ Ok tt
      go true q f ih = rw (knows_still r.to (named r.to r.column x) q) (ih f)
      go false q f ih = let z : ◌≡◌ {A = ℕ} 0 1 = cc in let y : ⊥ = omega arith in absurd y

  good_still : (u : Table) (xs : List Row) → EachGood u b xs → EachGood u (entered t row b) xs
  unfolding EachGood
  good_still u [] h = tt
  good_still u (x ∷ xs) h =
      let g : Good u b x = h.0 in
      (record { shape = g.shape; inside = g.inside; timed = g.timed; known = unknown_still (references u) x g.known }, good_still u xs h.1)

  standing_entered : Standing b → Taken t b row → Standing (entered t row b)
  standing_entered s k =
      every_table (λ u ys. Held u (entered t row b) ys) b t (inserted (key_width t) row (rows t b))
      (subst (λ (l : List Row). Held t (entered t row b) l) (rows_with t (inserted (key_width t) row (rows t b)) b) (held_entered t b row k (s t)))
      (λ u. record { rising = (s u).rising; good = good_still u (rows u b) (s u).good; size = (s u).size })

pub lawful_entered : (t : Table) (h : Header) (l : Bytes) (b : Book) → lawful_book b ≡ true → judged t h l b ≡ Ok tt → lawful_book (entered t (row_read b.edition t h l) b) ≡ true
lawful_entered t h l b e p =
    standing_lawful (entered t (row_read b.edition t h l) b)
    (standing_entered t (row_read b.edition t h l) b (lawful_standing b e) (judged_taken t b h l p))

-- a fault of a table that is read ------------------------------------------------------------------------------------------------

-- what is numbered by these is numbered by those
among_listed : (xs : List Numbered) (ys : List ℕ) (n k : ℕ) → every (λ x. member x.number ys) xs ≡ true → among xs n k ≡ true → member n ys ≡ true
unfolding among
among_listed [] ys n k h e = never (sym e)
among_listed (x ∷ xs) ys n k h e = go (eqb n x.number) refl (among_listed xs ys n k (and_right (member x.number ys) (every (λ x. member x.number ys) xs) h)) e
  where
    go : (q : Bool) → eqb n x.number ≡ q → (among xs n k ≡ true → member n ys ≡ true) → (whether q then x.column k else among xs n k) ≡ true → member n ys ≡ true
    go true f ih e = ap (λ (m : ℕ). member m ys) (eqb-true n x.number f) ∙ and_left (member x.number ys) (every (λ x. member x.number ys) xs) h
    go false f ih e = ih e

table_listed : (t : Table) → member (number t) (map number tables) ≡ true
unfolding member
table_listed VehicleType = refl
table_listed Depot = refl
table_listed Stop = refl
table_listed StopPoint = refl
table_listed Block = refl
table_listed Calendar = refl

abbrev Listed : List Numbered → Type 0
Listed xs = every (λ x. member x.number reading_numbers) xs ≡ true

header_listed : (ed : Edition) (t : Table) → Listed (header_numbers ed t)
unfolding member
header_listed ed t = refl

row_listed : (ed : Edition) (t : Table) → Listed (row_numbers ed t)
unfolding member
row_listed ed t = refl

-- a check of a line: on, unless it stops the table
onward_lawful : (t : Table) (n i : ℕ) (xs : List Numbered) → Listed xs → (v : Check) → given xs v ≡ true → (c : Course) → (v ≡ Ok tt → lawful_course t n c ≡ true)
    → lawful_course t n (onward (placed (number t) i v) c) ≡ true
unfolding given
onward_lawful t n i xs l (Ok _) g c h = h refl
onward_lawful t n i xs l (Err f) g c h = rw (among_listed xs reading_numbers f.number f.column l g, table_listed t)

-- 1 and 18
text_lawful : (t : Table) (p q : Bool) (r : Result) → lawful_result r ≡ true → lawful_result (unless (in_text (number t) (text_too_long when p ⊳ length_differs when q)) r) ≡ true
unfolding member
text_lawful t true q r e = table_listed t
text_lawful t false true r e = table_listed t
text_lawful t false false r e = e

-- a line, a byte, a part --------------------------------------------------------------------------------------------------------

course_more : (t : Table) (n m : ℕ) (c : Course) → n ≤ m → lawful_course t n c ≡ true → lawful_course t m c ≡ true
course_more t n m (stopped p) l e = e
course_more t n m (going b i head rest) l e =
    let k : Kept t n b i head rest = kept t n b i head rest e in
    is_lawful t m b i head rest (record { book = k.book; some = k.some; few = omega arith; top = k.top; short = k.short })

line_lawful : (t : Table) (n : ℕ) (b : Book) (i : ℕ) (head rest line : Bytes) → length line ≤ length rest → Kept t n b i head rest → lawful_course t (suc n) (line_heard t line b i head) ≡ true
unfolding line_heard
line_lawful t n b i head rest line l k = go (eqb i 1) refl
  where
    ed : Edition
    ed = b.edition

    no_header : (j : ℕ) → 1 ≤ j → (m : Bytes) → eqb (line_after ed j m) 1 ≡ false
    no_header j h m = ne_eqb (line_after ed j m) 1 (λ q. omega (arith, line_after_lem ed j m))

    head_kept : header_check ed t line ≡ Ok tt → lawful_head ed t (line_after ed 1 line) line ≡ true
    head_kept e = rw (no_header 1 (omega arith) line, e)

    short : length line ≤ most_bytes
    short = omega (arith, k.short)

    top : lawful_course t (suc n) (head_heard t line b) ≡ true
    top =
        onward_lawful t (suc n) 1 (header_numbers ed t) (header_listed ed t) (header_check ed t line) (given_header ed t line short) (going b (line_after ed 1 line) line [])
        (λ e. is_lawful t (suc n) b (line_after ed 1 line) line [] (record { book = k.book; some = omega (arith, line_after_lem ed 1 line); few = omega (arith, line_before ed 1 line, l, k.some, k.few); top = head_kept e; short = omega arith }))

    same_head : eqb i 1 ≡ false → lawful_head ed t (line_after ed i line) head ≡ true
    same_head e =
        let h : lawful_head ed t i head ≡ true = k.top in
        rw (no_header i k.some line) (rw e at h)

    row : eqb i 1 ≡ false → lawful_course t (suc n) (row_heard t line b i head) ≡ true
    row q =
        onward_lawful t (suc n) i (row_numbers ed t) (row_listed ed t) (judged t (header_in ed t head) line b) (given_row t (header_in ed t head) line b short)
        (going (entered t (row_read ed t (header_in ed t head) line) b) (line_after ed i line) head [])
        (λ e.
        is_lawful t (suc n) (entered t (row_read ed t (header_in ed t head) line) b) (line_after ed i line) head []
        (record { book = lawful_entered t (header_in ed t head) line b k.book e; some = omega (arith, line_after_lem ed i line); few = omega (arith, line_before ed i line, l, k.few); top = same_head q; short = omega arith }))

    go : (q : Bool) → eqb i 1 ≡ q → lawful_course t (suc n) (whether q then head_heard t line b else row_heard t line b i head) ≡ true
    go true e = top
    go false e = row e

-- a line that is too long stops the table
long_lawful : (t : Table) (n : ℕ) (b : Book) (i : ℕ) (head line : Bytes) → most_line < length line → lawful_course t n (line_heard t line b i head) ≡ true
unfolding line_heard member
long_lawful t n b i head line l = go (eqb i 1)
  where
    row : (q : Bool) (c : Course) → lawful_course t n (onward (placed (number t) i (too_many_rows when q ⊳ line_too_long)) c) ≡ true
    row true c = table_listed t
    row false c = table_listed t

    go : (q : Bool) → lawful_course t n (whether q then head_heard t line b else row_heard t line b i head) ≡ true
    go true = rw (long_headed b.edition t line l) (table_listed t)
    go false = rw (long_judged t (header_in b.edition t head) line b l) (row (full t b) _)

byte_lawful : (t : Table) (n x : ℕ) (c : Course) → lawful_course t n c ≡ true → lawful_course t (suc n) (byte_heard t x c) ≡ true
unfolding byte_heard
byte_lawful t n x (stopped p) e = e
byte_lawful t n x (going b i head rest) e = go (ends_line b.edition rest x) (ltb (length rest) kept_line) refl (kept t n b i head rest e)
  where
    go : (q u : Bool) → ltb (length rest) kept_line ≡ u → Kept t n b i head rest →
        lawful_course t (suc n) (whether q then line_heard t (ended rest) b i head else whether u then going b i head (rest ++ (x ∷ [])) else line_heard t (rest ++ (x ∷ [])) b i head) ≡ true
    go true u f k = line_lawful t n b i head rest (ended rest) (ended_short rest) k
    go false true f k =
        is_lawful t (suc n) b i head (rest ++ (x ∷ []))
        (record { book = k.book; some = k.some; few = rw length-append (omega (arith, k.few)); top = k.top; short = rw length-append (omega (arith, ltb-true (length rest) kept_line f)) })
    go false false f k =
        let long : most_line < length (rest ++ (x ∷ [])) = rw length-append (omega (arith, ltb-false (length rest) kept_line f)) in
        long_lawful t (suc n) b i head (rest ++ (x ∷ [])) long

byte_keeps : (x : ℕ) (k : Radio) → lawful_radio k ≡ true → lawful_radio (byte_taken x k) ≡ true
byte_keeps x (awaits t r) e = e
byte_keeps x (hears t a n c) e = of_heard t a (counted (suc n)) (whether ltb n a then byte_heard t x c else c) (go (ltb n a) refl (heard_of t a n c e))
  where
    go : (q : Bool) → ltb n a ≡ q → Heard t a n c → Heard t a (counted (suc n)) (whether q then byte_heard t x c else c)
    go true f h =
        record {
          announced = h.announced;
          come = (counts (suc n)).most;
          course = rw (counted_next n (omega (arith, ltb-true n a f))) (byte_lawful t n x c h.course);
        }
    go false f h = record { announced = h.announced; come = (counts (suc n)).most; course = course_more t n (counted (suc n)) c (counted_grows n h.come) h.course }
byte_keeps x (over r) e = e

part_keeps : (s : Bytes) (k : Radio) → lawful_radio k ≡ true → lawful_radio (part_taken s k) ≡ true
unfolding part_taken
part_keeps [] k e = e
part_keeps (x ∷ s) k e = part_keeps s (byte_taken x k) (byte_keeps x k e)

-- a table closed -----------------------------------------------------------------------------------------------------------------

course_result : (t : Table) (n : ℕ) (c : Course) → lawful_course t n c ≡ true → lawful_result (came_to c) ≡ true
course_result t n (stopped p) e = e
course_result t n (going b i head rest) e = (kept t n b i head rest e).book

finished_lawful : (t : Table) (n : ℕ) (c : Course) → lawful_course t n c ≡ true → lawful_result (finished t c) ≡ true
unfolding finished
finished_lawful t n (stopped p) e = e
finished_lawful t n (going b i head rest) e = go (not (eqb i 1) && none rest) (kept t n b i head rest e)
  where
    go : (q : Bool) → Kept t n b i head rest → lawful_result (whether q then leaves b else came_to (line_heard t rest b i head)) ≡ true
    go true k = k.book
    go false k = course_result t (suc n) (line_heard t rest b i head) (line_lawful t n b i head rest rest (omega arith) k)

closing_lawful : (t : Table) (a n : ℕ) (c : Course) → lawful_course t n c ≡ true → lawful_result (closing t a n c) ≡ true
unfolding closing
closing_lawful t a n c e = go (fault_before t c)
  where
    go : (q : Bool) → lawful_result (whether q then came_to c else unless (in_text (number t) (length_check a n)) (finished t c)) ≡ true
    go true = course_result t n c e
    go false = text_lawful t (ltb most_bytes a) (not (eqb a n)) (finished t c) (finished_lawful t n c e)

next_lawful : (t : Table) (r : Result) → lawful_result r ≡ true → lawful_radio (next t r) ≡ true
unfolding lawful_radio
next_lawful VehicleType r e = e
next_lawful Depot r e = e
next_lawful Stop r e = e
next_lawful StopPoint r e = e
next_lawful Block r e = e
next_lawful Calendar r e = e

begun_lawful : (t : Table) (r : Result) → lawful_result r ≡ true → lawful_course t 0 (begun r) ≡ true
begun_lawful t (refused p) e = e
begun_lawful t (leaves b) e = rw e

pub radio_kept : RadioKept
unfolding lawful_radio
radio_kept (announce a) (awaits t r) e = of_heard t (counted a) 0 (begun r) (record { announced = (counts a).most; come = omega arith; course = begun_lawful t r e })
radio_kept (announce a) (hears t m n c) e = e
radio_kept (announce a) (over r) e = e
radio_kept (part s) k e = part_keeps s k e
radio_kept close (awaits t r) e = e
radio_kept close (hears t a n c) e = next_lawful t (closing t a n c) (closing_lawful t a n c (heard_of t a n c e).course)
radio_kept close (over r) e = e

pub standing_of : (k : Radio) → lawful_radio k ≡ true → lawful_result (standing k) ≡ true
unfolding lawful_radio
standing_of (awaits t r) e = e
standing_of (hears t a n c) e = course_result t n c (heard_of t a n c e).course
standing_of (over r) e = e

pub closes_lawful : ClosesLawful
closes_lawful c k b e f =
    let l : lawful_result (leaves b) ≡ true = subst (λ (r : Result). lawful_result r ≡ true) f (standing_of (after c k) (radio_kept c k e)) in
    laid_keeps b (lawful_standing b l)
