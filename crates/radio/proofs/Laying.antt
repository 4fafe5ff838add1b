-- What is kept, laid out in the lent slices and found again. Assumes nothing.
use mathlib.Core.Path.{◌≡◌, refl, ap, ◌∙◌}
use mathlib.Core.List.{List, [], ◌∷◌, ◌++◌, append_assoc}
use mathlib.Core.Bool.{Bool, true, false, ◌&&◌}
use Prim.Native.Nat.{ℕ, ◌-◌, ◌≤◌}
use native.Mathlib.Omega.{arith}
use lib.Dec.{eqb, ltb}
use lib.ListN.{length, take, drop, replicate, length-append, length-replicate}
use lib.Seq.{take-append_seam, drop_at}
use borrow.Author.Tests.{eq-eqb, ltb-false, ltb-true}
use Rattle.words.specs.Words.{Bytes, Row, whether◌then◌else◌, same}
use Rattle.words.proofs.Lists.{same_refl, same_true, and_left, and_right}
use Rattle.refusals.specs.Verdicts.{passes, line_too_long}
use Rattle.lines.specs.Lines.{most_line}
use Rattle.rows.specs.Room.{same_rows}
use Rattle.rows.proofs.Room.{same_rows_refl, same_rows_true}
use Rattle.editions.specs.declared.Edition.{Edition}
use Rattle.tables.specs.Parts.{book_rows}
use Rattle.tables.specs.declared.Table.{Table}
use Rattle.tables.specs.declared.Table.TheVariants.{VehicleType, Depot, Stop, StopPoint, Block, Calendar}
use Rattle.book.specs.Book.{empty}
use Rattle.book.specs.Result.{Result, refused, leaves}
use Rattle.book.proofs.Laying.{book_laid, sound_laid, Orderly, orderly_empty}
use Rattle.header.specs.Header.{header_check}
use Rattle.radio.specs.Radio.{Course, stopped, going, Radio, awaits, hears, over, standing, none, came_to, kept_line}
use Rattle.radio.specs.Rule.{lawful_head, lawful_course, lawful_radio}
use Rattle.radio.specs.Room.{Slices, laid_book, laid_numbers, padded, laid_lines, laid_out, course_in, radio_in, fits, same_slices, keeps_radio, radio_numbers, radio_bytes}
use Rattle.radio.proofs.Hearing.{long_headed}
use Rattle.radio.proofs.Lawful.{Kept, kept, heard_of}

-- the book ------------------------------------------------------------------------------------------------------------------------

-- a book that can be laid out and found again
abbrev pub OrderlyIn : Result → Type 0
OrderlyIn (refused p) = Unit {0}
OrderlyIn (leaves b) = Orderly b

result_long : (r : Result) → OrderlyIn r → length (laid_book r) ≡ book_rows
result_long (refused p) o = (sound_laid empty orderly_empty).long
result_long (leaves b) o = (sound_laid b o).long

-- the lines -----------------------------------------------------------------------------------------------------------------------

padded_long : (n : ℕ) (s : Bytes) → length s ≤ n → length (padded n s) ≡ n
padded_long n s h = simp (length-append, length-replicate) (omega arith)

module _ (head rest : Bytes) (h : length head ≤ most_line) where
  head_back : take (length head) (padded most_line head ++ padded kept_line rest) ≡ head
  head_back = rw append_assoc (take-append_seam head (replicate (most_line - length head) 0 ++ padded kept_line rest))

  rest_back : take (length rest) (drop most_line (padded most_line head ++ padded kept_line rest)) ≡ rest
  rest_back = rw (drop_at (padded most_line head) (padded kept_line rest) most_line (padded_long most_line head h)) (take-append_seam rest (replicate (kept_line - length rest) 0))

  lines_long : length rest ≤ kept_line → length (padded most_line head ++ padded kept_line rest) ≡ radio_bytes
  lines_long k = length-append (padded most_line head) (padded kept_line rest) ∙ omega (arith, padded_long most_line head h, padded_long kept_line rest k)

head_short : (e : Edition) (t : Table) (i : ℕ) (head : Bytes) → lawful_head e t i head ≡ true → length head ≤ most_line
head_short e t i head k = go (eqb i 1) k
  where
    none_short : (s : Bytes) → none s ≡ true → length s ≤ most_line
    none_short [] f = omega arith
    none_short (x ∷ xs) f = let z : ◌≡◌ {A = ℕ} 0 1 = cc in let y : ⊥ = omega arith in absurd y

    passed_short : (q : Bool) → ltb most_line (length head) ≡ q → passes (header_check e t head) ≡ true → length head ≤ most_line
    passed_short true f p =
        let long : header_check e t head ≡ line_too_long = long_headed e t head (ltb-true most_line (length head) f) in
        let z : ◌≡◌ {A = ℕ} 0 1 = cc in
        let y : ⊥ = omega arith in
        absurd y
    passed_short false f p = ltb-false most_line (length head) f

    go : (q : Bool) → (whether q then none head else passes (header_check e t head)) ≡ true → length head ≤ most_line
    go true f = none_short head f
    go false f = passed_short (ltb most_line (length head)) refl f

-- found again -----------------------------------------------------------------------------------------------------------------------

found_awaits : (t : Table) (r : Result) → OrderlyIn r → radio_in (laid_out (awaits t r)) ≡ awaits t r
unfolding radio_in laid_out
found_awaits VehicleType (refused p) e = refl
found_awaits VehicleType (leaves b) e = rw (book_laid b e)
found_awaits Depot (refused p) e = refl
found_awaits Depot (leaves b) e = rw (book_laid b e)
found_awaits Stop (refused p) e = refl
found_awaits Stop (leaves b) e = rw (book_laid b e)
found_awaits StopPoint (refused p) e = refl
found_awaits StopPoint (leaves b) e = rw (book_laid b e)
found_awaits Block (refused p) e = refl
found_awaits Block (leaves b) e = rw (book_laid b e)
found_awaits Calendar (refused p) e = refl
found_awaits Calendar (leaves b) e = rw (book_laid b e)

found_over : (r : Result) → OrderlyIn r → radio_in (laid_out (over r)) ≡ over r
unfolding radio_in laid_out
found_over (refused p) e = refl
found_over (leaves b) e = rw (book_laid b e)

found_table : (t : Table) (a n : ℕ) (c : Course) → radio_in (laid_out (hears t a n c)) ≡ hears t a n (course_in (laid_out (hears t a n c)))
unfolding radio_in laid_out
found_table VehicleType a n c = refl
found_table Depot a n c = refl
found_table Stop a n c = refl
found_table StopPoint a n c = refl
found_table Block a n c = refl
found_table Calendar a n c = refl

found_course : (t : Table) (a n : ℕ) (c : Course) → lawful_course t n c ≡ true → OrderlyIn (came_to c) → course_in (laid_out (hears t a n c)) ≡ c
unfolding laid_out
found_course t a n (stopped p) e o = refl
found_course t a n (going b i head rest) e o =
    let k : Kept t n b i head rest = kept t n b i head rest e in
    let h : length head ≤ most_line = head_short b.edition t i head k.top in
    rw (book_laid b o, head_back head rest h, rest_back head rest h)

-- what is laid out is found again
pub found_again : (k : Radio) → lawful_radio k ≡ true → OrderlyIn (standing k) → radio_in (laid_out k) ≡ k
found_again (awaits t r) e o = found_awaits t r o
found_again (hears t a n c) e o = found_table t a n c ∙ ap (hears t a n) (found_course t a n c (heard_of t a n c e).course o)
found_again (over r) e o = found_over r o

-- the rule of the slices ------------------------------------------------------------------------------------------------------------

numbers_long : (k : Radio) → length (laid_numbers k) ≡ radio_numbers
numbers_long (awaits t (refused p)) = refl
numbers_long (awaits t (leaves b)) = refl
numbers_long (hears t a n (stopped p)) = refl
numbers_long (hears t a n (going b i head rest)) = refl
numbers_long (over (refused p)) = refl
numbers_long (over (leaves b)) = refl

all_lines_long : (k : Radio) → lawful_radio k ≡ true → length (laid_lines k) ≡ radio_bytes
all_lines_long (awaits t r) e = lines_long [] [] (omega arith) (omega arith)
all_lines_long (hears t a n (stopped p)) e = lines_long [] [] (omega arith) (omega arith)
all_lines_long (hears t a n (going b i head rest)) e =
    let k : Kept t n b i head rest = kept t n b i head rest (heard_of t a n (going b i head rest) e).course in
    lines_long head rest (head_short b.edition t i head k.top) k.short
all_lines_long (over r) e = lines_long [] [] (omega arith) (omega arith)

same_again : (s : Slices) → same_slices s s ≡ true
same_again s = rw (same_rows_refl s.book, same_refl s.numbers, same_refl s.lines)

-- so it keeps the rule of the slices
pub laid_out_keeps : (k : Radio) → lawful_radio k ≡ true → OrderlyIn (standing k) → keeps_radio (laid_out k) ≡ true
unfolding keeps_radio laid_out
laid_out_keeps k e o =
    let fit : fits (laid_out k) ≡ true =
    rw (eq-eqb (length (laid_book (standing k))) book_rows (result_long (standing k) o), eq-eqb (length (laid_numbers k)) radio_numbers (numbers_long k), eq-eqb (length (laid_lines k)) radio_bytes (all_lines_long k e)) in
    let found : radio_in (laid_out k) ≡ k = found_again k e o in
    rw (fit, found, e) (same_again (laid_out k))

slices_same : (s k : Slices) → same_slices s k ≡ true → s ≡ k
slices_same s k e =
    let e2 = and_left (same_rows s.book k.book && same s.numbers k.numbers) (same s.lines k.lines) e in
    let p : s.book ≡ k.book = same_rows_true s.book k.book (and_left (same_rows s.book k.book) (same s.numbers k.numbers) e2) in
    let q : s.numbers ≡ k.numbers = same_true s.numbers k.numbers (and_right (same_rows s.book k.book) (same s.numbers k.numbers) e2) in
    let r : s.lines ≡ k.lines = same_true s.lines k.lines (and_right (same_rows s.book k.book && same s.numbers k.numbers) (same s.lines k.lines) e) in
    ap (λ (x : List Row). made x s.numbers s.lines) p ∙ ap (λ (x : List ℕ). made k.book x s.lines) q ∙ ap (λ (x : Bytes). made k.book k.numbers x) r
  where
    made : List Row → List ℕ → Bytes → Slices
    made x y z = record { book = x; numbers = y; lines = z }

-- slices that keep the rule
pub record Handed (s : Slices) : Type 0 where
  pub fit : fits s ≡ true
  pub lawful : lawful_radio (radio_in s) ≡ true
  pub is : s ≡ laid_out (radio_in s)

pub handed : (s : Slices) → keeps_radio s ≡ true → Handed s
unfolding keeps_radio
handed s e =
    let e2 = and_left (fits s && lawful_radio (radio_in s)) (same_slices s (laid_out (radio_in s))) e in
    record {
      fit = and_left (fits s) (lawful_radio (radio_in s)) e2;
      lawful = and_right (fits s) (lawful_radio (radio_in s)) e2;
      is = slices_same s (laid_out (radio_in s)) (and_right (fits s && lawful_radio (radio_in s)) (same_slices s (laid_out (radio_in s))) e);
    }
