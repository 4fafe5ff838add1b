-- The rule of what is kept between parts is the tests of the numbers, the lines and the book. Assumes nothing.
use mathlib.Core.Path.{◌≡◌, refl, sym, ap, subst, ◌∙◌}
use mathlib.Core.List.{List, [], ◌∷◌, ◌++◌}
use mathlib.Core.Bool.{Bool, true, false, ◌&&◌}
use Prim.Native.Nat.{ℕ, zero, suc, ◌+◌, ◌-◌, ◌<◌, ◌≤◌}
use native.Mathlib.Omega.{arith}
use lib.Dec.{eqb, ltb, leb}
use lib.ListN.{length, get_or, take, drop, replicate}
use borrow.Author.Tests.{lt-ltb, le-ltb, le-leb, eq-eqb, ne_eqb, ltb-true, ltb-false, eqb-true, eqb-false, leb-true}
use Rattle.words.specs.Words.{Bytes, Row, whether◌then◌else◌, same}
use Rattle.words.proofs.Lists.{and_left, and_right, same_refl, same_true}
use Rattle.refusals.specs.Verdicts.{passes, place, Check}
use Rattle.rows.specs.Room.{same_rows}
use Rattle.editions.specs.declared.Edition.{Edition}
use Rattle.tables.specs.declared.Table.{Table}
use Rattle.tables.specs.Parts.{part_of, book_rows}
use Rattle.tables.proofs.Figures.{part_below}
use Rattle.tables.proofs.Parts.{in_order}
use Rattle.book.specs.Book.{empty}
use Rattle.book.specs.Room.{laid, book_of}
use Rattle.book.specs.Result.{Result, refused, leaves}
use Rattle.keeping.specs.Keeping.{lawful_book, keeps_rule}
use Rattle.cells.specs.Cells.{cut, cells_of}
use Rattle.header.specs.Header.{Header, header, header_check}
use Rattle.header.specs.Heading.{headed, heading}
use Rattle.header.specs.declared.Heading.{Heading}
use Rattle.std.specs.Prelude.{Ok, Err}
use Rattle.radio.specs.Radio.{Course, stopped, going, Radio, awaits, hears, over, none, standing, came_to}
use Rattle.radio.specs.Rule.{lawful_fault, lawful_result, lawful_head, lawful_course, lawful_radio}
use Rattle.radio.specs.Room.{Slices, all_closed, first_heard, last_heard, laid_book, laid_fault, course_lines, laid_numbers, course_bytes, laid_lines, laid_out, table_at, fault_in, result_in, course_in, radio_in, fits, same_slices, keeps_radio}
use Rattle.radio_rule.specs.Lent.{slices}
use Rattle.radio_rule.specs.Testing.{stretch, zeros, turn, announced, come, line, head_length, rest_length, fault, fault_keeps, course_keeps, numbers_keep, header_keeps, lines_keep, book_keeps}
use Rattle.radio_rule.proofs.Zeros.{two, head_within, head_back, head_zeros, rest_zeros, head_long, rest_long, two_lines_lem, zeros_true}
use Rattle.radio_rule.proofs.Numbers as numbers
use Rattle.radio_rule.proofs.Numbers.{and_both, and_three, of_eleven, Numbers, Heard, Lengths}

both_ways : (p q : Bool) → (p ≡ true → q ≡ true) → (q ≡ true → p ≡ true) → p ≡ q
both_ways true q f g = sym (f refl)
both_ways false true f g = g refl
both_ways false false f g = refl

-- turns -------------------------------------------------------------------------------------------------------------------------

pub at_place : (i : ℕ) → i < all_closed → part_of (table_at i) ≡ i
at_place zero h = refl
at_place (suc zero) h = refl
at_place (suc (suc zero)) h = refl
at_place (suc (suc (suc zero))) h = refl
at_place (suc (suc (suc (suc zero)))) h = refl
at_place (suc (suc (suc (suc (suc zero))))) h = refl
at_place (suc (suc (suc (suc (suc (suc i)))))) h = absurd (omega arith)

-- what is laid out passes the tests ---------------------------------------------------------------------------------------------

-- between tables
between_keeps : (i : ℕ) (r : Result) → i < first_heard → lawful_result r ≡ true → numbers_keep (i ∷ replicate 5 0 ++ laid_fault r) ≡ true
unfolding numbers_keep zeros same
between_keeps i (refused p) h e = rw (le-leb i last_heard (omega arith), lt-ltb i first_heard h, e)
between_keeps i (leaves b) h e = rw (le-leb i last_heard (omega arith), lt-ltb i first_heard h)

module _ (t : Table) (a n : ℕ) where
  stopped_keeps : (ms : List ℕ) → fault_keeps (0 ∷ 0 ∷ 0 ∷ 0 ∷ 0 ∷ 0 ∷ ms) ≡ true → (get_or ms 0 0 ≡ 0 → ⊥) → leb a 65537 ≡ true → leb n 65537 ≡ true
      → numbers_keep ((first_heard + part_of t) ∷ a ∷ n ∷ 0 ∷ 0 ∷ 0 ∷ ms) ≡ true
  unfolding numbers_keep zeros same
  stopped_keeps ms e m f g = rw (le-leb (first_heard + part_of t) last_heard (omega (arith, part_below t)), e, le-ltb (first_heard + part_of t) first_heard (omega arith), f, g, ne_eqb (get_or ms 0 0) 0 m)

  going_keeps : (i h r : ℕ) → leb a 65537 ≡ true → leb n 65537 ≡ true → course_keeps (0 ∷ a ∷ n ∷ i ∷ h ∷ r ∷ replicate 5 0) ≡ true
      → numbers_keep ((first_heard + part_of t) ∷ a ∷ n ∷ i ∷ h ∷ r ∷ replicate 5 0) ≡ true
  unfolding numbers_keep zeros same
  going_keeps i h r f g e = rw (le-leb (first_heard + part_of t) last_heard (omega (arith, part_below t)), le-ltb (first_heard + part_of t) first_heard (omega arith), f, g, e)

-- a header line that is lawful is none on the first line
first_head : (ed : Edition) (t : Table) (i : ℕ) (head : Bytes) → lawful_head ed t i head ≡ true → (whether eqb i 1 then eqb (length head) 0 else true) ≡ true
first_head ed t i head e = go (eqb i 1) e
  where
    no_bytes : (s : Bytes) → none s ≡ true → eqb (length s) 0 ≡ true
    no_bytes [] f = refl
    no_bytes (x ∷ xs) f = let z : ◌≡◌ {A = ℕ} 0 1 = cc in let y : ⊥ = omega arith in absurd y

    go : (q : Bool) → (whether q then none head else passes (header_check ed t head)) ≡ true → (whether q then eqb (length head) 0 else true) ≡ true
    go true f = no_bytes head f
    go false f = refl

-- and behind it it has passed
later_head : (ed : Edition) (t : Table) (i : ℕ) (head : Bytes) → lawful_head ed t i head ≡ true → (whether ltb 1 i then passes (header_check ed t head) else true) ≡ true
later_head ed t i head e = go (ltb 1 i) refl
  where
    go : (q : Bool) → ltb 1 i ≡ q → (whether q then passes (header_check ed t head) else true) ≡ true
    go true f = let h : 1 < i = ltb-true 1 i f in rw (ne_eqb i 1 (λ (z : i ≡ 1). omega arith)) at e
    go false f = refl

-- what a lawful course shows, laid out in the room that there is
record Going (ed : Edition) (t : Table) (n i : ℕ) (head rest : Bytes) : Type 0 where
  some : leb 1 i ≡ true
  came : leb (i + length rest) (suc n) ≡ true
  top : lawful_head ed t i head ≡ true
  fit : length rest ≤ 2049
  room : length head ≤ 2048

module _ (t : Table) (a n : ℕ) where
  heard_of : (c : Course) → lawful_radio (hears t a n c) ≡ true → (leb a 65537 ≡ true) × (leb n 65537 ≡ true) × (lawful_course t n c ≡ true)
  unfolding lawful_radio
  heard_of c e = and_three (leb a 65537) (leb n 65537) (lawful_course t n c) e

  module _ (ed : Edition) (i : ℕ) (head rest : Bytes) where
    going_of : (w : Bool) → (w && leb 1 i && leb (i + length rest) (suc n) && lawful_head ed t i head && leb (length rest) 2049) ≡ true
        → length (two 2048 2049 head rest) ≡ 4097 → Going ed t n i head rest
    going_of w e long =
        let k = and_three (w && leb 1 i && leb (i + length rest) (suc n)) (lawful_head ed t i head) (leb (length rest) 2049) e in
        let j = and_three w (leb 1 i) (leb (i + length rest) (suc n)) k.0 in
        record { some = j.1; came = j.2; top = k.1; fit = leb-true (length rest) 2049 k.2; room = head_within 2048 2049 head rest long }

numbers_laid : (k : Radio) → lawful_radio k ≡ true → length (laid_lines k) ≡ 4097 → numbers_keep (laid_numbers k) ≡ true
unfolding lawful_radio
numbers_laid (awaits t r) e l = between_keeps (part_of t) r (omega (arith, part_below t)) e
numbers_laid (hears t a n (stopped p)) e l =
    let h = heard_of t a n (stopped p) e in
    stopped_keeps t a n (laid_fault (refused p)) h.2 (λ z. let y : ◌≡◌ {A = ℕ} 1 0 = z in omega arith) h.0 h.1
numbers_laid (hears t a n (going b i head rest)) e l =
    let h = heard_of t a n (going b i head rest) e in
    let g : Going b.edition t n i head rest = going_of t a n b.edition i head rest (lawful_book b) h.2 l in
    going_keeps t a n i (length head) (length rest) h.0 h.1
    (rw (g.some, g.came, le-leb (length rest) 2049 g.fit, le-leb (length head) 2048 g.room, first_head b.edition t i head g.top))
numbers_laid (over r) e l = between_keeps all_closed r (omega arith) e

-- two lines laid out
lines_laid_as : (ed : Edition) (ns : List ℕ) (head rest : Bytes) → head_length ns ≡ length head → rest_length ns ≡ length rest → length head ≤ 2048 → length rest ≤ 2049
    → header_keeps ed ns (two 2048 2049 head rest) ≡ true → lines_keep ed ns (two 2048 2049 head rest) ≡ true
unfolding lines_keep
lines_laid_as ed ns head rest e f h k g =
    and_both (zeros (stretch (head_length ns) 2048 (two 2048 2049 head rest)) && zeros (stretch (2048 + rest_length ns) 4097 (two 2048 2049 head rest))) (header_keeps ed ns (two 2048 2049 head rest))
    (and_both (zeros (stretch (head_length ns) 2048 (two 2048 2049 head rest))) (zeros (stretch (2048 + rest_length ns) 4097 (two 2048 2049 head rest)))
    (ap (λ (m : ℕ). zeros (stretch m 2048 (two 2048 2049 head rest))) e ∙ head_zeros 2048 2049 head rest h)
    (ap (λ (m : ℕ). zeros (stretch (2048 + m) 4097 (two 2048 2049 head rest))) f ∙ rest_zeros 2048 2049 head rest h k))
    g

lines_none : (ed : Edition) (i : ℕ) (r : Result) → lines_keep ed (i ∷ replicate 5 0 ++ laid_fault r) (two 2048 2049 [] []) ≡ true
lines_none ed i r = lines_laid_as ed (i ∷ replicate 5 0 ++ laid_fault r) [] [] refl refl (omega arith) (omega arith) refl

table_back : (t : Table) → table_at ((first_heard + part_of t) - first_heard) ≡ t
table_back t = let e : (first_heard + part_of t) - first_heard ≡ part_of t = omega arith in ap table_at e ∙ in_order t

-- a book that is left is of an edition
abbrev Of : Edition → Result → Type 0
Of ed (refused p) = Unit {0}
Of ed (leaves b) = b.edition ≡ ed

lines_laid : (ed : Edition) (k : Radio) → lawful_radio k ≡ true → length (laid_lines k) ≡ 4097 → Of ed (standing k) → lines_keep ed (laid_numbers k) (laid_lines k) ≡ true
lines_laid ed (awaits t r) e l o = lines_none ed (part_of t) r
lines_laid ed (hears t a n (stopped p)) e l o = lines_laid_as ed (laid_numbers (hears t a n (stopped p))) [] [] refl refl (omega arith) (omega arith) refl
lines_laid ed (hears t a n (going b i head rest)) e l o =
    let h = heard_of t a n (going b i head rest) e in
    let g : Going b.edition t n i head rest = going_of t a n b.edition i head rest (lawful_book b) h.2 l in
    lines_laid_as ed (laid_numbers (hears t a n (going b i head rest))) head rest refl refl g.room g.fit
    (ap (λ (s : Bytes). whether ltb 1 i then passes (header_check ed (table_at ((first_heard + part_of t) - first_heard)) s) else true) (head_back 2048 2049 head rest g.room)
    ∙ ap (λ (u : Table). whether ltb 1 i then passes (header_check ed u head) else true) (table_back t)
    ∙ later_head ed t i head (subst (λ (x : Edition). lawful_head x t i head ≡ true) o g.top))
lines_laid ed (over r) e l o = lines_none ed all_closed r

-- what is found again -----------------------------------------------------------------------------------------------------------

module _ (s : Slices) where
  abbrev ns : List ℕ
  ns = s.numbers

  in_awaits : turn ns < all_closed → radio_in s ≡ awaits (table_at (turn ns)) (result_in s)
  unfolding radio_in
  in_awaits h = rw (lt-ltb (turn ns) all_closed h)

  in_over : turn ns ≡ all_closed → radio_in s ≡ over (result_in s)
  unfolding radio_in
  in_over e = rw (le-ltb (turn ns) all_closed (omega arith), eq-eqb (turn ns) all_closed e)

  in_hears : first_heard ≤ turn ns → radio_in s ≡ hears (table_at (turn ns - first_heard)) (announced ns) (come ns) (course_in s)
  unfolding radio_in
  in_hears h = rw (le-ltb (turn ns) all_closed (omega arith), ne_eqb (turn ns) all_closed (λ (z : turn ns ≡ all_closed). omega arith))

  course_in_lem : came_to (course_in s) ≡ result_in s
  course_in_lem = go (eqb (fault ns) 0)
    where
      go : (q : Bool) → came_to (whether q then going (book_of s.book) (line ns) (take (head_length ns) s.lines) (take (rest_length ns) (drop 2048 s.lines)) else stopped (fault_in s))
          ≡ (whether q then leaves (book_of s.book) else refused (fault_in s))
      go true = refl
      go false = refl

  standing_in : standing (radio_in s) ≡ result_in s
  unfolding radio_in
  standing_in = go (ltb (turn ns) all_closed) (eqb (turn ns) all_closed)
    where
      go : (p q : Bool) → standing (whether p then awaits (table_at (turn ns)) (result_in s) else whether q then over (result_in s) else hears (table_at (turn ns - first_heard)) (announced ns) (come ns) (course_in s)) ≡ result_in s
      go true q = refl
      go false true = refl
      go false false = course_in_lem

  abbrev ed : Edition
  ed = (book_of s.book).edition

  of_in : Of ed (standing (radio_in s))
  of_in = subst (Of ed) (sym standing_in) (go (eqb (fault ns) 0))
    where
      go : (q : Bool) → Of ed (whether q then leaves (book_of s.book) else refused (fault_in s))
      go true = refl
      go false = tt

  -- the book's test, with the fault's
  abbrev fault_lawful : Bool
  fault_lawful = whether eqb (fault ns) 0 then true else lawful_fault (fault_in s)

  book_result : length s.book ≡ book_rows → (fault_lawful && book_keeps ns s.book) ≡ (lawful_result (result_in s) && same_rows s.book (laid_book (result_in s)))
  unfolding book_keeps
  book_result l = go (eqb (fault ns) 0)
    where
      go : (q : Bool) → ((whether q then true else lawful_fault (fault_in s)) && (whether q then keeps_rule s.book else same_rows s.book (laid empty)))
          ≡ (lawful_result (whether q then leaves (book_of s.book) else refused (fault_in s)) && same_rows s.book (laid_book (whether q then leaves (book_of s.book) else refused (fault_in s))))
      go true = rw (eq-eqb (length s.book) book_rows l)
      go false = refl

standing_lawful : (k : Radio) → lawful_radio k ≡ true → lawful_result (standing k) ≡ true
unfolding lawful_radio
standing_lawful (awaits t r) e = e
standing_lawful (hears t a n (stopped p)) e = (heard_of t a n (stopped p) e).2
standing_lawful (hears t a n (going b i head rest)) e =
    let k = and_three (lawful_book b && leb 1 i && leb (i + length rest) (suc n)) (lawful_head b.edition t i head) (leb (length rest) 2049) (and_right (leb a 65537 && leb n 65537) (lawful_course t n (going b i head rest)) e) in
    (and_three (lawful_book b) (leb 1 i) (leb (i + length rest) (suc n)) k.0).0
standing_lawful (over r) e = e

-- the lengths
record Fits (s : Slices) : Type 0 where
  book : length s.book ≡ book_rows
  numbers : length s.numbers ≡ 11
  lines : length s.lines ≡ 4097

fitting : (s : Slices) → fits s ≡ true → Fits s
fitting s e =
    let k = and_three (eqb (length s.book) book_rows) (eqb (length s.numbers) 11) (eqb (length s.lines) 4097) e in
    record { book = eqb-true (length s.book) book_rows k.0; numbers = eqb-true (length s.numbers) 11 k.1; lines = eqb-true (length s.lines) 4097 k.2 }

-- the tests together
abbrev pub tested : Slices → Bool
tested s = numbers_keep s.numbers && lines_keep (book_of s.book).edition s.numbers s.lines && book_keeps s.numbers s.book

rule_passes : (s : Slices) → keeps_radio s ≡ true → tested s ≡ true
unfolding keeps_radio laid_out
rule_passes s e =
    let k = radio_in s in
    let u = and_three (fits s) (lawful_radio k) (same_slices s (laid_out k)) e in
    let v = and_three (same_rows s.book (laid_book (standing k))) (same s.numbers (laid_numbers k)) (same s.lines (laid_lines k)) u.2 in
    let f : Fits s = fitting s u.0 in
    let n : s.numbers ≡ laid_numbers k = same_true s.numbers (laid_numbers k) v.1 in
    let l : s.lines ≡ laid_lines k = same_true s.lines (laid_lines k) v.2 in
    let m : length (laid_lines k) ≡ 4097 = ap length (sym l) ∙ f.lines in
    and_both (numbers_keep s.numbers && lines_keep (book_of s.book).edition s.numbers s.lines) (book_keeps s.numbers s.book)
    (and_both (numbers_keep s.numbers) (lines_keep (book_of s.book).edition s.numbers s.lines)
    (ap numbers_keep n ∙ numbers_laid k u.1 m)
    (ap (λ (x : List ℕ). lines_keep (ed s) x s.lines) n ∙ ap (lines_keep (ed s) (laid_numbers k)) l ∙ lines_laid (ed s) k u.1 m (of_in s)))
    (and_right (fault_lawful s) (book_keeps s.numbers s.book)
    (book_result s f.book ∙ and_both (lawful_result (result_in s)) (same_rows s.book (laid_book (result_in s)))
    (ap lawful_result (sym (standing_in s)) ∙ standing_lawful k u.1)
    (ap (λ (r : Result). same_rows s.book (laid_book r)) (sym (standing_in s)) ∙ v.0)))

-- what passes the tests is laid out ------------------------------------------------------------------------------------------------

-- the fault
fault_back : (b : List Row) (l : Bytes) (ms : List ℕ) → length ms ≡ 11 → fault_keeps ms ≡ true → drop 6 ms ≡ laid_fault (result_in (slices b ms l))
fault_back b l ms e = of_eleven (λ xs. fault_keeps xs ≡ true → drop 6 xs ≡ laid_fault (result_in (slices b xs l))) all ms e
  where
    all : (n0 n1 n2 n3 n4 n5 n6 n7 n8 n9 n10 : ℕ) → (whether eqb n6 0 then zeros (n7 ∷ n8 ∷ n9 ∷ n10 ∷ []) else eqb n6 1 && lawful_fault (place n7 n8 n9 n10)) ≡ true
        → (n6 ∷ n7 ∷ n8 ∷ n9 ∷ n10 ∷ []) ≡ laid_fault (whether eqb n6 0 then leaves (book_of b) else refused (place n7 n8 n9 n10))
    all n0 n1 n2 n3 n4 n5 n6 n7 n8 n9 n10 = go (eqb n6 0) refl
      where
        go : (q : Bool) → eqb n6 0 ≡ q → (whether q then zeros (n7 ∷ n8 ∷ n9 ∷ n10 ∷ []) else eqb n6 1 && lawful_fault (place n7 n8 n9 n10)) ≡ true
            → (n6 ∷ n7 ∷ n8 ∷ n9 ∷ n10 ∷ []) ≡ laid_fault (whether q then leaves (book_of b) else refused (place n7 n8 n9 n10))
        go true p f = ap (λ (x : ℕ). x ∷ n7 ∷ n8 ∷ n9 ∷ n10 ∷ []) (eqb-true n6 0 p) ∙ ap (λ (x : List ℕ). 0 ∷ x) (zeros_true (n7 ∷ n8 ∷ n9 ∷ n10 ∷ []) 4 refl f)
        go false p f = ap (λ (x : ℕ). x ∷ n7 ∷ n8 ∷ n9 ∷ n10 ∷ []) (eqb-true n6 1 (and_left (eqb n6 1) (lawful_fault (place n7 n8 n9 n10)) f))

fault_lawful_lem : (s : Slices) → fault_keeps s.numbers ≡ true → fault_lawful s ≡ true
fault_lawful_lem s = go (eqb (fault s.numbers) 0)
  where
    go : (q : Bool) → (whether q then zeros (stretch 7 11 s.numbers) else eqb (fault s.numbers) 1 && lawful_fault (fault_in s)) ≡ true → (whether q then true else lawful_fault (fault_in s)) ≡ true
    go true e = refl
    go false e = and_right (eqb (fault s.numbers) 1) (lawful_fault (fault_in s)) e

-- the numbers before it
between_back : (fs ms : List ℕ) → length ms ≡ 11 → zeros (stretch 1 6 ms) ≡ true → drop 6 ms ≡ fs → ms ≡ turn ms ∷ replicate 5 0 ++ fs
between_back fs ms e = of_eleven (λ xs. zeros (stretch 1 6 xs) ≡ true → drop 6 xs ≡ fs → xs ≡ turn xs ∷ replicate 5 0 ++ fs) all ms e
  where
    all : (n0 n1 n2 n3 n4 n5 n6 n7 n8 n9 n10 : ℕ) → zeros (n1 ∷ n2 ∷ n3 ∷ n4 ∷ n5 ∷ []) ≡ true → (n6 ∷ n7 ∷ n8 ∷ n9 ∷ n10 ∷ []) ≡ fs
        → (n0 ∷ n1 ∷ n2 ∷ n3 ∷ n4 ∷ n5 ∷ n6 ∷ n7 ∷ n8 ∷ n9 ∷ n10 ∷ []) ≡ n0 ∷ replicate 5 0 ++ fs
    all n0 n1 n2 n3 n4 n5 n6 n7 n8 n9 n10 z f =
        ap (λ (x : List ℕ). n0 ∷ x ++ (n6 ∷ n7 ∷ n8 ∷ n9 ∷ n10 ∷ [])) (zeros_true (n1 ∷ n2 ∷ n3 ∷ n4 ∷ n5 ∷ []) 5 refl z) ∙ ap (λ (x : List ℕ). n0 ∷ replicate 5 0 ++ x) f

heard_back : (cs fs ms : List ℕ) → length ms ≡ 11 → stretch 3 6 ms ≡ cs → drop 6 ms ≡ fs → ms ≡ turn ms ∷ announced ms ∷ come ms ∷ cs ++ fs
heard_back cs fs ms e = of_eleven (λ xs. stretch 3 6 xs ≡ cs → drop 6 xs ≡ fs → xs ≡ turn xs ∷ announced xs ∷ come xs ∷ cs ++ fs) all ms e
  where
    all : (n0 n1 n2 n3 n4 n5 n6 n7 n8 n9 n10 : ℕ) → (n3 ∷ n4 ∷ n5 ∷ []) ≡ cs → (n6 ∷ n7 ∷ n8 ∷ n9 ∷ n10 ∷ []) ≡ fs
        → (n0 ∷ n1 ∷ n2 ∷ n3 ∷ n4 ∷ n5 ∷ n6 ∷ n7 ∷ n8 ∷ n9 ∷ n10 ∷ []) ≡ n0 ∷ n1 ∷ n2 ∷ cs ++ fs
    all n0 n1 n2 n3 n4 n5 n6 n7 n8 n9 n10 z f =
        ap (λ (x : List ℕ). n0 ∷ n1 ∷ n2 ∷ x ++ (n6 ∷ n7 ∷ n8 ∷ n9 ∷ n10 ∷ [])) z ∙ ap (λ (x : List ℕ). n0 ∷ n1 ∷ n2 ∷ cs ++ x) f

-- a lawful state that is found again and laid out as it came
module _ (s : Slices) (fit : fits s ≡ true) (nums : numbers_keep s.numbers ≡ true) (book : book_keeps s.numbers s.book ≡ true) where
  result_lawful : (lawful_result (result_in s) && same_rows s.book (laid_book (result_in s))) ≡ true
  result_lawful = sym (book_result s (fitting s fit).book) ∙ and_both (fault_lawful s) (book_keeps s.numbers s.book) (fault_lawful_lem s (numbers.numbers s.numbers nums).faults) book

  keeps_as : (k : Radio) → radio_in s ≡ k → lawful_radio k ≡ true → s.numbers ≡ laid_numbers k → s.lines ≡ laid_lines k → keeps_radio s ≡ true
  unfolding keeps_radio laid_out
  keeps_as k q e n l =
      let b : same_rows s.book (laid_book (standing k)) ≡ true =
      ap (λ (r : Result). same_rows s.book (laid_book r)) (ap standing (sym q) ∙ standing_in s) ∙ and_right (lawful_result (result_in s)) (same_rows s.book (laid_book (result_in s))) result_lawful in
      let c : same s.numbers (laid_numbers k) ≡ true = ap (same s.numbers) (sym n) ∙ same_refl s.numbers in
      let d : same s.lines (laid_lines k) ≡ true = ap (same s.lines) (sym l) ∙ same_refl s.lines in
      subst (λ (z : Radio). (fits s && lawful_radio z && same_slices s (laid_out z)) ≡ true) (sym q)
      (and_both (fits s && lawful_radio k) (same_slices s (laid_out k)) (and_both (fits s) (lawful_radio k) fit e)
      (and_both (same_rows s.book (laid_book (standing k)) && same s.numbers (laid_numbers k)) (same s.lines (laid_lines k))
      (and_both (same_rows s.book (laid_book (standing k))) (same s.numbers (laid_numbers k)) b c) d))

  module _ (lins : lines_keep (book_of s.book).edition s.numbers s.lines ≡ true) where
    abbrev ms : List ℕ
    ms = s.numbers

    sizes : Fits s
    sizes = fitting s fit

    shown : Numbers ms
    shown = numbers.numbers ms nums

    room : Lengths ms
    room = numbers.lengths ms sizes.numbers nums

    faults : drop 6 ms ≡ laid_fault (result_in s)
    faults = fault_back s.book s.lines ms sizes.numbers shown.faults

    lines_tested : (zeros (stretch (head_length ms) 2048 s.lines) ≡ true) × (zeros (stretch (2048 + rest_length ms) 4097 s.lines) ≡ true) × (header_keeps (book_of s.book).edition ms s.lines ≡ true)
    unfolding lines_keep
    lines_tested = and_three (zeros (stretch (head_length ms) 2048 s.lines)) (zeros (stretch (2048 + rest_length ms) 4097 s.lines)) (header_keeps (book_of s.book).edition ms s.lines) lins

    lines_back : s.lines ≡ two 2048 2049 (take (head_length ms) s.lines) (take (rest_length ms) (drop 2048 s.lines))
    lines_back = two_lines_lem 2048 2049 (head_length ms) (rest_length ms) s.lines sizes.lines room.head room.rest lines_tested.0 lines_tested.1

    no_lines : head_length ms ≡ 0 → rest_length ms ≡ 0 → s.lines ≡ two 2048 2049 [] []
    no_lines e g =
        lines_back ∙ ap (λ (x : ℕ). two 2048 2049 (take x s.lines) (take (rest_length ms) (drop 2048 s.lines))) e
        ∙ ap (λ (x : ℕ). two 2048 2049 [] (take x (drop 2048 s.lines))) g

    lawful_result_lem : lawful_result (result_in s) ≡ true
    lawful_result_lem = and_left (lawful_result (result_in s)) (same_rows s.book (laid_book (result_in s))) result_lawful

    -- between tables
    module _ (h : turn ms < first_heard) where
      numbers_back : ms ≡ turn ms ∷ replicate 5 0 ++ laid_fault (result_in s)
      numbers_back = between_back (laid_fault (result_in s)) ms sizes.numbers (shown.between h) faults

      empty_lines : s.lines ≡ two 2048 2049 [] []
      empty_lines = no_lines (ap head_length numbers_back) (ap rest_length numbers_back)

      awaits_keeps : turn ms < all_closed → keeps_radio s ≡ true
      unfolding lawful_radio
      awaits_keeps g =
          keeps_as (awaits (table_at (turn ms)) (result_in s)) (in_awaits s g) lawful_result_lem
          (numbers_back ∙ ap (λ (x : ℕ). x ∷ replicate 5 0 ++ laid_fault (result_in s)) (sym (at_place (turn ms) g))) empty_lines

      over_keeps : turn ms ≡ all_closed → keeps_radio s ≡ true
      unfolding lawful_radio
      over_keeps g = keeps_as (over (result_in s)) (in_over s g) lawful_result_lem (numbers_back ∙ ap (λ (x : ℕ). x ∷ replicate 5 0 ++ laid_fault (result_in s)) g) empty_lines

    -- a table that is heard
    module _ (h : first_heard ≤ turn ms) where
      abbrev t : Table
      t = table_at (turn ms - first_heard)

      told : Heard ms
      told = shown.hears h

      turn_back : turn ms ≡ first_heard + part_of t
      turn_back = let z : turn ms ≤ last_heard = shown.turns in let e : part_of t ≡ turn ms - first_heard = at_place (turn ms - first_heard) (omega arith) in omega arith

      -- a course that is found and laid out
      heard_keeps_lem : (c : Course) → course_in s ≡ c → lawful_course t (come ms) c ≡ true → stretch 3 6 ms ≡ course_lines c → s.lines ≡ course_bytes c → keeps_radio s ≡ true
      unfolding lawful_radio
      heard_keeps_lem c q e k l =
          let r : result_in s ≡ came_to c = sym (course_in_lem s) ∙ ap came_to q in
          let x : List ℕ = announced ms ∷ come ms ∷ course_lines c ++ laid_fault (came_to c) in
          keeps_as (hears t (announced ms) (come ms) c) (in_hears s h ∙ ap (hears t (announced ms) (come ms)) q)
          (rw (told.announced, told.came, e))
          (heard_back (course_lines c) (laid_fault (came_to c)) ms sizes.numbers k (faults ∙ ap laid_fault r) ∙ ap (λ (y : ℕ). y ∷ x) turn_back) l

      stopped_back : (fault ms ≡ 0 → ⊥) → keeps_radio s ≡ true
      stopped_back g =
          let z : stretch 3 6 ms ≡ replicate 3 0 = zeros_true (stretch 3 6 ms) 3 (three_long ms sizes.numbers) (told.stopped g) in
          let m : ms ≡ turn ms ∷ announced ms ∷ come ms ∷ replicate 3 0 ++ drop 6 ms = heard_back (replicate 3 0) (drop 6 ms) ms sizes.numbers z refl in
          let f : lawful_fault (fault_in s) ≡ true = (rw (ne_eqb (fault ms) 0 g) at lawful_result_lem) in
          heard_keeps_lem (stopped (fault_in s)) (rw (ne_eqb (fault ms) 0 g)) f z (no_lines (ap head_length m) (ap rest_length m))
        where
          three_long : (xs : List ℕ) → length xs ≡ 11 → length (stretch 3 6 xs) ≡ 3
          three_long xs e = of_eleven (λ ys. length (stretch 3 6 ys) ≡ 3) (λ n0 n1 n2 n3 n4 n5 n6 n7 n8 n9 n10. refl) xs e

      going_back : fault ms ≡ 0 → keeps_radio s ≡ true
      going_back g =
          let v : numbers.Course ms = told.going g in
          let head : Bytes = take (head_length ms) s.lines in
          let rest : Bytes = take (rest_length ms) (drop 2048 s.lines) in
          let hl : length head ≡ head_length ms = head_long 2048 2049 (head_length ms) (rest_length ms) s.lines sizes.lines room.head room.rest in
          let rl : length rest ≡ rest_length ms = rest_long 2048 2049 (head_length ms) (rest_length ms) s.lines sizes.lines room.head room.rest in
          let b : lawful_book (book_of s.book) ≡ true = (rw (eq-eqb (fault ms) 0 g) at lawful_result_lem) in
          heard_keeps_lem (going (book_of s.book) (line ms) head rest) (rw (eq-eqb (fault ms) 0 g))
          (rw (b, le-leb 1 (line ms) v.some, rl, le-leb (line ms + rest_length ms) (suc (come ms)) v.came, lawful_head_lem (eqb (line ms) 1) refl v, le-leb (rest_length ms) 2049 v.rest))
          (three ms sizes.numbers ∙ ap (λ (x : ℕ). line ms ∷ x ∷ rest_length ms ∷ []) (sym hl) ∙ ap (λ (x : ℕ). line ms ∷ length head ∷ x ∷ []) (sym rl))
          lines_back
        where
          three : (xs : List ℕ) → length xs ≡ 11 → stretch 3 6 xs ≡ line xs ∷ head_length xs ∷ rest_length xs ∷ []
          three xs e = of_eleven (λ ys. stretch 3 6 ys ≡ line ys ∷ head_length ys ∷ rest_length ys ∷ []) (λ n0 n1 n2 n3 n4 n5 n6 n7 n8 n9 n10. refl) xs e

          lawful_head_lem : (q : Bool) → eqb (line ms) 1 ≡ q → numbers.Course ms → lawful_head (book_of s.book).edition t (line ms) (take (head_length ms) s.lines) ≡ true
          lawful_head_lem true e v =
              let w : eqb (head_length ms) 0 ≡ true = rw e at v.first in
              let z : head_length ms ≡ 0 = eqb-true (head_length ms) 0 w in
              rw (e, z)
          lawful_head_lem false e v =
              let o : line ms ≡ 1 → ⊥ = eqb-false (line ms) 1 e in
              let w : 1 ≤ line ms = v.some in
              rw e (rw (lt-ltb 1 (line ms) (omega arith)) at lines_tested.2)

tests_keep : (s : Slices) → fits s ≡ true → tested s ≡ true → keeps_radio s ≡ true
tests_keep s fit e =
    let k = and_three (numbers_keep s.numbers) (lines_keep (book_of s.book).edition s.numbers s.lines) (book_keeps s.numbers s.book) e in
    go k.0 k.1 k.2 (ltb (turn s.numbers) all_closed) refl (ltb (turn s.numbers) first_heard) refl (eqb (fault s.numbers) 0) refl
  where
    go : numbers_keep s.numbers ≡ true → lines_keep (book_of s.book).edition s.numbers s.lines ≡ true → book_keeps s.numbers s.book ≡ true
        → (p : Bool) → ltb (turn s.numbers) all_closed ≡ p → (q : Bool) → ltb (turn s.numbers) first_heard ≡ q → (r : Bool) → eqb (fault s.numbers) 0 ≡ r → keeps_radio s ≡ true
    go n l b true p q o r m = let h : turn s.numbers < all_closed = ltb-true (turn s.numbers) all_closed p in awaits_keeps s fit n b l (omega arith) h
    go n l b false p true o r m =
        let h : all_closed ≤ turn s.numbers = ltb-false (turn s.numbers) all_closed p in
        let g : turn s.numbers < first_heard = ltb-true (turn s.numbers) first_heard o in
        over_keeps s fit n b l g (omega arith)
    go n l b false p false o true m = going_back s fit n b l (ltb-false (turn s.numbers) first_heard o) (eqb-true (fault s.numbers) 0 m)
    go n l b false p false o false m = stopped_back s fit n b l (ltb-false (turn s.numbers) first_heard o) (eqb-false (fault s.numbers) 0 m)

-- the rule is the tests
pub rule_tested : (s : Slices) → fits s ≡ true → keeps_radio s ≡ tested s
rule_tested s fit = both_ways (keeps_radio s) (tested s) (rule_passes s) (tests_keep s fit)

-- as the code tests it --------------------------------------------------------------------------------------------------------------

module _ (ed : Edition) (k : List ℕ) (l : Bytes) where
  pub header_none : line k ≤ 1 → header_keeps ed k l ≡ true
  header_none h = rw (le-ltb 1 (line k) h)

  pub header_some : 1 < line k → (t : Table) → t ≡ table_at (turn k - first_heard) → (g : Heading) → g ≡ heading ed t (stretch 0 (head_length k) l) → header_keeps ed k l ≡ passes g.check
  header_some h t e g f =
      let z : head_length k - 0 ≡ head_length k = omega arith in
      let c : g.check ≡ header_check ed t (take (head_length k) l) =
      ap (λ (x : Heading). x.check) (f ∙ ap (λ (n : ℕ). heading ed t (take n l)) z) ∙ told (header_check ed t (take (head_length k) l)) (header ed t (cells_of (cut ed (take (head_length k) l)))) in
      rw (lt-ltb 1 (line k) h) (ap (λ (u : Table). passes (header_check ed u (take (head_length k) l))) (sym e) ∙ ap passes (sym c))
    where
      told : (x : Check) (y : Header) → (headed x y).check ≡ x
      told (Ok _) y = refl
      told (Err f) y = refl

module _ (k : List ℕ) (b : List Row) where
  pub book_lawful : fault k ≡ 0 → book_keeps k b ≡ keeps_rule b
  unfolding book_keeps
  book_lawful e = rw (eq-eqb (fault k) 0 e)

  pub book_empty : (fault k ≡ 0 → ⊥) → book_keeps k b ≡ same_rows b (laid empty)
  unfolding book_keeps
  book_empty n = rw (ne_eqb (fault k) 0 n)

module _ (b : List Row) (k : List ℕ) (l : Bytes) where
  pub unfit : fits (slices b k l) ≡ false → keeps_radio (slices b k l) ≡ false
  unfolding keeps_radio
  unfit e = rw e

  module _ (fit : fits (slices b k l) ≡ true) where
    pub book_fits : length b ≡ book_rows
    book_fits = (fitting (slices b k l) fit).book

    pub numbers_fit : length k ≡ 11
    numbers_fit = (fitting (slices b k l) fit).numbers

    pub lines_fit : length l ≡ 4097
    lines_fit = (fitting (slices b k l) fit).lines

    pub by_numbers : numbers_keep k ≡ false → keeps_radio (slices b k l) ≡ false
    by_numbers e = rule_tested (slices b k l) fit ∙ rw e

    pub by_lines : numbers_keep k ≡ true → lines_keep (book_of b).edition k l ≡ false → keeps_radio (slices b k l) ≡ false
    by_lines e f = rule_tested (slices b k l) fit ∙ rw (e, f)

    pub by_book : numbers_keep k ≡ true → lines_keep (book_of b).edition k l ≡ true → keeps_radio (slices b k l) ≡ book_keeps k b
    by_book e f = rule_tested (slices b k l) fit ∙ rw (e, f)
