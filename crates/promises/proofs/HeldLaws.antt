-- What stands in a table by right: a reading leaves nothing else, and whatever so stands is read back from its plain form. Assumes nothing.
use mathlib.Core.Path.{◌≡◌, ap, ◌∙◌, sym, refl, subst}
use mathlib.Core.Bool.{true, false}
use mathlib.Core.List.{List, [], ◌∷◌, map, ◌++◌, append-nil}
use Prim.Native.Nat.{◌≤◌, ℕ, ◌+◌, ◌-◌, ◌<◌, suc, ◌*◌}
use native.Mathlib.Omega.{arith}
use lib.ListN.{take, length, length-append, length-take, length-replicate, replicate, length-map}
use lib.Seq.{take_at, append_snoc}
use borrow.Author.Tests.{leb-false, lt-leb, le-ltb}
use Rattle.words.specs.Words.{Row, Bytes}
use Rattle.refusals.proofs.Chaining.{both}
use Rattle.std.specs.Prelude.{Ok, Err}
use Rattle.refusals.specs.Verdicts.{◌⊳◌, ◌when◌, too_many_rows, ends_early, key_stands, placed, place, Check, Verdict}
use Rattle.lines.specs.Lines.{line_after, lines, head_line, row_lines}
use Rattle.lines.proofs.Starting.{line_after_lem}
use Rattle.cells.specs.Cells.{cut, cells_of}
use Rattle.numbers.specs.Numbers.{value}
use Rattle.rows.specs.Rows.{wide, rising as rises, key_order, inserted, stands}
use Rattle.std.specs.declared.cmp.Ordering.{Ordering}
use Rattle.std.specs.declared.cmp.Ordering.TheVariants.{Less, Equal, Greater}
use Rattle.rows.proofs.Rising.{rising_inserted, rising_true}
use Rattle.rows.proofs.Changes.{length_inserted}
use Rattle.editions.specs.declared.Edition.{Edition}
use Rattle.tables.specs.Columns.{columns_of, kept_width, key_width, number}
use Rattle.tables.specs.declared.Table.{Table}
use Rattle.tables.specs.Parts.{room as roomOf}
use Rattle.tables.specs.declared.Table.TheVariants.{VehicleType, Depot, Stop, StopPoint, Block, Calendar}
use Rattle.tables.proofs.Figures.{kept_few}
use Rattle.tables.proofs.Parts.{room_most}
use Rattle.values.specs.Values.{bad_cell}
use Rattle.book.specs.Book.{Book, rows, full, knows, with_rows, entered}
use Rattle.book.specs.Result.{leaves, refused, unless, ◌▹◌, Result}
use Rattle.book.proofs.Laying.{rows_with, with_same, with_with, entered_with}
use Rattle.rules.specs.Rules.{time_fault, unknown, ruled}
use Rattle.rules.proofs.Referring.{unknown_with}
use Rattle.keeping.specs.Keeping.{ranged}
use Rattle.header.specs.Header.{Header, contents, contents_from, cut_check, header_of, top_faults}
use Rattle.row_line.specs.RowLine.{row_read}
use Rattle.table_lines.specs.Reading.{judged, rows_read}
use Rattle.table_reading.specs.Reading.{table_read}
use Rattle.writer.specs.Writing.{lines_written}
use Rattle.promises.proofs.PlainLaws.{Eleven, eleven_long, kept_numeric, cells_ranged, plain_header, plain_line, row_judged, row_read_lem, plain_names, names_short, names_good, names_read, line_short, plain_text, unbroken_plain, unbroken_line, unbroken_rows}
use Rattle.promises.proofs.TestLaws.{unfailed, going_on}
use Rattle.promises.proofs.LastRowLaws.{AboveAll, stands_not, above_all, inserted_last}
use Rattle.promises.proofs.LineLaws.{EachUnbroken, lines_written_lem, Unbroken, unbroken_breaks}

-- rows that stand by right -----------------------------------------------------------------------------------------------

pub record Good (t : Table) (b : Book) (row : Row) : Type 0 where
  pub shape : row ≡ wide (take (kept_width t) row)
  pub inside : ranged (columns_of b.edition t) (take (kept_width t) row) ≡ true
  pub timed : time_fault t row ≡ false
  pub known : unknown t row b ≡ Ok tt

unfoldable pub EachGood : Table → Book → List Row → Type 0
EachGood t b [] = Unit {0}
EachGood t b (x ∷ xs) = Good t b x × EachGood t b xs

pub record Held (t : Table) (b : Book) (xs : List Row) : Type 0 where
  pub rising : rises (key_width t) xs ≡ true
  pub good : EachGood t b xs
  pub size : length xs ≤ roomOf t

pub good_eleven : (t : Table) (row : Row) → row ≡ wide (take (kept_width t) row) → Eleven row
good_eleven t row s =
    let ns = take (kept_width t) row in
    let long : length row ≡ length ns + (11 - length ns) = ap length s ∙ length-append ns (replicate (11 - length ns) 0) ∙ ap (λ (n : ℕ). length ns + n) (length-replicate (11 - length ns) 0) in
    let few : length ns ≤ 11 = rw length-take (omega (arith, kept_few t)) in
    eleven_long row (omega arith)

-- what the rules of a row depend on
pub good_moved : (t : Table) (b c : Book) → b.edition ≡ c.edition → ((row : Row) → unknown t row b ≡ unknown t row c) → (xs : List Row) → EachGood t b xs → EachGood t c xs
unfolding EachGood
good_moved t b c q e [] h = tt
good_moved t b c q e (x ∷ xs) h =
    let g : Good t b x = h.0 in (
      record { shape = g.shape; inside = subst (λ (d : Edition). ranged (columns_of d t) (take (kept_width t) x) ≡ true) q g.inside; timed = g.timed; known = sym (e x) ∙ g.known },
      good_moved t b c q e xs h.1,
    )

pub held_moved : (t : Table) (b c : Book) → b.edition ≡ c.edition → ((row : Row) → unknown t row b ≡ unknown t row c) → (xs : List Row) → Held t b xs → Held t c xs
held_moved t b c q e xs h = record { rising = h.rising; good = good_moved t b c q e xs h.good; size = h.size }

pub good_insert : (t : Table) (b : Book) (k : ℕ) (row : Row) (xs : List Row) → Good t b row → EachGood t b xs → EachGood t b (inserted k row xs)
unfolding EachGood inserted
good_insert t b k row [] g h = (g, tt)
good_insert t b k row (x ∷ xs) g h = go (key_order k row x) refl (good_insert t b k row xs g h.1)
  where
    go : (o : Ordering) → key_order k row x ≡ o → EachGood t b (inserted k row xs) → EachGood t b (inserted k row (x ∷ xs))
    go Less e ih = rw e (g, h)
    go Equal e ih = rw e h
    go Greater e ih = rw e (h.0, ih)

-- what a check that passes says ------------------------------------------------------------------------------------------

pub record Taken (t : Table) (b : Book) (row : Row) : Type 0 where
  pub good : Good t b row
  pub room : length (rows t b) < roomOf t
  pub fresh : stands (key_width t) row (rows t b) ≡ false

contents_long : (ed : Edition) (t : Table) (h : Header) (cs : List Bytes) → length (map value (take (kept_width t) (contents ed t h cs))) ≡ kept_width t
unfolding contents_from columns_of
contents_long ed VehicleType h cs = refl
contents_long ed Depot h cs = refl
contents_long ed Stop h cs = refl
contents_long ed StopPoint h cs = refl
contents_long ed Block h cs = refl
contents_long ed Calendar h cs = refl

pub judged_taken : (t : Table) (b : Book) (h : Header) (l : Bytes) → judged t h l b ≡ Ok tt → Taken t b (row_read b.edition t h l)
unfolding judged
judged_taken t b h l p =
    let ed = b.edition in
    let cs = contents ed t h (cells_of (cut ed l)) in
    let row = row_read ed t h l in
    let p5 = both (too_many_rows when full t b) (cut_check ed h l ⊳ bad_cell 1 (columns_of ed t) cs ⊳ ruled t row b) p in
    let p6 = both (cut_check ed h l) (bad_cell 1 (columns_of ed t) cs ⊳ ruled t row b) p5.1 in
    let p8 = both (bad_cell 1 (columns_of ed t) cs) (ruled t row b) p6.1 in
    let p11 = both (ends_early when time_fault t row) (key_stands when knows t row b ⊳ unknown t row b) p8.1 in
    let p9 = both (key_stands when knows t row b) (unknown t row b) p11.1 in
    let ns : Row = map value (take (kept_width t) cs) in
    let long : length ns ≡ kept_width t = contents_long ed t h (cells_of (cut ed l)) in
    let back : take (kept_width t) (wide ns) ≡ ns = take_at ns (replicate (11 - length ns) 0) (kept_width t) long in
    record {
      good =
          record {
            shape = ap wide (sym back);
            inside = rw back (cells_ranged (kept_width t) 1 (columns_of ed t) cs (kept_numeric ed t) p8.0);
            timed = unfailed 11 11 (time_fault t row) p11.0;
            known = p9.1;
          };
      room = leb-false (roomOf t) (length (rows t b)) (unfailed 5 0 (full t b) p5.0);
      fresh = unfailed 9 0 (knows t row b) p9.0;
    }

-- what the rows of a reading leave ---------------------------------------------------------------------------------------

pub held_insert : (t : Table) (b : Book) (row : Row) → Taken t b row → Held t b (rows t b) → Held t b (inserted (key_width t) row (rows t b))
held_insert t b row a h =
    let small : length (rows t b) < roomOf t = a.room in
    record {
      rising = rising_inserted (key_width t) row (rows t b) h.rising;
      good = good_insert t b (key_width t) row (rows t b) a.good h.good;
      size = rw (length_inserted (key_width t) row (rows t b) a.fresh) (omega arith);
    }

pub held_entered : (t : Table) (b : Book) (row : Row) → Taken t b row → Held t b (rows t b) → Held t (entered t row b) (rows t (entered t row b))
held_entered t b row a h =
    let xs : List Row = inserted (key_width t) row (rows t b) in
    subst (λ (l : List Row). Held t (with_rows t xs b) l) (sym (rows_with t xs b)) (held_moved t b (with_rows t xs b) refl (λ r. sym (unknown_with t r xs b)) xs (held_insert t b row a h))

pub held_read : (t : Table) (h : Header) (i : ℕ) (ls : List Bytes) (b c : Book) → Held t b (rows t b) → rows_read t h i ls b ≡ leaves c →
    (c ≡ with_rows t (rows t c) b) × Held t c (rows t c)
unfolding rows_read
held_read t h i [] b c held e =
    let f : b ≡ c = cc in
    subst (λ (z : Book). (z ≡ with_rows t (rows t z) b) × Held t z (rows t z)) f (sym (with_same t b), held)
held_read t h i (l ∷ ls) b c held e = go (judged t h l b) refl (held_read t h (line_after b.edition i l) ls (entered t (row_read b.edition t h l) b) c) e
  where
    go : (v : Check) → judged t h l b ≡ v →
        (Held t (entered t (row_read b.edition t h l) b) (rows t (entered t (row_read b.edition t h l) b)) → rows_read t h (line_after b.edition i l) ls (entered t (row_read b.edition t h l) b) ≡ leaves c →
        (c ≡ with_rows t (rows t c) (entered t (row_read b.edition t h l) b)) × Held t c (rows t c)) →
        unless (placed (number t) i (judged t h l b)) (rows_read t h (line_after b.edition i l) ls (entered t (row_read b.edition t h l) b)) ≡ leaves c →
        (c ≡ with_rows t (rows t c) b) × Held t c (rows t c)
    go (Ok _) v ih f =
        let r = ih (held_entered t b (row_read b.edition t h l) (judged_taken t b h l v) held) (rw v at f) in
        (r.0 ∙ with_with t (rows t c) (inserted (key_width t) (row_read b.edition t h l) (rows t b)) b, r.1)
    go (Err w) v ih f =
        let x : refused (place w.number (number t) i w.column) ≡ leaves c = rw v at f in
        let z : ◌≡◌ {A = ℕ} 0 1 = cc in let y : ⊥ = omega arith in absurd y

pub held_table : (t : Table) (s : Bytes) (b c : Book) → Held t b (rows t b) → table_read t s b ≡ leaves c →
    (c ≡ with_rows t (rows t c) b) × Held t c (rows t c)
unfolding table_read
held_table t s b c h e =
    let ed = b.edition in
    let first = line_after ed 1 (head_line (lines ed s)) in
    held_read t (header_of ed t s) first (row_lines (lines ed s)) b c h
    (going_on (top_faults ed t s) (rows_read t (header_of ed t s) first (row_lines (lines ed s)) b) c e)

-- what so stands is read back from its plain form ------------------------------------------------------------------------

good_judged : (t : Table) (b : Book) (xs : List Row) (row : Row) → Good t b row → length xs < roomOf t → AboveAll (key_width t) row xs →
    judged t (plain_header t) (plain_line t row) (with_rows t xs b) ≡ Ok tt
good_judged t b xs row g small up =
    row_judged t row (with_rows t xs b) (good_eleven t row g.shape) g.shape g.inside
    ∙ rw (rows_with t xs b, lt-leb (roomOf t) (length xs) small, g.timed, stands_not (key_width t) row xs up, unknown_with t row xs b) g.known

-- a plain line has no break, and the next one starts on the next line
next_line : (ed : Edition) (i : ℕ) (l : Bytes) → Unbroken l → line_after ed i l ≡ suc i
next_line ed i l u = line_after_lem ed i l ∙ omega (arith, unbroken_breaks ed l u)

rows_back : (t : Table) (b : Book) (i : ℕ) (xs ys : List Row) → rises (key_width t) (xs ++ ys) ≡ true → EachGood t b ys → length (xs ++ ys) ≤ roomOf t →
    rows_read t (plain_header t) i (map (plain_line t) ys) (with_rows t xs b) ≡ leaves (with_rows t (xs ++ ys) b)
unfolding rows_read EachGood
rows_back t b i xs [] up g n = rw append-nil
rows_back t b i xs (y ∷ ys) up g n =
    let small : length xs < roomOf t = omega (arith, length-append xs (y ∷ ys)) in
    let over : AboveAll (key_width t) y xs = above_all (key_width t) y xs ys (rising_true (key_width t) (xs ++ (y ∷ ys)) up) in
    let good : Good t b y = g.0 in
    let on : rows_read t (plain_header t) (suc i) (map (plain_line t) ys) (with_rows t (xs ++ (y ∷ [])) b) ≡ leaves (with_rows t (xs ++ (y ∷ ys)) b) =
    rows_back t b (suc i) (xs ++ (y ∷ [])) ys (subst (λ (l : List Row). rises (key_width t) l ≡ true) (sym (append_snoc xs y ys)) up) g.1 (rw (append_snoc xs y ys) n)
    ∙ ap (λ (l : List Row). leaves (with_rows t l b)) (append_snoc xs y ys) in
    rw (
      good_judged t b xs y good small over,
      next_line b.edition i (plain_line t y) (unbroken_line t y),
      row_read_lem b.edition t y (good_eleven t y good.shape) good.shape,
      entered_with t y xs b,
      inserted_last (key_width t) y xs over,
    ) on

-- a text of short lines below the plain names is read line by line: 1 is never given for it
unfoldable pub EachShort : List Bytes → Type 0
EachShort [] = Unit {0}
EachShort (l ∷ ls) = (length l ≤ 65) × EachShort ls

lines_short : (ls : List Bytes) → EachShort ls → length (lines_written ls) ≤ length ls * 66
unfolding lines_written EachShort
lines_short [] h = omega arith
lines_short (l ∷ ls) h = rw length-append (omega (arith, h.0, lines_short ls h.1))

text_short : (t : Table) (ls : List Bytes) → EachShort ls → length ls ≤ 801 → length (lines_written (plain_names t ∷ ls)) ≤ 65536
unfolding lines_written
text_short t ls h n = rw length-append (omega (arith, names_short t, lines_short ls h))

pub plain_lines_read : (t : Table) (ls : List Bytes) (b : Book) → EachUnbroken (plain_names t ∷ ls) → EachShort ls → length ls ≤ 801 →
    table_read t (lines_written (plain_names t ∷ ls)) b ≡ rows_read t (plain_header t) 2 ls b
unfolding table_read EachUnbroken
plain_lines_read t ls b u h n =
    let ed = b.edition in
    rw (lines_written_lem ed (plain_names t ∷ ls) u, le-ltb 65536 (length (lines_written (plain_names t ∷ ls))) (text_short t ls h n), names_good ed t, names_read ed t, next_line ed 1 (plain_names t) u.0)

pub rows_short : (t : Table) (b : Book) (ys : List Row) → EachGood t b ys → EachShort (map (plain_line t) ys)
unfolding EachShort EachGood
rows_short t b [] h = tt
rows_short t b (y ∷ ys) h = let g : Good t b y = h.0 in (line_short b.edition t y (good_eleven t y g.shape) g.inside, rows_short t b ys h.1)

few_lines : (t : Table) (b : Book) (ys : List Row) → Held t b ys → length (map (plain_line t) ys) ≤ 801
few_lines t b ys h = omega (arith, length-map ys (plain_line t), h.size, room_most t)

pub plain_short : (t : Table) (b : Book) (ys : List Row) → Held t b ys → length (plain_text t ys) ≤ 65536
plain_short t b ys h = text_short t (map (plain_line t) ys) (rows_short t b ys h.good) (few_lines t b ys h)

pub table_back : (t : Table) (b : Book) (ys : List Row) → Held t b ys → table_read t (plain_text t ys) (with_rows t [] b) ≡ leaves (with_rows t ys b)
table_back t b ys h =
    plain_lines_read t (map (plain_line t) ys) (with_rows t [] b) (unbroken_plain t ys) (rows_short t b ys h.good) (few_lines t b ys h)
    ∙ rows_back t b 2 [] ys h.rising h.good h.size

-- and one more row behind them -------------------------------------------------------------------------------------------

rows_append : (t : Table) (h : Header) (i : ℕ) (ls ms : List Bytes) (b : Book) → EachUnbroken ls → rows_read t h i (ls ++ ms) b ≡ (rows_read t h i ls b ▹ rows_read t h (i + length ls) ms)
unfolding rows_read EachUnbroken
rows_append t h i [] ms b u = let m : i + 0 ≡ i = omega arith in rw m
rows_append t h i (l ∷ ls) ms b u = rw (next_line b.edition i l u.0) (go (placed (number t) i (judged t h l b)) (rows_append t h (suc i) ls ms (entered t (row_read b.edition t h l) b) u.1))
  where
    go : (v : Verdict) →
        rows_read t h (suc i) (ls ++ ms) (entered t (row_read b.edition t h l) b) ≡ (rows_read t h (suc i) ls (entered t (row_read b.edition t h l) b) ▹ rows_read t h (suc i + length ls) ms) →
        unless v (rows_read t h (suc i) (ls ++ ms) (entered t (row_read b.edition t h l) b))
        ≡ (unless v (rows_read t h (suc i) ls (entered t (row_read b.edition t h l) b)) ▹ rows_read t h (i + suc (length ls)) ms)
    go (Ok _) ih = let m : i + suc (length ls) ≡ suc i + length ls = omega arith in rw m ih
    go (Err p) ih = refl

short_append : (ls : List Bytes) (l : Bytes) → EachShort ls → length l ≤ 65 → EachShort (ls ++ (l ∷ []))
unfolding EachShort
short_append [] l h n = (n, tt)
short_append (x ∷ xs) l h n = (h.0, short_append xs l h.1 n)

unbroken_last : (ls : List Bytes) (l : Bytes) → EachUnbroken ls → Unbroken l → EachUnbroken (ls ++ (l ∷ []))
unfolding EachUnbroken
unbroken_last [] l h n = (n, tt)
unbroken_last (x ∷ xs) l h n = (h.0, unbroken_last xs l h.1 n)

pub table_more : (t : Table) (b : Book) (ys : List Row) (row : Row) → Held t b ys → Eleven row → ranged (columns_of b.edition t) (take (kept_width t) row) ≡ true →
    table_read t (lines_written (plain_names t ∷ (map (plain_line t) ys ++ (plain_line t row ∷ [])))) (with_rows t [] b)
    ≡ unless (placed (number t) (2 + length ys) (judged t (plain_header t) (plain_line t row) (with_rows t ys b)))
    (leaves (entered t (row_read b.edition t (plain_header t) (plain_line t row)) (with_rows t ys b)))
unfolding rows_read
table_more t b ys row h e r =
    let ls : List Bytes = map (plain_line t) ys in
    let l : Bytes = plain_line t row in
    let n : length (ls ++ (l ∷ [])) ≤ 801 = omega (arith, room_most t, length-append ls (l ∷ []), length-map ys (plain_line t), h.size) in
    plain_lines_read t (ls ++ (l ∷ [])) (with_rows t [] b) (unbroken_last (plain_names t ∷ ls) l (unbroken_plain t ys) (unbroken_line t row))
    (short_append ls l (rows_short t b ys h.good) (line_short b.edition t row e r)) n
    ∙ rows_append t (plain_header t) 2 ls (l ∷ []) (with_rows t [] b) (unbroken_rows t ys)
    ∙ ap (λ (x : Result). x ▹ rows_read t (plain_header t) (2 + length ls) (l ∷ [])) (rows_back t b 2 [] ys h.rising h.good h.size)
    ∙ ap (λ (m : ℕ). rows_read t (plain_header t) (2 + m) (l ∷ []) (with_rows t ys b)) (length-map ys (plain_line t))
