-- Demands 1 and 2: the calls for a day and for its sheet, and how long a sheet is at most. Assumes nothing.
use Rattle.std.proofs.Common.{Some}
use mathlib.Core.Path.{◌≡◌, refl, ◌∙◌, ap, sym}
use mathlib.Core.List.{List, [], ◌∷◌, map, ◌++◌}
use mathlib.Core.Bool.{Bool, true, false, not, ◌&&◌}
use Prim.Native.Nat.{ℕ, ◌≤◌, suc, ◌+◌, ◌*◌}
use native.Mathlib.Omega.{arith}
use native.Mathlib.Nat.{mul-suc}
use lib.ListN.{length, take, drop, replicate, length-append}
use lib.Dec.{leb}
use borrow.Author.Tests.{eq-eqb, ne_eqb, le-ltb}
use Rattle.words.specs.Words.{Row, Bytes, bytes, all, whether◌then◌else◌}
use Rattle.words.proofs.Lists.{and_left, and_right, take_seam}
use Rattle.refusals.specs.declared.Place.{Place}
use Rattle.std.specs.Prelude.{Ok, Err}
use Rattle.refusals.specs.Verdicts.{◌when◌, nowhere, bad_loan, ◌before◌, output_short, paper, Verdict}
use Rattle.cells.specs.Cells.{parted}
use Rattle.numbers.specs.Numbers.{decimal}
use Rattle.numbers.specs.Putting.{put}
use Rattle.numbers.proofs.Writing.{decimal_width}
use Rattle.rows.specs.Room.{zeros}
use Rattle.rows.specs.Rows.{column, rising}
use Rattle.editions.specs.Editions.{choice}
use Rattle.editions.specs.declared.Edition.{Edition}
use Rattle.tables.specs.Columns.{columns_of, key_width, number}
use Rattle.tables.specs.Parts.{room, book_rows}
use Rattle.tables.specs.declared.Table.{Table}
use Rattle.tables.specs.declared.Table.TheVariants.{VehicleType, Depot, Stop, StopPoint, Block, Calendar}
use Rattle.book.specs.Book.{Book, empty, rows}
use Rattle.book.specs.Room.{laid, book_of}
use Rattle.book.specs.Result.{Result, leaves, refused, unless, ◌▹◌}
use Rattle.book.proofs.Laying.{book_laid}
use Rattle.rules.specs.Rules.{seconds}
use Rattle.rules.proofs.Timing.{seconds_most}
use Rattle.keeping.specs.Keeping.{lawful, keeps_rule}
use Rattle.keeping.proofs.Keeping.{tables_lawful}
use Rattle.questions.specs.Questions.{of_type, total, seconds_of, count_of}
use Rattle.questions.proofs.Sums.{lawful_high}
use Rattle.delivery.specs.Delivery.{Delivery, reading, Left}
use Rattle.delivery.specs.Calls.{read_outcome, read_call}
use Rattle.delivery.specs.Calls as reading-is
use Rattle.slips.specs.Calls.{slip_outcome, work_sized, cleared, slip_call, Outcome, outcome}
use Rattle.slips.specs.Slips.{posting}
use Rattle.day.specs.Calls.{then_slip, emptied, day_call}
use Rattle.writer.specs.Calls.{wrote}
use Rattle.writer.specs.Calls as writing
use Rattle.writer.specs.Writing.{lines_written}
use Rattle.writer.proofs.Answers.{line_first_length}
use Rattle.sheet.specs.Sheet.{sheet_line, type_line, sum_line, sheet_text, refusal_text}
use Rattle.sheet.specs.Calls.{short_for, sheet_call}
use Rattle.sheet.proofs.Lines.{sheet_length}
use Rattle.promises.specs.Sheet.{sheet, printed}
use Rattle.promises.specs.Promises.{WrongDayLoanStays, LentRowsUnread, DayCallAnswers, SheetCallAnswers, SheetFits, SheetPrinted}
use Rattle.promises.proofs.DeliveryLaws.{Standing}
use Rattle.promises.proofs.TestLaws.{and_three}
use Rattle.promises.proofs.RuleLaws.{standing_orderly, standing_lawful, laid_keeps}
use Rattle.promises.proofs.RulePromises.{left_standing}
use Rattle.promises.proofs.CallPromises.{read_sized, judged_slip, work_behind, leaves_left, slip_call_answers}
use Rattle.promises.proofs.NumberedPromises.{Bounded, reading_bounded, slip_bounded}

-- a day ------------------------------------------------------------------------------------------------------------------------

day_sized : (n : ℕ) (d : Delivery) (s : Bytes) (book work : List Row) → length work ≡ 512 → day_call n d s book work ≡ then_slip (read_call n d book).verdict s (read_call n d book).book work
day_sized n d s book work j = rw (eq-eqb (length work) 512 j)

-- behind a reading
day_read : (n : ℕ) (e : Edition) (d : Delivery) (s : Bytes) (book work : List Row) (r : Result) → choice n ≡ Some e → length book ≡ book_rows → length work ≡ 512 → reading e d ≡ r →
    day_call n d s book work ≡ then_slip (read_outcome r).verdict s (read_outcome r).book work
day_read n e d s book work r c i j h =
    day_sized n d s book work j
    ∙ ap (λ (o : reading-is.Outcome). then_slip o.verdict s o.book work) (read_sized n e d book c i ∙ ap read_outcome h)

pub day_call_answers : DayCallAnswers
day_call_answers n e d s book work c i j = (
  λ p h. day_read n e d s book work (refused p) c i j h ∙ ap (outcome (Err p) (laid empty)) (rw (eq-eqb (length work) 512 j)),
  λ b h. day_read n e d s book work (leaves b) c i j h ∙ slip_call_answers s b work (e, (d, h)) j,
)

unsized : (n : ℕ) (d : Delivery) (s : Bytes) (book work : List Row) → (length work ≡ 512 → ⊥) → day_call n d s book work ≡ outcome (nowhere bad_loan) (emptied book) work
unsized n d s book work j = rw (ne_eqb (length work) 512 j)

pub wrong_day_loan_stays : WrongDayLoanStays
wrong_day_loan_stays n d s book work = (
  λ i. let w = wrong_book i (work_sized work) in (ap paper w.0, w.1),
  λ j. let u = unsized n d s book work j in (ap (λ (o : Outcome). paper o.verdict) u, ap (λ (o : Outcome). o.work) u),
  λ i j. ap (λ (o : Outcome). o.book) (unsized n d s book work j) ∙ rw (eq-eqb (length book) book_rows i),
  λ j. ap (λ (o : Outcome). o.work) (day_sized n d s book work j) ∙ work_left (read_call n d book).verdict (read_call n d book).book ∙ rw (eq-eqb (length work) 512 j),
)
  where
    stays : (length book ≡ book_rows → ⊥) → read_call n d book ≡ reading-is.outcome (nowhere bad_loan) book
    stays i = rw (ne_eqb (length book) book_rows i)

    day : Bool → Outcome
    day q = whether q then then_slip (read_call n d book).verdict s (read_call n d book).book work else outcome (nowhere bad_loan) (emptied book) work

    wrong_book : (length book ≡ book_rows → ⊥) → (q : Bool) → ((day q).verdict ≡ nowhere bad_loan) × ((day q).book ≡ book)
    wrong_book i true =
        let e = ap (λ (o : reading-is.Outcome). then_slip o.verdict s o.book work) (stays i) in
        (ap (λ (o : Outcome). o.verdict) e, ap (λ (o : Outcome). o.book) e)
    wrong_book i false = (refl, rw (ne_eqb (length book) book_rows i))

    work_left : (v : Verdict) (ys : List Row) → (then_slip v s ys work).work ≡ cleared work
    work_left (Ok _) ys = work_behind (judged_slip s ys work) ys work
    work_left (Err p) ys = refl

-- what was lent is not read ------------------------------------------------------------------------------------------------------

module _ (s : Bytes) (book : List Row) where
  -- the slip's outcome with a working area of its size
  abbrev blank : Result → Outcome
  blank (refused p) = outcome (Err p) book (replicate 512 zeros)
  blank (leaves b) = outcome (Ok tt) (laid b) (replicate 512 zeros)

  outcome_blank : (r : Result) (work : List Row) → length work ≡ 512 → slip_outcome r book work ≡ blank r
  outcome_blank (refused p) work n = rw (eq-eqb (length work) 512 n)
  outcome_blank (leaves b) work n = rw (eq-eqb (length work) 512 n)

  slip_blank : (work : List Row) → length work ≡ 512 → slip_call s book work ≡ blank (unless (nowhere (bad_loan when not (keeps_rule book && true))) (posting s (book_of book)))
  slip_blank work n =
      outcome_blank (judged_slip s book work) work n
      ∙ ap (λ (q : Bool). blank (unless (nowhere (bad_loan when not (keeps_rule book && q))) (posting s (book_of book)))) (eq-eqb (length work) 512 n)

  slip_unread : (work area : List Row) → length work ≡ 512 → length area ≡ 512 → slip_call s book work ≡ slip_call s book area
  slip_unread work area n m = slip_blank work n ∙ sym (slip_blank area m)

  then_unread : (v : Verdict) (work area : List Row) → length work ≡ 512 → length area ≡ 512 → then_slip v s book work ≡ then_slip v s book area
  then_unread (Ok _) work area n m = slip_unread work area n m
  then_unread (Err p) work area n m = outcome_blank (refused p) work n ∙ sym (outcome_blank (refused p) area m)

-- of any edition, and of none
read_unread : (n : ℕ) (d : Delivery) (book other : List Row) → length book ≡ book_rows → length other ≡ book_rows → read_call n d book ≡ read_call n d other
read_unread n d book other i j = rw (eq-eqb (length book) book_rows i, eq-eqb (length other) book_rows j)

pub lent_rows_unread : LentRowsUnread
lent_rows_unread = (
  read_unread,
  slip_unread,
  λ n d s book other work area i j k l.
      day_sized n d s book work k
      ∙ then_unread s (read_call n d book).book (read_call n d book).verdict work area k l
      ∙ ap (λ (o : reading-is.Outcome). then_slip o.verdict s o.book area) (read_unread n d book other i j)
      ∙ sym (day_sized n d s other area l),
)

-- how long a sheet is ------------------------------------------------------------------------------------------------------------

-- what numbers take, each with a tab before it
abbrev tabbed : List ℕ → ℕ
tabbed [] = 0
tabbed (n ∷ ns) = 1 + length (decimal n) + tabbed ns

parted_long : (c : Bytes) (ns : List ℕ) → length (parted 9 (c ∷ map decimal ns)) ≡ length c + tabbed ns
unfolding parted
parted_long c [] = omega arith
parted_long c (n ∷ ns) =
    let l : length (c ++ (9 ∷ parted 9 (decimal n ∷ map decimal ns))) ≡ length c + suc (length (parted 9 (decimal n ∷ map decimal ns))) = length-append c (9 ∷ parted 9 (decimal n ∷ map decimal ns)) in
    omega (arith, l, parted_long (decimal n) ns)

tables_few : (t : Table) → number t ≤ 7
tables_few VehicleType = omega arith
tables_few Depot = omega arith
tables_few Stop = omega arith
tables_few StopPoint = omega arith
tables_few Block = omega arith
tables_few Calendar = omega arith

refusal_short : (table : ℕ) (p : Place) → table ≤ 7 → Bounded table p → length (refusal_text p) ≤ 19
unfolding bytes lines_written
refusal_short table p t h =
    let ns : List ℕ = p.number ∷ p.table ∷ p.line ∷ p.column ∷ [] in
    let l : length (sheet_line (bytes "X") ns ++ (10 ∷ [])) ≡ length (sheet_line (bytes "X") ns) + 1 = length-append (sheet_line (bytes "X") ns) (10 ∷ []) in
    omega (
      arith,
      l,
      parted_long (bytes "X") ns,
      decimal_width 1 p.number (omega (arith, h.number)),
      decimal_width 0 p.table (omega (arith, h.table)),
      decimal_width 4 p.line (omega (arith, h.line)),
      decimal_width 4 p.column (omega (arith, h.column)),
    )

-- the rows of a book that stands are lawful
lawful_rows_lem : (b : Book) → Standing b → (t : Table) → all (lawful t b) (rows t b) ≡ true
lawful_rows_lem b st t = (and_three (leb (length (rows t b)) (room t)) (rising (key_width t) (rows t b)) (all (lawful t b) (rows t b)) (tables_lawful b (standing_lawful b st) t)).2

total_most : (b : Book) (weight : Row → ℕ) (most v n : ℕ) → ((row : Row) → lawful Block b row ≡ true → weight row ≤ most) →
    (xs : List Row) → all (lawful Block b) xs ≡ true → total weight v n xs ≤ most * length xs
unfolding total all
total_most b weight most v n h [] e = omega arith
total_most b weight most v n h (x ∷ xs) e =
    go (of_type v n x) (h x (and_left (lawful Block b x) (all (lawful Block b) xs) e)) (total_most b weight most v n h xs (and_right (lawful Block b x) (all (lawful Block b) xs) e))
  where
    go : (q : Bool) → weight x ≤ most → total weight v n xs ≤ most * length xs → (whether q then weight x else 0) + total weight v n xs ≤ most * suc (length xs)
    go true w ih = omega (arith, mul-suc most (length xs))
    go false w ih = omega (arith, mul-suc most (length xs))

module _ (b : Book) (st : Standing b) where
  blocks_lawful : all (lawful Block b) b.blocks ≡ true
  blocks_lawful = lawful_rows_lem b st Block

  -- 512 blocks of at most 999,999 seconds
  seconds_short : (v n : ℕ) → seconds_of v n b.blocks ≤ 511999488
  unfolding columns_of
  seconds_short v n =
      omega (
        arith,
        total_most b seconds 999999 v n (λ row law. seconds_most row 999999 (omega arith) (lawful_high Block b row law 10 (omega arith))) b.blocks blocks_lawful,
        (st Block).size,
      )

  count_short : (v n : ℕ) → count_of v n b.blocks ≤ 512
  count_short v n = omega (arith, total_most b (λ x. 1) 1 v n (λ row law. omega arith) b.blocks blocks_lawful, (st Block).size)

  type_short : (x : Row) → lawful VehicleType b x ≡ true → length (type_line b.blocks x) ≤ 27
  unfolding bytes columns_of
  type_short x law =
      let v = column 1 x in
      let n = column 2 x in
      let ns : List ℕ = v ∷ n ∷ seconds_of v n b.blocks ∷ count_of v n b.blocks ∷ [] in
      omega (
        arith,
        parted_long (bytes "T") ns,
        decimal_width 1 v (omega (arith, lawful_high VehicleType b x law 0 (omega arith))),
        decimal_width 7 n (omega (arith, lawful_high VehicleType b x law 1 (omega arith))),
        decimal_width 8 (seconds_of v n b.blocks) (omega (arith, seconds_short v n)),
        decimal_width 2 (count_of v n b.blocks) (omega (arith, count_short v n)),
      )

  types_short : (xs : List Row) → all (lawful VehicleType b) xs ≡ true → length (lines_written (map (type_line b.blocks) xs)) ≤ 28 * length xs
  unfolding all lines_written
  types_short [] e = omega arith
  types_short (x ∷ xs) e =
      omega (
        arith,
        line_first_length (type_line b.blocks x) (map (type_line b.blocks) xs),
        type_short x (and_left (lawful VehicleType b x) (all (lawful VehicleType b) xs) e),
        types_short xs (and_right (lawful VehicleType b x) (all (lawful VehicleType b) xs) e),
      )

  sums_short : length (sum_line b) ≤ 9
  unfolding bytes
  sums_short =
      omega (
        arith,
        parted_long (bytes "S") (length b.types ∷ length b.blocks ∷ []),
        decimal_width 2 (length b.types) (omega (arith, (st VehicleType).size)),
        decimal_width 2 (length b.blocks) (omega (arith, (st Block).size)),
      )

  sheet_short : length (sheet_text b) ≤ 14346
  sheet_short = omega (arith, sheet_length b, types_short b.types (lawful_rows_lem b st VehicleType), (st VehicleType).size, sums_short)

-- of a delivery and a slip -------------------------------------------------------------------------------------------------------

pub sheet_fits : SheetFits
unfolding sheet
sheet_fits e d s = omega (arith, go (reading e d) refl)
  where
    behind : (b : Book) → reading e d ≡ leaves b → (r : Result) → posting s b ≡ r → length (printed r) ≤ 14346
    behind b h (refused p) f = omega (arith, refusal_short 5 p (omega arith) (slip_bounded s b p f))
    behind b h (leaves c) f = sheet_short c (left_standing c (leaves_left s b c (e, (d, h)) f))

    go : (r : Result) → reading e d ≡ r → length (printed (r ▹ posting s)) ≤ 14346
    go (refused p) h = let r = reading_bounded e d p h in omega (arith, refusal_short (number r.0) p (tables_few r.0) r.1)
    go (leaves b) h = behind b h (posting s b) refl

-- a text for which there is room is put at the head of the output
wrote_all : (t out : Bytes) → length t ≤ length out → wrote (short_for t out) t out ≡ writing.outcome (Ok tt) (length t) (put t out)
wrote_all t out h = ap (λ (q : Bool). wrote (nowhere (output_short when q)) t out) (le-ltb (length out) (length t) h)

sheet_laid : (c : Book) (out : Bytes) → Left c → length (sheet_text c) ≤ length out → sheet_call (Ok tt) (laid c) out ≡ writing.outcome (Ok tt) (length (sheet_text c)) (put (sheet_text c) out)
sheet_laid c out l h =
    let st : Standing c = left_standing c l in
    ap (λ (q : Bool). wrote (nowhere (bad_loan when not q) before short_for (sheet_text (book_of (laid c))) out) (sheet_text (book_of (laid c))) out) (laid_keeps c st)
    ∙ ap (λ (z : Book). wrote (short_for (sheet_text z) out) (sheet_text z) out) (book_laid c (standing_orderly c st))
    ∙ wrote_all (sheet_text c) out h

pub sheet_call_answers : SheetCallAnswers
unfolding sheet
sheet_call_answers n e d s book work out c i j h = go (reading e d) refl h
  where
    called : Outcome → writing.Outcome
    called o = sheet_call o.verdict o.book out

    told : Bytes → writing.Outcome
    told t = writing.outcome (Ok tt) (length t) (put t out)

    behind : (b : Book) → reading e d ≡ leaves b → (r : Result) → posting s b ≡ r → length (printed r) ≤ length out → called (slip_outcome r (laid b) work) ≡ told (printed r)
    behind b k (refused p) f h = wrote_all (refusal_text p) out h
    behind b k (leaves c) f h = sheet_laid c out (leaves_left s b c (e, (d, k)) f) h

    go : (r : Result) → reading e d ≡ r → length (printed (r ▹ posting s)) ≤ length out → called (day_call n d s book work) ≡ told (printed (r ▹ posting s))
    go (refused p) k h = ap called ((day_call_answers n e d s book work c i j).0 p k) ∙ wrote_all (refusal_text p) out h
    go (leaves b) k h = ap called ((day_call_answers n e d s book work c i j).1 b k) ∙ behind b k (posting s b) refl h

pub sheet_printed : SheetPrinted
sheet_printed n e d s book work out c i j k =
    let w = sheet_call_answers n e d s book work out c i j (omega (arith, sheet_fits e d s)) in
    ap (λ (o : writing.Outcome). take o.size o.out) w ∙ take_seam (sheet e d s) (drop (length (sheet e d s)) out)
