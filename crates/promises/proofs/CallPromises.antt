-- Demand 1: what the calls answer and leave behind, for good and bad input alike. Assumes nothing.
use Rattle.std.proofs.Common.{Option, Some, None}
use mathlib.Core.Path.{◌≡◌, refl, ◌∙◌, ap, sym, subst}
use mathlib.Core.List.{List, [], ◌∷◌}
use mathlib.Core.Bool.{false, not, ◌&&◌, Bool, true}
use Prim.Native.Nat.{ℕ, ◌≤◌}
use native.Mathlib.Omega.{arith}
use lib.ListN.{length, length-replicate, length-append, length-drop, take, drop}
use lib.Dec.{eqb, ltb}
use borrow.Author.Tests.{eq-eqb, ne_eqb, eqb-true, ltb-false, le-ltb, lt-ltb}
use Rattle.words.specs.Words.{Row, Bytes, whether◌then◌else◌}
use Rattle.words.proofs.Lists.{and_left, take_seam}
use Rattle.refusals.specs.declared.Place.{Place}
use Rattle.std.specs.Prelude.{Ok, Err}
use Rattle.refusals.specs.Verdicts.{◌when◌, nowhere, bad_loan, place, ◌before◌, output_short, paper, Verdict}
use Rattle.numbers.specs.Putting.{put}
use Rattle.rows.specs.Room.{zeros}
use Rattle.editions.specs.Editions.{choice}
use Rattle.editions.specs.declared.Edition.{Edition}
use Rattle.tables.specs.Parts.{book_rows}
use Rattle.book.specs.Book.{empty, Book}
use Rattle.book.specs.Room.{laid, book_of}
use Rattle.book.specs.Result.{Result, leaves, refused, unless}
use Rattle.book.proofs.Laying.{sound_laid, orderly_empty, book_laid}
use Rattle.keeping.specs.Keeping.{keeps_rule}
use Rattle.delivery.specs.Delivery.{Delivery, reading, Left}
use Rattle.delivery.specs.Calls.{read_outcome, read_by, read_call}
use Rattle.delivery.specs.Calls as reading-is
use Rattle.cell_question.specs.CellQuestion.{cell_asked}
use Rattle.slips.specs.Calls.{work_rows, slip_outcome, work_sized, cleared, slip_call, Outcome, outcome}
use Rattle.slips.specs.Slips.{posting, kept, posted}
use Rattle.day.specs.Calls.{then_slip, emptied, day_call}
use Rattle.writer.specs.Calls.{wrote, write_call}
use Rattle.writer.specs.Writing.{written}
use Rattle.writer.specs.Calls as writing
use Rattle.sheet.specs.Sheet.{sheet_text, refusal_text}
use Rattle.sheet.specs.Calls.{short_for, sheet_call}
use Rattle.promises.specs.Promises as promises
use Rattle.promises.proofs.RulePromises.{rule_tested, left_standing}
use Rattle.promises.proofs.RuleLaws.{standing_orderly, laid_keeps}
use Rattle.promises.proofs.SlipPromises.{rule_kept, run_reads_afresh}
use Rattle.promises.proofs.DeliveryLaws.{Standing}
use Rattle.promises.proofs.BackPromises.{reads_back}

-- a reading --------------------------------------------------------------------------------------------------------------

pub read_sized : (n : ℕ) (e : Edition) (d : Delivery) (slice : List Row) → choice n ≡ Some e → length slice ≡ book_rows → read_call n d slice ≡ read_outcome (reading e d)
read_sized n e d slice c m = rw (eq-eqb (length slice) book_rows m, c)

empties : (r : Result) (p : Place) → (read_outcome r).verdict ≡ Err p → (read_outcome r).book ≡ laid empty
empties (refused q) p h = refl
empties (leaves b) p h = let z : ◌≡◌ {A = ℕ} 0 1 = cc in let y : ⊥ = omega arith in absurd y

-- by what the number chooses
empties_by : (c : Option Edition) (d : Delivery) (p : Place) → (read_by c d).verdict ≡ Err p → (read_by c d).book ≡ laid empty
empties_by (Some e) d p h = empties (reading e d) p h
empties_by None d p h = refl

pub refused_reading_empties : promises.RefusedReadingEmpties
refused_reading_empties n d slice p m = rw (eq-eqb (length slice) book_rows m) (empties_by (choice n) d p)

pub unknown_edition_refused : promises.UnknownEditionRefused
unfolding cell_asked
unknown_edition_refused n u = (
  λ d slice m. rw (eq-eqb (length slice) book_rows m, u),
  λ d s book work m w. rw (eq-eqb (length work) work_rows w, eq-eqb (length book) book_rows m, u),
  λ s table line k. rw u,
)

pub wrong_book_stays : promises.WrongBookStays
wrong_book_stays n d slice m = let e : eqb (length slice) book_rows ≡ false = ne_eqb (length slice) book_rows m in (rw e, rw e)

-- a slip -----------------------------------------------------------------------------------------------------------------

keeps : (r : Result) (book work : List Row) (p : Place) → (slip_outcome r book work).verdict ≡ Err p → (slip_outcome r book work).book ≡ book
keeps (refused q) book work p h = refl
keeps (leaves b) book work p h = let z : ◌≡◌ {A = ℕ} 0 1 = cc in let y : ⊥ = omega arith in absurd y

abbrev pub judged_slip : Bytes → List Row → List Row → Result
judged_slip s book work = unless (nowhere (bad_loan when not (keeps_rule book && work_sized work))) (posting s (book_of book))

pub refused_slip_keeps : promises.RefusedSlipKeeps
refused_slip_keeps s book work p h = keeps (judged_slip s book work) book work p h

pub work_behind : (r : Result) (book work : List Row) → (slip_outcome r book work).work ≡ cleared work
work_behind (refused q) book work = refl
work_behind (leaves b) book work = refl

pub work_cleared : promises.WorkCleared
work_cleared s book work n = work_behind (judged_slip s book work) book work ∙ rw (eq-eqb (length work) 512 n)

and_false : (p : Bool) → (p && false) ≡ false
and_false true = refl
and_false false = refl

pub wrong_work_stays : promises.WrongWorkStays
wrong_work_stays s book work n =
    let e : eqb (length work) 512 ≡ false = ne_eqb (length work) 512 n in
    let f : (keeps_rule book && work_sized work) ≡ false = ap (λ (q : Bool). keeps_rule book && q) e ∙ and_false (keeps_rule book) in
    let g : judged_slip s book work ≡ refused (place 16 0 0 0) = ap (λ (q : Bool). unless (nowhere (bad_loan when not q)) (posting s (book_of book))) f in (
      ap (λ (r : Result). paper (slip_outcome r book work).verdict) g,
      ap (λ (r : Result). (slip_outcome r book work).book) g,
      work_behind (judged_slip s book work) book work ∙ rw e,
    )

-- the writer -------------------------------------------------------------------------------------------------------------

untouched : (v : Verdict) (s out : Bytes) (p : Place) → (wrote v s out).verdict ≡ Err p → ((wrote v s out).size ≡ 0) × ((wrote v s out).out ≡ out)
untouched (Ok _) s out p h = let z : ◌≡◌ {A = ℕ} 0 1 = cc in let y : ⊥ = omega arith in absurd y
untouched (Err q) s out p h = (refl, refl)

pub refused_writing_keeps : promises.RefusedWritingKeeps
refused_writing_keeps book out p h =
    untouched (nowhere (bad_loan when not (keeps_rule book)) before nowhere (output_short when ltb (length out) (length (written (book_of book))))) (written (book_of book)) out p h

pub refused_sheet_keeps : promises.RefusedSheetKeeps
refused_sheet_keeps (Ok _) book out p h =
    untouched (nowhere (bad_loan when not (keeps_rule book)) before short_for (sheet_text (book_of book)) out) (sheet_text (book_of book)) out p h
refused_sheet_keeps (Err q) book out p h = untouched (short_for (refusal_text q) out) (refusal_text q) out p h

-- a book that breaks the rule -------------------------------------------------------------------------------------------

pub bad_book_refused : promises.BadBookRefused
bad_book_refused book h =
    let e : keeps_rule book ≡ false = broken (keeps_rule book) refl in
    (λ s work. rw e, λ out. rw e, λ version type. (rw e, rw e, rw e), λ version day depot block. (rw e, rw e), λ out. rw e)
  where
    broken : (q : Bool) → keeps_rule book ≡ q → keeps_rule book ≡ false
    broken true e = let l = (rule_tested book).0 e in absurd (h l.0 l.1 l.2)
    broken false e = e

-- lengths ----------------------------------------------------------------------------------------------------------------

read_length : (n : ℕ) (d : Delivery) (slice : List Row) → length (read_call n d slice).book ≡ length slice
read_length n d slice = go (eqb (length slice) book_rows) refl
  where
    long : (e : Edition) (r : Result) → reading e d ≡ r → length (read_outcome r).book ≡ book_rows
    long e (refused p) q = (sound_laid empty orderly_empty).long
    long e (leaves b) q = (sound_laid b (standing_orderly b (left_standing b (e, (d, q))))).long

    chosen : (c : Option Edition) → length (read_by c d).book ≡ book_rows
    chosen (Some e) = long e (reading e d) refl
    chosen None = (sound_laid empty orderly_empty).long

    go : (q : Bool) → eqb (length slice) book_rows ≡ q → length (read_call n d slice).book ≡ length slice
    go true e = rw e (chosen (choice n) ∙ sym (eqb-true (length slice) book_rows e))
    go false e = rw e

-- what an accepted slip leaves is again a book that some delivery leaves
pub leaves_left : (s : Bytes) (b c : Book) → Left b → posting s b ≡ leaves c → Left c
leaves_left s b c l e = subst (λ (z : Book). Left z) (ap (λ (r : Result). kept b r) e) (rule_kept b s l)

slip_length_lem : (s : Bytes) (book work : List Row) → length (slip_call s book work).book ≡ length book
slip_length_lem s book work = go (keeps_rule book && work_sized work) refl
  where
    taken : keeps_rule book ≡ true → (r : Result) → posting s (book_of book) ≡ r → length (slip_outcome r book work).book ≡ length book
    taken k (refused p) e = refl
    taken k (leaves c) e =
        let l = (rule_tested book).0 k in
        let b : Book = l.0 in
        let st : Standing b = left_standing b l.1 in
        let same : book_of book ≡ b = ap book_of l.2 ∙ book_laid b (standing_orderly b st) in
        (sound_laid c (standing_orderly c (left_standing c (leaves_left s b c l.1 (subst (λ (z : Book). posting s z ≡ leaves c) same e))))).long
        ∙ sym (ap length l.2 ∙ (sound_laid b (standing_orderly b st)).long)

    go : (q : Bool) → (keeps_rule book && work_sized work) ≡ q → length (slip_call s book work).book ≡ length book
    go true e =
        ap (λ (q : Bool). length (slip_outcome (unless (nowhere (bad_loan when not q)) (posting s (book_of book))) book work).book) e
        ∙ taken (and_left (keeps_rule book) (work_sized work) e) (posting s (book_of book)) refl
    go false e = ap (λ (q : Bool). length (slip_outcome (unless (nowhere (bad_loan when not q)) (posting s (book_of book))) book work).book) e

cleared_length : (work : List Row) → length (cleared work) ≡ length work
cleared_length work = go (eqb (length work) 512) refl
  where
    go : (q : Bool) → eqb (length work) 512 ≡ q → length (cleared work) ≡ length work
    go true e = rw e (length-replicate 512 zeros ∙ sym (eqb-true (length work) 512 e))
    go false e = rw e

work_length : (s : Bytes) (book work : List Row) → length (slip_call s book work).work ≡ length work
work_length s book work = ap length (work_behind (judged_slip s book work) book work) ∙ cleared_length work

put_length : (s out : Bytes) → length s ≤ length out → length (put s out) ≡ length out
put_length s out h = rw (length-append, length-drop) (omega arith)

-- a text is put only where there is room for it
wrote_length : (text out : Bytes) (good short : Bool) → ltb (length out) (length text) ≡ short →
    length (wrote (nowhere (bad_loan when not good) before nowhere (output_short when short)) text out).out ≡ length out
wrote_length text out true true e = refl
wrote_length text out true false e = put_length text out (ltb-false (length out) (length text) e)
wrote_length text out false short e = refl

write_length : (book : List Row) (out : Bytes) → length (write_call book out).out ≡ length out
write_length book out = wrote_length (written (book_of book)) out (keeps_rule book) _ refl

sheet_length : (v : Verdict) (book : List Row) (out : Bytes) → length (sheet_call v book out).out ≡ length out
sheet_length (Ok _) book out = wrote_length (sheet_text (book_of book)) out (keeps_rule book) _ refl
sheet_length (Err p) book out = wrote_length (refusal_text p) out true _ refl

then_length : (v : Verdict) (s : Bytes) (book work : List Row) →
    (length (then_slip v s book work).book ≡ length book) × (length (then_slip v s book work).work ≡ length work)
then_length (Ok _) s book work = (slip_length_lem s book work, work_length s book work)
then_length (Err p) s book work = (refl, cleared_length work)

emptied_length : (book : List Row) → length (emptied book) ≡ length book
emptied_length book = go (eqb (length book) book_rows) refl
  where
    go : (q : Bool) → eqb (length book) book_rows ≡ q → length (emptied book) ≡ length book
    go true e = rw e ((sound_laid empty orderly_empty).long ∙ sym (eqb-true (length book) book_rows e))
    go false e = rw e

day_length : (n : ℕ) (d : Delivery) (s : Bytes) (book work : List Row) → (length (day_call n d s book work).book ≡ length book) × (length (day_call n d s book work).work ≡ length work)
day_length n d s book work = go (work_sized work)
  where
    read : reading-is.Outcome
    read = read_call n d book

    day : Bool → Outcome
    day q = whether q then then_slip read.verdict s read.book work else outcome (nowhere bad_loan) (emptied book) work

    go : (q : Bool) → (length (day q).book ≡ length book) × (length (day q).work ≡ length work)
    go true = let l = then_length read.verdict s read.book work in (l.0 ∙ read_length n d book, l.1)
    go false = (emptied_length book, refl)

pub lengths_kept : promises.LengthsKept
lengths_kept = (read_length, λ s book work. (slip_length_lem s book work, work_length s book work), write_length, day_length, sheet_length)

-- what is written by the call --------------------------------------------------------------------------------------------

write_laid : (b : Book) (out : Bytes) → Left b → write_call (laid b) out ≡ wrote (nowhere (output_short when ltb (length out) (length (written b)))) (written b) out
write_laid b out l =
    let st : Standing b = left_standing b l in
    ap (λ (q : Bool).
    wrote (nowhere (bad_loan when not q) before nowhere (output_short when ltb (length out) (length (written (book_of (laid b))))))
    (written (book_of (laid b))) out)
    (laid_keeps b st)
    ∙ ap (λ (z : Book). wrote (nowhere (output_short when ltb (length out) (length (written z)))) (written z) out) (book_laid b (standing_orderly b st))

pub write_call_answers : promises.WriteCallAnswers
write_call_answers b out l = (
  λ h. write_laid b out l ∙ ap (λ (q : Bool). wrote (nowhere (output_short when q)) (written b) out) (le-ltb (length out) (length (written b)) h),
  λ h.
      let w : write_call (laid b) out ≡ writing.outcome (nowhere output_short) 0 out =
      write_laid b out l ∙ ap (λ (q : Bool). wrote (nowhere (output_short when q)) (written b) out) (lt-ltb (length out) (length (written b)) h) in
      (ap (λ (z : writing.Outcome). paper z.verdict) w, ap (λ (z : writing.Outcome). z.size) w, ap (λ (z : writing.Outcome). z.out) w),
)

pub calls_read_back : promises.CallsReadBack
calls_read_back n ed d b book out c e m h =
    let r : read_call n d book ≡ read_outcome (leaves b) = read_sized n ed d book c m ∙ ap read_outcome e in
    let w : write_call (read_call n d book).book out ≡ writing.outcome (Ok tt) (length (written b)) (put (written b) out) =
    ap (λ (z : reading-is.Outcome). write_call z.book out) r ∙ (write_call_answers b out (ed, (d, e))).0 h in
    let text : take (write_call (read_call n d book).book out).size (write_call (read_call n d book).book out).out ≡ written b =
    ap (λ (z : writing.Outcome). take z.size z.out) w ∙ take_seam (written b) (drop (length (written b)) out) in
    ap (λ (s : Bytes). read_call n (promises.with_blocks s d) book) text
    ∙ read_sized n ed (promises.with_blocks (written b) d) book c m ∙ ap read_outcome (reads_back ed d b e) ∙ sym r

-- a run of slip calls ----------------------------------------------------------------------------------------------------

pub slip_call_answers : promises.SlipCallAnswers
slip_call_answers s b work l n =
    let st : Standing b = left_standing b l in
    ap (λ (q : Bool). slip_outcome (unless (nowhere (bad_loan when not (q && work_sized work))) (posting s (book_of (laid b)))) (laid b) work) (laid_keeps b st)
    ∙ ap (λ (q : Bool). slip_outcome (unless (nowhere (bad_loan when not q)) (posting s (book_of (laid b)))) (laid b) work) (eq-eqb (length work) 512 n)
    ∙ ap (λ (z : Book). slip_outcome (posting s z) (laid b) work) (book_laid b (standing_orderly b st))

outcome_book : (r : Result) (b : Book) (work : List Row) → (slip_outcome r (laid b) work).book ≡ laid (kept b r)
outcome_book (refused p) b work = refl
outcome_book (leaves c) b work = refl

called : (ss : List Bytes) (b : Book) (work : List Row) → Left b → length work ≡ 512 → promises.slips_called ss (laid b) work ≡ laid (promises.run ss b)
unfolding promises.slips_called promises.run
called [] b work l n = refl
called (s ∷ ss) b work l n =
    let o = slip_call_answers s b work l n in
    let next : (slip_call s (laid b) work).book ≡ laid (posted s b) = ap (λ (z : Outcome). z.book) o ∙ outcome_book (posting s b) b work in
    ap (λ (z : List Row). promises.slips_called ss z (slip_call s (laid b) work).work) next
    ∙ called ss (posted s b) (slip_call s (laid b) work).work (rule_kept b s l) (work_length s (laid b) work ∙ n)

pub calls_read_afresh : promises.CallsReadAfresh
calls_read_afresh k ed d b ss book work c e m n =
    let after : promises.slips_called ss (read_call k d book).book work ≡ laid (promises.run ss b) =
    ap (λ (z : List Row). promises.slips_called ss z work) (ap (λ (o : reading-is.Outcome). o.book) (read_sized k ed d book c m ∙ ap read_outcome e)) ∙ called ss b work (ed, (d, e)) n in
    (after, after ∙ sym (ap (λ (o : reading-is.Outcome). o.book) (read_sized k ed (promises.with_blocks (written (promises.run ss b)) d) book c m ∙ ap read_outcome (run_reads_afresh ed d b ss e))))
