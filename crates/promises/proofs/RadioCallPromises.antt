-- The calls by radio on the lent slices. Assumes nothing.
use mathlib.Core.Path.{◌≡◌, refl, ap, sym, subst, ◌∙◌}
use mathlib.Core.List.{List, [], ◌∷◌, ◌++◌, map}
use mathlib.Core.Bool.{Bool, true, false}
use mathlib.Core.Logic.{⊎_elim}
use Prim.Native.Nat.{ℕ}
use native.Mathlib.Omega.{arith}
use lib.ListN.{length}
use Rattle.words.specs.Words.{Bytes, whether◌then◌else◌, all}
use Rattle.words.proofs.Lists.{and_left}
use Rattle.refusals.specs.Verdicts.{nowhere, not_there, bad_loan, Verdict}
use Rattle.refusals.specs.declared.Place.{Place}
use Rattle.std.specs.Prelude.{Ok, Err}
use Rattle.rows.specs.Rows.{rising}
use Rattle.tables.specs.Columns.{number}
use Rattle.tables.specs.Parts.{tables}
use Rattle.tables.specs.declared.Table.{Table}
use Rattle.tables.specs.declared.Table.TheVariants.{VehicleType, Depot, Stop, StopPoint, Block, Calendar}
use Rattle.editions.specs.declared.Edition.{Edition}
use Rattle.editions.specs.declared.Edition.TheVariants.{Dino21}
use Rattle.book.specs.Book.{empty, empty_by}
use Rattle.book.specs.Result.{Result, refused, leaves}
use Rattle.keeping.specs.Keeping.{lawful_book, keeps_rule}
use Rattle.delivery.specs.Calls.{read_outcome}
use Rattle.delivery.specs.Delivery.{reading}
use Rattle.header.specs.Header.{member}
use Rattle.radio.specs.Radio.{Sending, hearing, Course, Radio, awaits, hears, Call, announce, part, close, start, counted, begun, part_taken, after, in_turn, said, answer, verdict_of, standing}
use Rattle.radio.specs.Rule.{reading_numbers, lawful_fault, lawful_result, lawful_radio}
use Rattle.radio.specs.Room.{Slices, Outcome, outcome, laid_book, laid_out, radio_in, keeps_radio, radio_call, open_call}
use Rattle.radio.proofs.Laying.{OrderlyIn, handed}
use Rattle.promises.specs.Radio.{UnknownOpeningStays, run, parts, joined, sending_of, delivery_of, calls_for, calls_of, last_answer, called, SlicesTested, FoundAgain, CallsKeep, RefusalStays, CallsLawful, CallsRun, RadioReads}
use Rattle.promises.proofs.RuleLaws.{lawful_standing, laid_keeps, standing_orderly}
use Rattle.promises.proofs.HeardPromises.{table_heard, Five, five_heard, delivery_heard, heard_as_read, never, out_of_turn}
use Rattle.promises.proofs.RadioRulePromises.{standing_of, radio_kept}
use Rattle.radio.proofs.Laying as laying

-- a lawful book is in order -------------------------------------------------------------------------------------------------------

begun_lawful : (ed : Edition) → lawful_book (empty_by ed) ≡ true
unfolding all rising
begun_lawful ed = refl

lawful_orderly : (r : Result) → lawful_result r ≡ true → OrderlyIn r
lawful_orderly (refused p) e = tt
lawful_orderly (leaves b) e = standing_orderly b (lawful_standing b e)

kept_orderly : (k : Radio) → lawful_radio k ≡ true → OrderlyIn (standing k)
kept_orderly k e = lawful_orderly (standing k) (standing_of k e)

pub found_again : FoundAgain
found_again k e = laying.found_again k e (kept_orderly k e)

laid_out_keeps : (k : Radio) → lawful_radio k ≡ true → keeps_radio (laid_out k) ≡ true
laid_out_keeps k e = laying.laid_out_keeps k e (kept_orderly k e)

pub slices_tested : SlicesTested
slices_tested s = (
  λ e. (radio_in s, (handed s e).lawful, (handed s e).is),
  λ k. subst (λ (z : Slices). keeps_radio z ≡ true) (sym k.2) (laid_out_keeps k.0 k.1),
)

-- the calls -------------------------------------------------------------------------------------------------------------------------

call_lays : (c : Call) (s : Slices) → keeps_radio s ≡ true → (radio_call c s).slices ≡ laid_out (after c (radio_in s))
unfolding radio_call
call_lays c s e = rw e

pub calls_keep : CallsKeep
calls_keep c s e = ap keeps_radio (call_lays c s e) ∙ laid_out_keeps (after c (radio_in s)) (radio_kept c (radio_in s) (handed s e).lawful)

-- no table that is read gives another number
unlisted : (p : Place) → lawful_fault p ≡ true → {n : ℕ} → p.number ≡ n → member n reading_numbers ≡ false → ⊥
unlisted p e f h = never (sym (and_left (member p.number reading_numbers) (member p.table (map number tables)) e) ∙ ap (λ (m : ℕ). member m reading_numbers) f ∙ h)

said_lawful : (c : Call) (k : Radio) (p : Place) → lawful_radio (after c k) ≡ true → said c (after c k) ≡ Err p → lawful_fault p ≡ true
said_lawful (announce a) k p e f = let z : ◌≡◌ {A = ℕ} 0 1 = cc in let y : ⊥ = omega arith in absurd y
said_lawful (part s) k p e f = let z : ◌≡◌ {A = ℕ} 0 1 = cc in let y : ⊥ = omega arith in absurd y
said_lawful close k p e f = go (standing (after close k)) (standing_of (after close k) e) f
  where
    go : (r : Result) → lawful_result r ≡ true → verdict_of r ≡ Err p → lawful_fault p ≡ true
    go (refused q) l g = let s : q ≡ p = cc in subst (λ (z : Place). lawful_fault z ≡ true) s l
    go (leaves b) l g = let z : ◌≡◌ {A = ℕ} 0 1 = cc in let y : ⊥ = omega arith in absurd y

pub refusal_stays : RefusalStays
unfolding radio_call member
refusal_stays c s p v n = go (keeps_radio s) refl v
  where
    k : Radio
    k = radio_in s

    turn : (q : Bool) → in_turn c k ≡ q → keeps_radio s ≡ true → (whether q then said c (after c k) else nowhere not_there) ≡ Err p → laid_out (after c k) ≡ s
    turn true f e w = let l = said_lawful c k p (radio_kept c k (handed s e).lawful) w in absurd (⊎_elim (λ m. unlisted p l m refl) (λ m. unlisted p l m refl) n)
    turn false f e w = ap laid_out (out_of_turn c k f).0 ∙ sym (handed s e).is

    go : (q : Bool) → keeps_radio s ≡ q → (whether q then outcome (answer c k) (laid_out (after c k)) else outcome (nowhere bad_loan) s).verdict ≡ Err p
        → (whether q then outcome (answer c k) (laid_out (after c k)) else outcome (nowhere bad_loan) s).slices ≡ s
    go true e w = turn (in_turn c k) refl e w
    go false e w = refl

book_keeps_lem : (r : Result) → lawful_result r ≡ true → keeps_rule (laid_book r) ≡ true
book_keeps_lem (refused p) e = laid_keeps empty (lawful_standing empty (begun_lawful Dino21))
book_keeps_lem (leaves b) e = laid_keeps b (lawful_standing b e)

pub calls_lawful : CallsLawful
unfolding laid_out
calls_lawful c s e =
    let k : Radio = after c (radio_in s) in
    ap (λ (z : Slices). keeps_rule z.book) (call_lays c s e) ∙ book_keeps_lem (standing k) (standing_of k (radio_kept c (radio_in s) (handed s e).lawful))

call_answers : (c : Call) (k : Radio) → lawful_radio k ≡ true → radio_call c (laid_out k) ≡ outcome (answer c k) (laid_out (after c k))
unfolding radio_call
call_answers c k e = rw (laid_out_keeps k e, found_again k e)

run_called : (v : Verdict) (cs : List Call) (k : Radio) → lawful_radio k ≡ true → called v cs (laid_out k) ≡ outcome (last_answer v cs k) (laid_out (run cs k))
unfolding called run last_answer
run_called v [] k e = refl
run_called v (c ∷ cs) k e = ap (λ (o : Outcome). called o.verdict cs o.slices) (call_answers c k e) ∙ run_called (answer c k) cs (after c k) (radio_kept c k e)

pub start_lawful : (ed : Edition) → lawful_radio (start ed) ≡ true
unfolding lawful_radio
start_lawful ed = begun_lawful ed

pub unknown_opening_stays : UnknownOpeningStays
unknown_opening_stays n s u f = (rw (f, u), rw (f, u))

pub calls_run : CallsRun
calls_run n ed cs s c e =
    let opened : (open_call n s).slices ≡ laid_out (start ed) = rw (e, c) in
    ap (called (Ok tt) cs) opened ∙ run_called (Ok tt) cs (start ed) (start_lawful ed)

-- the last close --------------------------------------------------------------------------------------------------------------------

last_join : (v : Verdict) (xs ys : List Call) (k : Radio) → last_answer v (xs ++ ys) k ≡ last_answer (last_answer v xs k) ys (run xs k)
unfolding last_answer run
last_join v [] ys k = refl
last_join v (x ∷ xs) ys k = last_join (answer x k) xs ys (after x k)

heard_on : (p : Bytes) (t : Table) (a n : ℕ) (c : Course) → (m : ℕ) × (e : Course) × (part_taken p (hears t a n c) ≡ hears t a m e)
unfolding part_taken
heard_on [] t a n c = (n, c, refl)
heard_on (x ∷ p) t a n c = heard_on p t a _ _

last_parts : (v : Verdict) (ps : List Bytes) (t : Table) (a n : ℕ) (c : Course) → last_answer v (parts ps) (hears t a n c) ≡ verdict_of (standing (run (parts ps) (hears t a n c)))
unfolding last_answer parts run
last_parts v [] t a n c = refl
last_parts v (p ∷ ps) t a n c =
    let k = heard_on p t a n c in
    ap (last_answer (Ok tt) (parts ps)) k.2 ∙ last_parts (Ok tt) ps t a k.0 k.1 ∙ ap (λ (z : Radio). verdict_of (standing (run (parts ps) z))) (sym k.2)

last_table : (v : Verdict) (a : ℕ) (ps : List Bytes) (t : Table) (r : Result) → last_answer v (announce a ∷ parts ps) (awaits t r) ≡ verdict_of (standing (run (announce a ∷ parts ps) (awaits t r)))
unfolding last_answer run
last_table v a ps t r = last_parts (Ok tt) ps t (counted a) 0 (begun r)

six_answers : (o : Verdict) (u v w x y z : List Call) (k : Radio) → (o' : Verdict) × (last_answer o (u ++ (v ++ (w ++ (x ++ (y ++ z))))) k ≡ last_answer o' z (run y (run x (run w (run v (run u k))))))
six_answers o u v w x y z k = (
  _,
  last_join o u (v ++ (w ++ (x ++ (y ++ z)))) k ∙ last_join _ v (w ++ (x ++ (y ++ z))) (run u k) ∙ last_join _ w (x ++ (y ++ z)) (run v (run u k)) ∙ last_join _ x (y ++ z) (run w (run v (run u k)))
      ∙ last_join _ y z (run x (run w (run v (run u k)))),
)

last_heard_lem : (ed : Edition) (a : Table → ℕ) (ps : Table → List Bytes) → last_answer (Ok tt) (calls_of a ps) (start ed) ≡ verdict_of (hearing ed (sending_of a ps))
unfolding calls_of
last_heard_lem ed a ps =
    let f : Five ed a ps = five_heard ed a ps in
    let k = six_answers (Ok tt) (calls_for a ps VehicleType) (calls_for a ps Depot) (calls_for a ps Stop) (calls_for a ps StopPoint) (calls_for a ps Block) (calls_for a ps Calendar) (start ed) in
    k.1 ∙ ap (last_answer k.0 (calls_for a ps Calendar)) f.stands
    ∙ last_table k.0 (a Calendar) (ps Calendar) Calendar f.result
    ∙ ap (λ (z : Radio). verdict_of (standing z)) (table_heard Calendar (a Calendar) (ps Calendar) f.result f.clear) ∙ ap verdict_of f.last

as_read : (r : Result) → (verdict_of r ≡ (read_outcome r).verdict) × (laid_book r ≡ (read_outcome r).book)
as_read (refused p) = (refl, refl)
as_read (leaves b) = (refl, refl)

pub radio_reads : RadioReads
unfolding laid_out sending_of
radio_reads n ed a ps s c fit e =
    let o : Outcome = called (Ok tt) (calls_of a ps) (open_call n s).slices in
    let d : Sending = sending_of a ps in
    let r : Result = reading ed (delivery_of d) in
    let same : hearing ed d ≡ r = heard_as_read ed d (lengths a ps e) in
    let out : o ≡ outcome (last_answer (Ok tt) (calls_of a ps) (start ed)) (laid_out (run (calls_of a ps) (start ed))) = calls_run n ed (calls_of a ps) s c fit in (
      ap (λ (z : Outcome). z.verdict) out ∙ last_heard_lem ed a ps ∙ ap verdict_of same ∙ (as_read r).0,
      ap (λ (z : Outcome). z.slices.book) out ∙ ap (λ (z : Radio). laid_book (standing z)) (delivery_heard ed a ps) ∙ ap laid_book same ∙ (as_read r).1,
    )
  where
    lengths : (a : Table → ℕ) (ps : Table → List Bytes) → ((t : Table) → a t ≡ length (joined (ps t))) → (t : Table) → (sending_of a ps).announced t ≡ length ((sending_of a ps).sent t)
    lengths a ps e t = e t
