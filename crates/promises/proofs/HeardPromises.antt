-- A delivery by radio is read as a whole one: its tables one after another, what stands behind a fault, and calls out of turn. Assumes nothing.
use mathlib.Core.Path.{◌≡◌, refl, ap, sym, ◌∙◌, subst}
use mathlib.Core.List.{List, [], ◌∷◌, ◌++◌}
use mathlib.Core.Bool.{not, Bool, true, false}
use mathlib.Core.Logic.{inl, inr}
use Prim.Native.Nat.{ℕ, ◌≤◌, suc}
use native.Mathlib.Omega.{arith}
use lib.Dec.{eqb, ltb}
use lib.ListN.{length, take}
use lib.Seq.{take_all}
use borrow.Author.Tests.{ltb-false, eqb-true, not-false, eq-eqb}
use Rattle.words.specs.Words.{Bytes, whether◌then◌else◌}
use Rattle.refusals.proofs.Chaining.{both}
use Rattle.refusals.specs.Verdicts.{◌when◌, in_text, text_too_long, ◌⊳◌, ◌before◌, placed, in_header, length_differs, Check, Verdict}
use Rattle.std.specs.Prelude.{Ok, Err}
use Rattle.refusals.specs.declared.Place.{Place}
use Rattle.lines.specs.Lines.{line_after, lines, head_line, row_lines, overlong, most_bytes}
use Rattle.editions.specs.declared.Edition.{Edition}
use Rattle.tables.specs.Columns.{number}
use Rattle.tables.specs.declared.Table.{Table}
use Rattle.tables.specs.declared.Table.TheVariants.{VehicleType, Depot, Stop, StopPoint, Block, Calendar}
use Rattle.book.specs.Book.{Book, empty_by, entered}
use Rattle.book.specs.Result.{Result, refused, leaves, unless, ◌▹◌}
use Rattle.header.specs.Header.{Header, header_of, header_check}
use Rattle.row_line.specs.RowLine.{row_read}
use Rattle.table_lines.specs.Reading.{judged, rows_read}
use Rattle.table_reading.specs.Reading.{table_read}
use Rattle.delivery.specs.Delivery.{reading}
use Rattle.radio.specs.Radio.{length_check, heard, Course, stopped, going, Radio, awaits, counted, finished, next, announced, part_taken, closing, closed, hearing, hears, over as all-over, byte_heard, Call, announce, part, close, start, after, verdict_of, standing}
use Rattle.radio.specs.Hearing.{bytes_heard}
use Rattle.radio.proofs.Hearing.{over_stopped, table_over, own_fault}
use Rattle.radio.proofs.Counting.{counts, counted_short, part_whole, check_counted}
use Rattle.promises.specs.Radio.{run, parts, joined, PartsJoin, EmptyPart, Clear, TableHeard, sending_of, calls_for, calls_of, DeliveryHeard, HeardAsRead, FaultStays, MayAnswer, FaultAnswers, FaultEnds, OutOfTurn}
use Rattle.promises.proofs.TestLaws.{unfailed}

pub parts_join : PartsJoin
unfolding part_taken
parts_join [] q k = refl
parts_join (x ∷ p) q k = parts_join p q _

pub empty_part : EmptyPart
unfolding part_taken
empty_part k = refl

-- a table that is closed -----------------------------------------------------------------------------------------------------

same_length : (a n : ℕ) → length_check a n ≡ Ok tt → (a ≤ most_bytes) × (a ≡ n)
same_length a n e =
    let k = both (text_too_long when ltb most_bytes a) (length_differs when not (eqb a n)) e in
    (ltb-false most_bytes a (unfailed 1 0 (ltb most_bytes a) k.0), eqb-true a n (not-false (eqb a n) (unfailed 18 0 (not (eqb a n)) k.1)))

closing_heard : (t : Table) (a : ℕ) (s : Bytes) (b : Book) → closing t (counted a) (counted (length s)) (bytes_heard t (take (counted a) s) (going b 1 [] [])) ≡ heard t a s b
unfolding closing
closing_heard t a s b =
    let c : Course = bytes_heard t (take (counted a) s) (going b 1 [] []) in
    rw (own_fault t (take (counted a) s) (going b 1 [] []) refl, check_counted a (length s)) (go (length_check a (length s)) refl)
  where
    go : (v : Check) → length_check a (length s) ≡ v →
        unless (in_text (number t) v) (finished t (bytes_heard t (take (counted a) s) (going b 1 [] []))) ≡ unless (in_text (number t) v) (table_read t s b)
    go (Ok _) e =
        let k = same_length a (length s) e in
        let n : length s ≤ most_bytes = omega (arith, k.0, k.1) in
        let whole : take (counted a) s ≡ s = take_all (counted a) s (omega (arith, k.1, counted_short a k.0)) in
        rw whole (table_over t s b n)
    go (Err f) e = refl

pub table_closed : (t : Table) (a : ℕ) (s : Bytes) (r : Result) → Clear t r → closed (part_taken s (announced a (awaits t r))) ≡ next t (r ▹ heard t a s)
unfolding closing
table_closed t a s (leaves b) h =
    ap closed (part_whole t (counted a) s (going b 1 [] []) (counts a).most) ∙ ap (next t) (closing_heard t a s b)
table_closed t a s (refused p) h =
    ap closed (part_whole t (counted a) s (stopped p) (counts a).most)
    ∙ ap (λ (c : Course). next t (closing t (counted a) (counted (length s)) c)) (over_stopped t (take (counted a) s) p)
    ∙ rw h

pub run_parts : (ps : List Bytes) (k : Radio) → run (parts ps) k ≡ closed (part_taken (joined ps) k)
unfolding run parts joined part_taken
run_parts [] k = refl
run_parts (p ∷ ps) k = run_parts ps (part_taken p k) ∙ ap closed (sym (parts_join p (joined ps) k))

pub table_heard : TableHeard
unfolding run
table_heard t a ps r h = run_parts ps (announced a (awaits t r)) ∙ table_closed t a (joined ps) r h

-- a table's refusal is in that table ---------------------------------------------------------------------------------------

abbrev Own : Table → Result → Type 0
Own t (refused p) = p.table ≡ number t
Own t (leaves b) = Unit {0}

own_unless : (t : Table) (i : ℕ) (v : Check) (r : Result) → Own t r → Own t (unless (placed (number t) i v) r)
own_unless t i (Ok _) r h = h
own_unless t i (Err f) r h = refl

own_rows : (t : Table) (h : Header) (i : ℕ) (ls : List Bytes) (b : Book) → Own t (rows_read t h i ls b)
unfolding rows_read
own_rows t h i [] b = tt
own_rows t h i (l ∷ ls) b = own_unless t i (judged t h l b) _ (own_rows t h (line_after b.edition i l) ls (entered t (row_read b.edition t h l) b))

unless_before : (v w : Verdict) (r : Result) → unless v (unless w r) ≡ unless (v before w) r
unless_before (Ok _) w r = refl
unless_before (Err p) w r = refl

own_table : (t : Table) (s : Bytes) (b : Book) → Own t (table_read t s b)
unfolding table_read
own_table t s b =
    subst (Own t) (unless_before (in_text (number t) (text_too_long when overlong s)) (in_header (number t) (header_check b.edition t (head_line (lines b.edition s)))) (rows_read t (header_of b.edition t s) (line_after b.edition 1 (head_line (lines b.edition s))) (row_lines (lines b.edition s)) b))
    (own_unless t 0 (text_too_long when overlong s) _ (own_unless t 1 (header_check b.edition t (head_line (lines b.edition s))) _ (own_rows t (header_of b.edition t s) (line_after b.edition 1 (head_line (lines b.edition s))) (row_lines (lines b.edition s)) b)))

own_heard : (t : Table) (a : ℕ) (s : Bytes) (b : Book) → Own t (heard t a s b)
own_heard t a s b = own_unless t 0 (length_check a (length s)) (table_read t s b) (own_table t s b)

-- so it stands apart from every other table's
clear_own : (t u : Table) (r : Result) → eqb (number t) (number u) ≡ false → Own t r → Clear u r
clear_own t u (refused p) e h = rw h e
clear_own t u (leaves b) e h = tt

clear_on : (t u : Table) (a : ℕ) (s : Bytes) (r : Result) → eqb (number t) (number u) ≡ false → Clear u r → Clear u (r ▹ heard t a s)
clear_on t u a s (refused p) e h = h
clear_on t u a s (leaves b) e h = clear_own t u (heard t a s b) e (own_heard t a s b)

-- the delivery -------------------------------------------------------------------------------------------------------------

pub run_join : (xs ys : List Call) (k : Radio) → run (xs ++ ys) k ≡ run ys (run xs k)
unfolding run
run_join [] ys k = refl
run_join (x ∷ xs) ys k = run_join xs ys (after x k)

six_runs : (u v w x y z : List Call) (k : Radio) → run (u ++ (v ++ (w ++ (x ++ (y ++ z))))) k ≡ run z (run y (run x (run w (run v (run u k)))))
six_runs u v w x y z k =
    run_join u (v ++ (w ++ (x ++ (y ++ z)))) k ∙ run_join v (w ++ (x ++ (y ++ z))) (run u k) ∙ run_join w (x ++ (y ++ z)) (run v (run u k)) ∙ run_join x (y ++ z) (run w (run v (run u k)))
    ∙ run_join y z (run x (run w (run v (run u k))))

-- what stands before the last table
pub record Five (ed : Edition) (a : Table → ℕ) (ps : Table → List Bytes) : Type 0 where
  pub result : Result
  pub clear : Clear Calendar result
  pub stands : run (calls_for a ps Block) (run (calls_for a ps StopPoint) (run (calls_for a ps Stop) (run (calls_for a ps Depot) (run (calls_for a ps VehicleType) (start ed))))) ≡ awaits Calendar result
  pub last : (result ▹ heard Calendar (a Calendar) (joined (ps Calendar))) ≡ hearing ed (sending_of a ps)

pub five_heard : (ed : Edition) (a : Table → ℕ) (ps : Table → List Bytes) → Five ed a ps
unfolding hearing sending_of
five_heard ed a ps =
    let table : Table → Radio → Radio = λ t k. run (calls_for a ps t) k in
    let s : Table → Bytes = λ t. joined (ps t) in
    let r1 : Result = leaves (empty_by ed) ▹ heard VehicleType (a VehicleType) (s VehicleType) in
    let r2 : Result = r1 ▹ heard Depot (a Depot) (s Depot) in
    let r3 : Result = r2 ▹ heard Stop (a Stop) (s Stop) in
    let r4 : Result = r3 ▹ heard StopPoint (a StopPoint) (s StopPoint) in
    let r5 : Result = r4 ▹ heard Block (a Block) (s Block) in
    let first : (u : Table) → eqb 1 (number u) ≡ false → Clear u r1 = λ u e. clear_on VehicleType u (a VehicleType) (s VehicleType) (leaves (empty_by ed)) e tt in
    let second : (u : Table) → eqb 1 (number u) ≡ false → eqb 2 (number u) ≡ false → Clear u r2 = λ u e f. clear_on Depot u (a Depot) (s Depot) r1 f (first u e) in
    let third : (u : Table) → eqb 1 (number u) ≡ false → eqb 2 (number u) ≡ false → eqb 3 (number u) ≡ false → Clear u r3 = λ u e f g. clear_on Stop u (a Stop) (s Stop) r2 g (second u e f) in
    let fourth : (u : Table) → eqb 1 (number u) ≡ false → eqb 2 (number u) ≡ false → eqb 3 (number u) ≡ false → eqb 6 (number u) ≡ false → Clear u r4 =
    λ u e f g h. clear_on StopPoint u (a StopPoint) (s StopPoint) r3 h (third u e f g) in
    record {
      result = r5;
      clear = clear_on Block Calendar (a Block) (s Block) r4 refl (fourth Calendar refl refl refl refl);
      stands =
          ap (λ (k : Radio). table Block (table StopPoint (table Stop (table Depot k)))) (table_heard VehicleType (a VehicleType) (ps VehicleType) (leaves (empty_by ed)) tt)
          ∙ ap (λ (k : Radio). table Block (table StopPoint (table Stop k))) (table_heard Depot (a Depot) (ps Depot) r1 (first Depot refl))
          ∙ ap (λ (k : Radio). table Block (table StopPoint k)) (table_heard Stop (a Stop) (ps Stop) r2 (second Stop refl refl))
          ∙ ap (λ (k : Radio). table Block k) (table_heard StopPoint (a StopPoint) (ps StopPoint) r3 (third StopPoint refl refl refl))
          ∙ table_heard Block (a Block) (ps Block) r4 (fourth Block refl refl refl refl);
      last = refl;
    }

pub delivery_heard : DeliveryHeard
unfolding calls_of
delivery_heard ed a ps =
    let f : Five ed a ps = five_heard ed a ps in
    six_runs (calls_for a ps VehicleType) (calls_for a ps Depot) (calls_for a ps Stop) (calls_for a ps StopPoint) (calls_for a ps Block) (calls_for a ps Calendar) (start ed)
    ∙ ap (λ (k : Radio). run (calls_for a ps Calendar) k) f.stands
    ∙ table_heard Calendar (a Calendar) (ps Calendar) f.result f.clear ∙ ap (λ (r : Result). all-over r) f.last

-- where the announced bytes came
heard_read : (t : Table) (a : ℕ) (s : Bytes) (b : Book) → a ≡ length s → heard t a s b ≡ table_read t s b
unfolding table_read
heard_read t a s b e = rw (e, eq-eqb (length s) (length s) refl) (go (ltb most_bytes (length s)))
  where
    go : (q : Bool) →
        unless (in_text (number t) (text_too_long when q ⊳ Ok tt)) (unless (in_text (number t) (text_too_long when q) before in_header (number t) (header_check b.edition t (head_line (lines b.edition s)))) (rows_read t (header_of b.edition t s) (line_after b.edition 1 (head_line (lines b.edition s))) (row_lines (lines b.edition s)) b))
        ≡ unless (in_text (number t) (text_too_long when q) before in_header (number t) (header_check b.edition t (head_line (lines b.edition s)))) (rows_read t (header_of b.edition t s) (line_after b.edition 1 (head_line (lines b.edition s))) (row_lines (lines b.edition s)) b)
    go true = refl
    go false = refl

then_read : (t : Table) (a : ℕ) (s : Bytes) (q r : Result) → a ≡ length s → q ≡ r → (q ▹ heard t a s) ≡ (r ▹ table_read t s)
then_read t a s q (refused p) e f = rw f
then_read t a s q (leaves b) e f = rw f (heard_read t a s b e)

pub heard_as_read : HeardAsRead
unfolding hearing reading
heard_as_read ed d e =
    then_read Calendar (d.announced Calendar) (d.sent Calendar) _ _ (e Calendar)
    (then_read Block (d.announced Block) (d.sent Block) _ _ (e Block)
    (then_read StopPoint (d.announced StopPoint) (d.sent StopPoint) _ _ (e StopPoint)
    (then_read Stop (d.announced Stop) (d.sent Stop) _ _ (e Stop)
    (then_read Depot (d.announced Depot) (d.sent Depot) _ _ (e Depot)
    (then_read VehicleType (d.announced VehicleType) (d.sent VehicleType) (leaves (empty_by ed)) (leaves (empty_by ed)) (e VehicleType) refl)))))

-- behind a fault -----------------------------------------------------------------------------------------------------------

-- bytes are counted, and nothing else changes
part_stopped : (t : Table) (a n : ℕ) (p : Place) (s : Bytes) → (m : ℕ) × (part_taken s (hears t a n (stopped p)) ≡ hears t a m (stopped p))
unfolding part_taken byte_heard
part_stopped t a n p [] = (n, refl)
part_stopped t a n p (x ∷ s) = go (ltb n a) (part_stopped t a (counted (suc n)) p s)
  where
    go : (q : Bool) → (m : ℕ) × (part_taken s (hears t a (counted (suc n)) (stopped p)) ≡ hears t a m (stopped p))
        → (m : ℕ) × (part_taken s (hears t a (counted (suc n)) (whether q then stopped p else stopped p)) ≡ hears t a m (stopped p))
    go true h = h
    go false h = h

pub fault_stays : FaultStays
fault_stays t a n p s = let k = part_stopped t a n p s in ap standing k.1

standing_next : (t : Table) (r : Result) → standing (next t r) ≡ r
standing_next VehicleType r = refl
standing_next Depot r = refl
standing_next Stop r = refl
standing_next StopPoint r = refl
standing_next Block r = refl
standing_next Calendar r = refl

pub fault_answers : FaultAnswers
unfolding closing finished
fault_answers t a n p ps =
    let k = part_stopped t a n p (joined ps) in
    let e : standing (run (parts ps) (hears t a n (stopped p))) ≡ closing t a k.0 (stopped p) =
    ap standing (run_parts ps (hears t a n (stopped p)) ∙ ap closed k.1) ∙ standing_next t (closing t a k.0 (stopped p)) in
    subst (λ (r : Result). MayAnswer t p (verdict_of r)) (sym e) (go (eqb p.table (number t)) refl (ltb most_bytes a) (not (eqb a k.0)))
  where
    go : (q : Bool) → eqb p.table (number t) ≡ q → (u v : Bool) →
        MayAnswer t p (verdict_of (whether not q then refused p else unless (in_text (number t) (text_too_long when u ⊳ length_differs when v)) (refused p)))
    go true e true v = inr (eqb-true p.table (number t) e, inr refl)
    go true e false true = inr (eqb-true p.table (number t) e, inl refl)
    go true e false false = inl refl
    go false e u v = inl refl

pub fault_ends : FaultEnds
fault_ends t a ps p e = table_heard t a ps (refused p) e

-- out of turn --------------------------------------------------------------------------------------------------------------

pub never : {A : Type 0} → ◌≡◌ {A = Bool} true false → A
never e = let z : ◌≡◌ {A = ℕ} 0 1 = cc in let y : ⊥ = omega arith in absurd y

pub out_of_turn : OutOfTurn
unfolding part_taken
out_of_turn (announce a) (awaits t r) e = never e
out_of_turn (announce a) (hears t m n c) e = (refl, refl)
out_of_turn (announce a) (all-over r) e = (refl, refl)
out_of_turn (part s) (awaits t r) e = (idle s, refl)
  where
    idle : (s : Bytes) → part_taken s (awaits t r) ≡ awaits t r
    idle [] = refl
    idle (x ∷ s) = idle s
out_of_turn (part s) (hears t m n c) e = never e
out_of_turn (part s) (all-over r) e = (idle s, refl)
  where
    idle : (s : Bytes) → part_taken s (all-over r) ≡ all-over r
    idle [] = refl
    idle (x ∷ s) = idle s
out_of_turn close (awaits t r) e = (refl, refl)
out_of_turn close (hears t m n c) e = never e
out_of_turn close (all-over r) e = (refl, refl)
