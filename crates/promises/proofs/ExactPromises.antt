-- Demand 2: accepted exactly if no line breaks a rule, else the first fault. Assumes nothing.
use mathlib.Core.Path.{◌≡◌, refl, ap, sym, ◌∙◌}
use mathlib.Core.List.{List, [], ◌∷◌}
use mathlib.Core.Logic.{◌⊎◌, inl, inr, ⊎_elim}
use mathlib.Core.Bool.{Bool, true, false}
use Prim.Native.Nat.{ℕ, zero, suc, ◌+◌, ◌<◌}
use native.Mathlib.Omega.{arith}
use lib.ListN.{length, get_or}
use Rattle.words.specs.Words.{Bytes}
use Rattle.refusals.specs.Verdicts.{placed, place, paper, ◌when◌, in_text, text_too_long, Check, Verdict}
use Rattle.refusals.specs.declared.Place.{Place}
use Rattle.std.specs.Prelude.{Ok, Err}
use Rattle.lines.specs.Lines.{line_after, slip_lines, overlong}
use Rattle.editions.specs.declared.Edition.{Edition}
use Rattle.tables.specs.Columns.{number}
use Rattle.tables.specs.declared.Table.{Table}
use Rattle.tables.specs.declared.Table.TheVariants.{VehicleType, Depot, Stop, StopPoint, Block, Calendar}
use Rattle.book.specs.Book.{Book, entered, empty_by}
use Rattle.book.specs.Result.{Result, leaves, refused, unless, ◌▹◌}
use Rattle.header.specs.Header.{Header, header_of, top_faults}
use Rattle.row_line.specs.RowLine.{row_read}
use Rattle.table_lines.specs.Reading.{judged, rows_read}
use Rattle.table_reading.specs.Reading.{table_read}
use Rattle.delivery.specs.Delivery.{reading, Delivery}
use Rattle.block_change.specs.Change.{slip_check, slip_leaves}
use Rattle.slips.specs.Slips.{lines_posted, posting}
use Rattle.cell_question.specs.CellQuestion.{first_line}
use Rattle.promises.specs.Promises.{onward, check_at, Faultless, FirstFault, row_lines_of, start_of, row_start, row_step, AcceptedExactly, RefusedAtFirst, SlipAcceptedExactly, SlipRefusedAtFirst, DeliveryInOrder, FaultyTable, in_types, in_depots, in_stops, in_points, in_blocks, in_days, DeliveryRefused}
use Rattle.promises.proofs.TestLaws.{going_on, unrefused, came}
use Rattle.promises.proofs.DeliveryLaws.{in_order}

-- lines judged in turn, said once for rows and for slip lines; the numbers of the lines come with them
module _ (check : Bytes → Book → Check) (step : Bytes → Book → Book) (table : ℕ) where
  unfoldable in_turn_lem : (ℕ → ℕ) → List Bytes → Book → Result
  in_turn_lem line [] b = leaves b
  in_turn_lem line (l ∷ ls) b = unless (placed table (line 0) (check l b)) (in_turn_lem (λ i. line (suc i)) ls (step l b))

  turn_faultless : (line : ℕ → ℕ) (ls : List Bytes) (b c : Book) → in_turn_lem line ls b ≡ leaves c → Faultless check step ls b c
  unfolding in_turn_lem onward
  turn_faultless line [] b c e = let f : c ≡ b = cc in record { passing = λ j h. absurd (omega arith); left = f }
  turn_faultless line (l ∷ ls) b c e = go (check l b) refl (turn_faultless (λ i. line (suc i)) ls (step l b) c) e
    where
      go : (v : Check) → check l b ≡ v → (in_turn_lem (λ i. line (suc i)) ls (step l b) ≡ leaves c → Faultless check step ls (step l b) c) →
          unless (placed table (line 0) (check l b)) (in_turn_lem (λ i. line (suc i)) ls (step l b)) ≡ leaves c → Faultless check step (l ∷ ls) b c
      go (Ok _) v ih f =
          let r : Faultless check step ls (step l b) c = ih (rw v at f) in
          record { passing = at r; left = r.left }
        where
          at : Faultless check step ls (step l b) c → (j : ℕ) → j < length (l ∷ ls) → check_at check step (l ∷ ls) j b ≡ Ok tt
          at r zero h = v
          at r (suc j) h = r.passing j (omega arith)
      go (Err w) v ih f =
          let x : refused (place w.number table (line 0) w.column) ≡ leaves c = rw v at f in
          let z : ◌≡◌ {A = ℕ} 0 1 = cc in let y : ⊥ = omega arith in absurd y

  faultless_turn : (line : ℕ → ℕ) (ls : List Bytes) (b c : Book) → Faultless check step ls b c → in_turn_lem line ls b ≡ leaves c
  unfolding in_turn_lem onward
  faultless_turn line [] b c h = ap (λ (z : Book). leaves z) (sym h.left)
  faultless_turn line (l ∷ ls) b c h =
      let here : check l b ≡ (Ok tt) = h.passing 0 (omega arith) in
      rw here (faultless_turn (λ i. line (suc i)) ls (step l b) c (record { passing = λ j g. h.passing (suc j) (omega arith); left = h.left }))

  turn_fault : (line : ℕ → ℕ) (ls : List Bytes) (b : Book) (p : Place) → in_turn_lem line ls b ≡ refused p → FirstFault check step table line ls b p
  unfolding in_turn_lem onward
  turn_fault line [] b p e = let z : ◌≡◌ {A = ℕ} 0 1 = cc in let y : ⊥ = omega arith in absurd y
  turn_fault line (l ∷ ls) b p e = go (check l b) refl (turn_fault (λ i. line (suc i)) ls (step l b) p) e
    where
      go : (v : Check) → check l b ≡ v → (in_turn_lem (λ i. line (suc i)) ls (step l b) ≡ refused p → FirstFault check step table (λ i. line (suc i)) ls (step l b) p) →
          unless (placed table (line 0) (check l b)) (in_turn_lem (λ i. line (suc i)) ls (step l b)) ≡ refused p → FirstFault check step table line (l ∷ ls) b p
      go (Ok _) v ih f =
          let r : FirstFault check step table (λ i. line (suc i)) ls (step l b) p = ih (rw v at f) in
          record { at = suc r.at; inside = omega (arith, r.inside); fault = r.fault; above = up r }
        where
          up : (r : FirstFault check step table (λ i. line (suc i)) ls (step l b) p) (j : ℕ) → j < suc r.at → check_at check step (l ∷ ls) j b ≡ Ok tt
          up r zero h = v
          up r (suc j) h = r.above j (omega arith)
      go (Err w) v ih f =
          let x : refused (place w.number table (line 0) w.column) ≡ refused p = rw v at f in
          let q : place w.number table (line 0) w.column ≡ p = cc in
          record { at = 0; inside = omega arith; fault = rw v (ap (λ (z : Place). Err z) q); above = λ j h. absurd (omega arith) }

  fault_turn : (line : ℕ → ℕ) (ls : List Bytes) (b : Book) (p : Place) (at : ℕ) → at < length ls → placed table (line at) (check_at check step ls at b) ≡ Err p →
      ((j : ℕ) → j < at → check_at check step ls j b ≡ Ok tt) → in_turn_lem line ls b ≡ refused p
  unfolding in_turn_lem onward
  fault_turn line [] b p at n f u = absurd (omega arith)
  fault_turn line (l ∷ ls) b p zero n f u = let v : placed table (line 0) (check l b) ≡ Err p = f in rw v
  fault_turn line (l ∷ ls) b p (suc at) n f u =
      let here : check l b ≡ (Ok tt) = u 0 (omega arith) in
      rw here (fault_turn (λ i. line (suc i)) ls (step l b) p at (omega arith) f (λ j h. u (suc j) (omega arith)))

-- rows and slip lines are so judged: a row by the line that it starts on, a slip's line by its number
rows_in_turn : (t : Table) (h : Header) (i : ℕ) (ls : List Bytes) (b : Book) →
    rows_read t h i ls b ≡ in_turn_lem (judged t h) (λ l x. entered t (row_read b.edition t h l) x) (number t) (start_of b.edition i ls) ls b
unfolding rows_read start_of in_turn_lem
rows_in_turn t h i [] b = refl
rows_in_turn t h i (l ∷ ls) b =
    ap (λ (r : Result). unless (placed (number t) i (judged t h l b)) r) (rows_in_turn t h (line_after b.edition i l) ls (entered t (row_read b.edition t h l) b))

slip_in_turn : (i : ℕ) (line : ℕ → ℕ) (ls : List Bytes) (b : Book) → ((j : ℕ) → line j ≡ i + j) → lines_posted i ls b ≡ in_turn_lem slip_check slip_leaves 5 line ls b
unfolding lines_posted in_turn_lem
slip_in_turn i line [] b h = refl
slip_in_turn i line (l ∷ ls) b h =
    let here : line 0 ≡ i = h 0 ∙ omega arith in
    rw here (ap (λ (r : Result). unless (placed 5 i (slip_check l b)) r) (slip_in_turn (suc i) (λ j. line (suc j)) ls (slip_leaves l b) (λ j. h (suc j) ∙ omega arith)))

slip_turned : (ls : List Bytes) (b : Book) → lines_posted 1 ls b ≡ in_turn_lem slip_check slip_leaves 5 suc ls b
slip_turned ls b = slip_in_turn 1 suc ls b (λ j. omega arith)

-- what stands before them
unless_refused : (v : Verdict) (r : Result) (p : Place) → unless v r ≡ refused p → (v ≡ Err p) ⊎ ((v ≡ Ok tt) × (r ≡ refused p))
unless_refused (Ok _) r p h = inr (refl, h)
unless_refused (Err q) r p h = let e : q ≡ p = cc in inl (ap (λ (z : Place). Err z) e)

pub accepted_exactly : AcceptedExactly
unfolding table_read
accepted_exactly t s b c = (
  λ e. (
    unrefused (top_faults b.edition t s) read c e,
    turn_faultless (judged t h) (row_step b.edition t s) (number t) (row_start b.edition s) ls b c (sym turned ∙ going_on (top_faults b.edition t s) read c e),
  ),
  λ f. rw f.0 (turned ∙ faultless_turn (judged t h) (row_step b.edition t s) (number t) (row_start b.edition s) ls b c f.1),
)
  where
    h : Header
    h = header_of b.edition t s

    ls : List Bytes
    ls = row_lines_of b.edition s

    read : Result
    read = rows_read t h (first_line b.edition s) ls b

    turned : read ≡ in_turn_lem (judged t h) (row_step b.edition t s) (number t) (row_start b.edition s) ls b
    turned = rows_in_turn t h (first_line b.edition s) ls b

pub refused_at_first : RefusedAtFirst
unfolding table_read
refused_at_first t s b p = (
  λ e.
      ⊎_elim (λ v. inl v)
      (λ v. inr (v.0, turn_fault (judged t h) (row_step b.edition t s) (number t) (row_start b.edition s) ls b p (sym turned ∙ v.1)))
      (unless_refused (top_faults b.edition t s) read p e),
  ⊎_elim (λ v. rw v)
      (λ v. rw v.0 (turned ∙ fault_turn (judged t h) (row_step b.edition t s) (number t) (row_start b.edition s) ls b p v.1.at v.1.inside v.1.fault v.1.above)),
)
  where
    h : Header
    h = header_of b.edition t s

    ls : List Bytes
    ls = row_lines_of b.edition s

    read : Result
    read = rows_read t h (first_line b.edition s) ls b

    turned : read ≡ in_turn_lem (judged t h) (row_step b.edition t s) (number t) (row_start b.edition s) ls b
    turned = rows_in_turn t h (first_line b.edition s) ls b

-- rows leave the book its edition, and so does a table
pub step_edition : (e : Edition) (t : Table) (s : Bytes) (ls : List Bytes) (b : Book) → (onward (row_step e t s) ls b).edition ≡ b.edition
unfolding onward
step_edition e t s [] b = refl
step_edition e t s (l ∷ ls) b = step_edition e t s ls (row_step e t s l b)

pub table_edition : (t : Table) (s : Bytes) (b c : Book) → table_read t s b ≡ leaves c → c.edition ≡ b.edition
table_edition t s b c h = ap (λ (z : Book). z.edition) ((accepted_exactly t s b c).0 h).1.left ∙ step_edition b.edition t s (row_lines_of b.edition s) b

-- the length of a slip
short_slip : (t : Bool) → in_text 5 (text_too_long when t) ≡ Ok tt → t ≡ false
short_slip true h = let z : ◌≡◌ {A = ℕ} 0 1 = cc in let y : ⊥ = omega arith in absurd y
short_slip false h = refl

long_slip : (t : Bool) (p : Place) → in_text 5 (text_too_long when t) ≡ Err p → (t ≡ true) × (paper (Err p) ≡ 1 ∷ 5 ∷ 0 ∷ 0 ∷ [])
long_slip true p h = (refl, ap paper (sym h))
long_slip false p h = let z : ◌≡◌ {A = ℕ} 0 1 = cc in let y : ⊥ = omega arith in absurd y

-- a place is its four numbers on paper
paper_place : (p : Place) (n t i k : ℕ) → paper (Err p) ≡ n ∷ t ∷ i ∷ k ∷ [] → p ≡ place n t i k
paper_place p n t i k e =
    let a : p.number ≡ n = ap (λ (l : List ℕ). get_or l 0 0) e in
    let b : p.table ≡ t = ap (λ (l : List ℕ). get_or l 1 0) e in
    let c : p.line ≡ i = ap (λ (l : List ℕ). get_or l 2 0) e in
    let d : p.column ≡ k = ap (λ (l : List ℕ). get_or l 3 0) e in
    rw (← a, ← b, ← c, ← d)

pub slip_accepted_exactly : SlipAcceptedExactly
unfolding posting
slip_accepted_exactly s b c = (
  λ e. (
    short_slip (overlong s) (unrefused top read c e),
    turn_faultless slip_check slip_leaves 5 suc (slip_lines s) b c (sym (slip_turned (slip_lines s) b) ∙ going_on top read c e),
  ),
  λ f. rw f.0 (slip_turned (slip_lines s) b ∙ faultless_turn slip_check slip_leaves 5 suc (slip_lines s) b c f.1),
)
  where
    top : Verdict
    top = in_text 5 (text_too_long when overlong s)

    read : Result
    read = lines_posted 1 (slip_lines s) b

pub slip_refused_at_first : SlipRefusedAtFirst
unfolding posting
slip_refused_at_first s b p = (
  λ e.
      ⊎_elim (λ v. inl (long_slip (overlong s) p v))
      (λ v. inr (short_slip (overlong s) v.0, turn_fault slip_check slip_leaves 5 suc (slip_lines s) b p (sym (slip_turned (slip_lines s) b) ∙ v.1)))
      (unless_refused (in_text 5 (text_too_long when overlong s)) (lines_posted 1 (slip_lines s) b) p e),
  ⊎_elim (λ v. rw v.0 (ap (λ (z : Place). refused z) (sym (paper_place p 1 5 0 0 v.1))))
      (λ v. rw v.0 (slip_turned (slip_lines s) b ∙ fault_turn slip_check slip_leaves 5 suc (slip_lines s) b p v.1.at v.1.inside v.1.fault v.1.above)),
)

-- the six tables ---------------------------------------------------------------------------------------------------------

pub delivery_in_order : DeliveryInOrder
unfolding reading
delivery_in_order e d b = (in_order e d b, λ o. rw (o.types, o.depots, o.stops, o.points, o.blocks, o.days))

-- a result that goes on, or ends in a refusal
ended : (r : Result) (f : Book → Result) (p : Place) → (r ▹ f) ≡ refused p → (r ≡ refused p) ⊎ ((b : Book) × (r ≡ leaves b) × (f b ≡ refused p))
ended (refused q) f p h = inl h
ended (leaves b) f p h = inr (b, refl, h)

-- a fault in the first tables, one more at a time
module _ (e : Edition) (d : Delivery) (p : Place) where
  abbrev r1 : Result
  r1 = table_read VehicleType d.types (empty_by e)

  abbrev r2 : Result
  r2 = r1 ▹ table_read Depot d.depots

  abbrev r3 : Result
  r3 = r2 ▹ table_read Stop d.stops

  abbrev r4 : Result
  r4 = r3 ▹ table_read StopPoint d.points

  faulty_two : r2 ≡ refused p → FaultyTable e d p
  faulty_two h = ⊎_elim (λ f. in_types f) (λ s. in_depots s.0 s.1 s.2) (ended r1 (table_read Depot d.depots) p h)

  faulty_three : r3 ≡ refused p → FaultyTable e d p
  faulty_three h =
      ⊎_elim faulty_two (λ s. let s2 = came r1 (table_read Depot d.depots) s.0 s.1 in in_stops s2.0 s.0 s2.1 s2.2 s.2)
      (ended r2 (table_read Stop d.stops) p h)

  faulty_four : r4 ≡ refused p → FaultyTable e d p
  faulty_four h =
      ⊎_elim faulty_three
      (λ s.
      let s3 = came r2 (table_read Stop d.stops) s.0 s.1 in
      let s2 = came r1 (table_read Depot d.depots) s3.0 s3.1 in
      in_points s2.0 s3.0 s.0 s2.1 s2.2 s3.2 s.2)
      (ended r3 (table_read StopPoint d.points) p h)

  abbrev r5 : Result
  r5 = r4 ▹ table_read Block d.blocks

  faulty_five : r5 ≡ refused p → FaultyTable e d p
  faulty_five h =
      ⊎_elim faulty_four
      (λ s.
      let s4 = came r3 (table_read StopPoint d.points) s.0 s.1 in
      let s3 = came r2 (table_read Stop d.stops) s4.0 s4.1 in
      let s2 = came r1 (table_read Depot d.depots) s3.0 s3.1 in
      in_blocks s2.0 s3.0 s4.0 s.0 s2.1 s2.2 s3.2 s4.2 s.2)
      (ended r4 (table_read Block d.blocks) p h)

  faulty_table : reading e d ≡ refused p → FaultyTable e d p
  unfolding reading
  faulty_table h =
      ⊎_elim faulty_five
      (λ s.
      let s5 = came r4 (table_read Block d.blocks) s.0 s.1 in
      let s4 = came r3 (table_read StopPoint d.points) s5.0 s5.1 in
      let s3 = came r2 (table_read Stop d.stops) s4.0 s4.1 in
      let s2 = came r1 (table_read Depot d.depots) s3.0 s3.1 in
      in_days s2.0 s3.0 s4.0 s5.0 s.0 s2.1 s2.2 s3.2 s4.2 s5.2 s.2)
      (ended r5 (table_read Calendar d.days) p h)

table_faulty : (e : Edition) (d : Delivery) (p : Place) → FaultyTable e d p → reading e d ≡ refused p
unfolding reading
table_faulty e d p (in_types f) = rw f
table_faulty e d p (in_depots b f g) = rw (f, g)
table_faulty e d p (in_stops b c f g h) = rw (f, g, h)
table_faulty e d p (in_points b c x f g h i) = rw (f, g, h, i)
table_faulty e d p (in_blocks b c x y f g h i j) = rw (f, g, h, i, j)
table_faulty e d p (in_days b c x y z f g h i j k) = rw (f, g, h, i, j, k)

pub delivery_refused : DeliveryRefused
delivery_refused e d p = (faulty_table e d p, table_faulty e d p)
