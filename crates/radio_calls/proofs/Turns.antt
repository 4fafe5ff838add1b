-- What a call does by the turn that is kept. Assumes nothing.
use mathlib.Core.Path.{◌≡◌, refl, ap, sym, subst, ◌∙◌}
use mathlib.Core.List.{[], ◌∷◌}
use mathlib.Core.Bool.{Bool, true, false, ◌&&◌}
use Prim.Native.Nat.{ℕ, ◌+◌, ◌-◌, ◌<◌, ◌≤◌}
use native.Mathlib.Omega.{arith}
use lib.Dec.{ltb, leb, eqb}
use lib.ListN.{length, take}
use borrow.Author.Tests.{eqb-true, eqb-false, ltb-true, ltb-false, leb-true, leb-false, le-leb, lt-leb}
use Rattle.words.specs.Words.{Bytes, whether◌then◌else◌}
use Rattle.words.proofs.Lists.{and_left, and_right}
use Rattle.refusals.specs.Verdicts.{nowhere, not_there, bad_loan, Verdict}
use Rattle.refusals.specs.declared.Place.{Place}
use Rattle.std.specs.Prelude.{Ok, Err}
use Rattle.tables.specs.declared.Table.{Table}
use Rattle.tables.specs.declared.Table.TheVariants.{VehicleType, Depot, Stop, StopPoint, Block, Calendar}
use Rattle.book.specs.Result.{Result}
use Rattle.radio.specs.Radio.{Radio, awaits, hears, over, Call, announce, part, close, counted, begun, closing, next, after, in_turn, answer, standing, part_taken, byte_taken, verdict_of}
use Rattle.radio.specs.Room.{Slices, outcome, laid_out, table_at, result_in, course_in, radio_in, keeps_radio, radio_call, first_heard, all_closed, turn_of, announced_of, come_of, last_heard}
use Rattle.radio.specs.Hearing.{bytes_heard}
use Rattle.radio.proofs.Counting.{part_taken_lem}
use Rattle.radio.proofs.Laying.{handed}
use Rattle.radio_slices.specs.Hearing.{table_of}
use Rattle.radio_slices.proofs.Counting.{within_the_count}
use Rattle.radio_slices.proofs.Keeping.{numbers_kept}
use Rattle.radio_slices.proofs.Turns.{is_awaited, is_over, is_heard, heard_keeps_lem}
use Rattle.radio_calls.specs.Turns.{admitted}

-- 16 --------------------------------------------------------------------------------------------------------------------------------

against : (c : Call) (s : Slices) → keeps_radio s ≡ false → radio_call c s ≡ outcome (nowhere bad_loan) s
unfolding radio_call
against c s e = rw e

-- 15 --------------------------------------------------------------------------------------------------------------------------------

-- whoever takes no part is left as it is
not_heard : (x : Bytes) (k : Radio) → ((b : ℕ) → byte_taken b k ≡ k) → part_taken x k ≡ k
unfolding part_taken
not_heard [] k h = refl
not_heard (b ∷ x) k h = ap (part_taken x) (h b) ∙ not_heard x k h

stays : (c : Call) (k : Radio) → in_turn c k ≡ false → after c k ≡ k
stays (announce a) (awaits t r) e = let z : ◌≡◌ {A = ℕ} 0 1 = cc in let y : ⊥ = omega arith in absurd y
stays (announce a) (hears t m n c) e = refl
stays (announce a) (over r) e = refl
stays (part x) (awaits t r) e = not_heard x (awaits t r) (λ b. refl)
stays (part x) (hears t m n c) e = let z : ◌≡◌ {A = ℕ} 0 1 = cc in let y : ⊥ = omega arith in absurd y
stays (part x) (over r) e = not_heard x (over r) (λ b. refl)
stays close (awaits t r) e = refl
stays close (hears t m n c) e = let z : ◌≡◌ {A = ℕ} 0 1 = cc in let y : ⊥ = omega arith in absurd y
stays close (over r) e = refl

module _ (s : Slices) (keeps : keeps_radio s ≡ true) where
  out_of_turn : (c : Call) → in_turn c (radio_in s) ≡ false → radio_call c s ≡ outcome (nowhere not_there) s
  unfolding radio_call
  out_of_turn c e = rw (keeps, e) (ap (outcome (nowhere not_there)) (ap laid_out (stays c (radio_in s) e) ∙ sym (handed s keeps).is))

-- the turns -------------------------------------------------------------------------------------------------------------------------

module _ (s : Slices) where
  no_announcing : (a : ℕ) → all_closed ≤ turn_of s.numbers → in_turn (announce a) (radio_in s) ≡ false
  no_announcing a h = go (eqb (turn_of s.numbers) all_closed) refl
    where
      go : (q : Bool) → eqb (turn_of s.numbers) all_closed ≡ q → in_turn (announce a) (radio_in s) ≡ false
      go true e = ap (in_turn (announce a)) (is_over s (eqb-true (turn_of s.numbers) all_closed e))
      go false e = let n : turn_of s.numbers ≡ all_closed → ⊥ = eqb-false (turn_of s.numbers) all_closed e in ap (in_turn (announce a)) (is_heard s (omega arith))

  -- what holds while no table is heard
  unheard : (P : Radio → Type 0) → ((t : Table) (r : Result) → P (awaits t r)) → ((r : Result) → P (over r)) → turn_of s.numbers < first_heard → P (radio_in s)
  unheard P f g h = go (ltb (turn_of s.numbers) all_closed) refl
    where
      go : (q : Bool) → ltb (turn_of s.numbers) all_closed ≡ q → P (radio_in s)
      go true e = subst P (sym (is_awaited s (ltb-true (turn_of s.numbers) all_closed e))) (f _ _)
      go false e = let l : all_closed ≤ turn_of s.numbers = ltb-false (turn_of s.numbers) all_closed e in subst P (sym (is_over s (omega arith))) (g _)

-- let in or not ---------------------------------------------------------------------------------------------------------------------

abbrev within : ℕ → ℕ → Slices → Bool
within first last s = leb first (turn_of s.numbers) && leb (turn_of s.numbers) last

module _ (first last : ℕ) (s : Slices) where
  pub not_kept : keeps_radio s ≡ false → nowhere bad_loan ≡ admitted first last s
  not_kept e = rw e

  module _ (keeps : keeps_radio s ≡ true) where
    pub too_early : turn_of s.numbers < first → nowhere not_there ≡ admitted first last s
    too_early h = rw (keeps, lt-leb first (turn_of s.numbers) h)

    pub too_late : first ≤ turn_of s.numbers → last < turn_of s.numbers → nowhere not_there ≡ admitted first last s
    too_late h k = rw (keeps, le-leb first (turn_of s.numbers) h, lt-leb (turn_of s.numbers) last k)

    pub in_time : first ≤ turn_of s.numbers → turn_of s.numbers ≤ last → (Ok tt) ≡ admitted first last s
    in_time h k = rw (keeps, le-leb first (turn_of s.numbers) h, le-leb (turn_of s.numbers) last k)

pub record LetIn (first last : ℕ) (s : Slices) : Type 0 where
  pub keeps : keeps_radio s ≡ true
  pub low : first ≤ turn_of s.numbers
  pub high : turn_of s.numbers ≤ last

abbrev answered : Bool → Bool → Verdict
answered kept due = whether kept then (whether due then Ok tt else nowhere not_there) else nowhere bad_loan

module _ (first last : ℕ) (s : Slices) (v : Verdict) (is : v ≡ admitted first last s) where
  pub let_in : v ≡ Ok tt → LetIn first last s
  let_in f = go (keeps_radio s) refl (within first last s) refl (sym f ∙ is)
    where
      go : (q : Bool) → keeps_radio s ≡ q → (r : Bool) → within first last s ≡ r → (Ok tt) ≡ answered q r → LetIn first last s
      go true e true d g =
          record {
            keeps = e;
            low = leb-true first (turn_of s.numbers) (and_left (leb first (turn_of s.numbers)) (leb (turn_of s.numbers) last) d);
            high = leb-true (turn_of s.numbers) last (and_right (leb first (turn_of s.numbers)) (leb (turn_of s.numbers) last) d);
          }
      go true e false d g = let z : ◌≡◌ {A = ℕ} 0 1 = cc in let y : ⊥ = omega arith in absurd y
      go false e r d g = let z : ◌≡◌ {A = ℕ} 0 1 = cc in let y : ⊥ = omega arith in absurd y

  -- a call that is not let in
  turned_away : (c : Call) → (keeps_radio s ≡ true → within first last s ≡ false → in_turn c (radio_in s) ≡ false) → (p : Place) → v ≡ Err p
      → outcome (Err p) s ≡ radio_call c s
  turned_away c out p f = go (keeps_radio s) refl (within first last s) refl (sym f ∙ is)
    where
      go : (q : Bool) → keeps_radio s ≡ q → (r : Bool) → within first last s ≡ r → Err p ≡ answered q r → outcome (Err p) s ≡ radio_call c s
      go true e true d g = let z : ◌≡◌ {A = ℕ} 0 1 = cc in let y : ⊥ = omega arith in absurd y
      go true e false d g = ap (λ (w : Verdict). outcome w s) g ∙ sym (out_of_turn s e c (out e d))
      go false e r d g = ap (λ (w : Verdict). outcome w s) g ∙ sym (against c s e)

outside : (i n j : ℕ) → i ≤ n → leb i n && leb n j ≡ false → j < n
outside i n j h e = leb-false n j (rw (le-leb i n h) at e)

module _ (s : Slices) (v : Verdict) (p : Place) (f : v ≡ Err p) where
  pub not_announced : v ≡ admitted 0 (all_closed - 1) s → (a : ℕ) → outcome (Err p) s ≡ radio_call (announce a) s
  not_announced e a =
      turned_away 0 (all_closed - 1) s v e (announce a) (λ k d. no_announcing s a (omega (arith, outside 0 (turn_of s.numbers) (all_closed - 1) (omega arith) d))) p f

  module _ (e : v ≡ admitted first_heard last_heard s) where
    early : keeps_radio s ≡ true → within first_heard last_heard s ≡ false → turn_of s.numbers < first_heard
    early k d = go (leb first_heard (turn_of s.numbers)) refl
      where
        go : (q : Bool) → leb first_heard (turn_of s.numbers) ≡ q → turn_of s.numbers < first_heard
        go true g =
            let last = (numbers_kept s.book s.numbers s.lines k).turns in
            absurd (omega (arith, last, outside first_heard (turn_of s.numbers) last_heard (leb-true first_heard (turn_of s.numbers) g) d))
        go false g = leb-false first_heard (turn_of s.numbers) g

    pub no_part : (x : Bytes) → outcome (Err p) s ≡ radio_call (part x) s
    no_part x = turned_away first_heard last_heard s v e (part x) (λ k d. unheard s (λ c. in_turn (part x) c ≡ false) (λ t r. refl) (λ r. refl) (early k d)) p f

    pub no_close : outcome (Err p) s ≡ radio_call close s
    no_close = turned_away first_heard last_heard s v e close (λ k d. unheard s (λ c. in_turn close c ≡ false) (λ t r. refl) (λ r. refl) (early k d)) p f

-- in turn ---------------------------------------------------------------------------------------------------------------------------

in_turn_lem : (s : Slices) → keeps_radio s ≡ true → (c : Call) (k : Radio) → radio_in s ≡ k → radio_call c s ≡ outcome (answer c k) (laid_out (after c k))
unfolding radio_call
in_turn_lem s keeps c k e = rw (keeps, e)

pub announced_in_turn : (s : Slices) → keeps_radio s ≡ true → (a : ℕ) → turn_of s.numbers < all_closed
    → radio_call (announce a) s ≡ outcome (Ok tt) (laid_out (hears (table_at (turn_of s.numbers)) (counted a) 0 (begun (result_in s))))
announced_in_turn s keeps a h = in_turn_lem s keeps (announce a) (awaits (table_at (turn_of s.numbers)) (result_in s)) (is_awaited s h)

module _ (s : Slices) (keeps : keeps_radio s ≡ true) (h : first_heard ≤ turn_of s.numbers) where
  abbrev table : Table
  table = table_of s.numbers

  pub part_in_turn : (x : Bytes) → radio_call (part x) s
      ≡ outcome (Ok tt) (laid_out (hears table (announced_of s.numbers) (counted (come_of s.numbers + length x)) (bytes_heard table (take (announced_of s.numbers - come_of s.numbers) x) (course_in s))))
  part_in_turn x =
      let a = announced_of s.numbers in
      let n = come_of s.numbers in
      let z : n + 0 ≡ n = omega arith in
      let e : counted n ≡ n = ap counted (sym z) ∙ within_the_count n 0 (omega (arith, (heard_keeps_lem s keeps h).come)) ∙ z in
      let f : part_taken x (hears table a n (course_in s)) ≡ hears table a (counted (n + length x)) (bytes_heard table (take (a - n) x) (course_in s)) =
      ap (λ (m : ℕ). part_taken x (hears table a m (course_in s))) (sym e) ∙ part_taken_lem table a x n (course_in s) (heard_keeps_lem s keeps h).announced
      ∙ ap (λ (m : ℕ). hears table a (counted (n + length x)) (bytes_heard table (take (a - m) x) (course_in s))) e in
      in_turn_lem s keeps (part x) (hears table a n (course_in s)) (is_heard s h) ∙ ap (λ (k : Radio). outcome (Ok tt) (laid_out k)) f

  pub close_in_turn : radio_call close s
      ≡ outcome (verdict_of (closing table (announced_of s.numbers) (come_of s.numbers) (course_in s))) (laid_out (next table (closing table (announced_of s.numbers) (come_of s.numbers) (course_in s))))
  close_in_turn =
      let r = closing table (announced_of s.numbers) (come_of s.numbers) (course_in s) in
      in_turn_lem s keeps close (hears table (announced_of s.numbers) (come_of s.numbers) (course_in s)) (is_heard s h)
      ∙ ap (λ (x : Result). outcome (verdict_of x) (laid_out (next table r))) (stands table r)
    where
      stands : (t : Table) (r : Result) → standing (next t r) ≡ r
      stands VehicleType r = refl
      stands Depot r = refl
      stands Stop r = refl
      stands StopPoint r = refl
      stands Block r = refl
      stands Calendar r = refl
