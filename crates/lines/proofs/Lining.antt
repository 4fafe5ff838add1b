-- The lines of a text from a place on: where the first one ends, and that the others follow it. Assumes nothing.
use mathlib.Core.Path.{◌≡◌, refl, ap, sym, ◌∙◌}
use mathlib.Core.List.{[], ◌∷◌, List}
use mathlib.Core.Bool.{Bool, true, false, ◌&&◌, not}
use Prim.Native.Nat.{ℕ, ◌<◌, suc, ◌+◌, ◌≤◌, zero, ◌-◌}
use native.Mathlib.Omega.{arith}
use lib.ListN.{length, drop, get_or, drop_of_length-le, length-drop, take}
use lib.Dec.{eqb, ltb}
use lib.Seq.{get_or-drop, drop-drop, drop-nil, take-nil}
use borrow.Author.Tests.{ne_eqb, eq-eqb, eqb-true, lt-ltb, le-ltb, ltb-true, ltb-false}
use Rattle.std.specs.Int.{from_bool}
use Rattle.words.specs.Words.{Bytes, whether◌then◌else◌}
use Rattle.words.proofs.Lists.{drop_step}
use Rattle.editions.specs.declared.Edition.{Edition}
use Rattle.editions.specs.declared.Edition.TheVariants.{Dino21}
use Rattle.cells.specs.Cells.{inside, breaks_stand}
use Rattle.cells.specs.declared.State.{State}
use Rattle.cells.specs.declared.State.TheVariants.{Fresh, Plain, Inside, Closed, Over, Fault}
use Rattle.lines.specs.Ends.{slip_length, slip_room, feed_from, line_room, line_length, line_at, slip_line_at}
use Rattle.lines.specs.Lines.{quoting_behind, onto, lines, lines_from, slip_lines, head_line, row_lines, quoting, from, ends_row, end_next, feeds}
use Rattle.lines.specs.declared.Line.{Line}

-- a slip's lines ------------------------------------------------------------------------------------------------------------------

-- the search for a line feed, byte by byte
pub slip_feed_here : (s : Bytes) (i : ℕ) → i < length s → get_or s i 0 ≡ 10 → slip_length (drop i s) ≡ 0
unfolding slip_length
slip_feed_here s i h e = rw (drop_step 0 s i h, e)

pub slip_feed_on : (s : Bytes) (i : ℕ) → i < length s → (get_or s i 0 ≡ 10 → ⊥) → slip_length (drop i s) ≡ suc (slip_length (drop (i + 1) s))
unfolding slip_length
slip_feed_on s i h n = rw (drop_step 0 s i h, ne_eqb (get_or s i 0) 10 n)

pub slip_feed_none : (s : Bytes) (i : ℕ) → length s ≤ i → slip_length (drop i s) ≡ 0
unfolding slip_length
slip_feed_none s i h = rw (drop_of_length-le s h)

-- a line that a line feed ends, and one that the text's end ends
slip_room_fed : (s : Bytes) → slip_length s < length s → slip_room s ≡ suc (slip_length s)
unfolding slip_length slip_room
slip_room_fed [] h = absurd (omega arith)
slip_room_fed (b ∷ bs) h = go (eqb b 10) h (slip_room_fed bs)
  where
    go : (t : Bool) → (whether t then 0 else suc (slip_length bs)) < suc (length bs) → (slip_length bs < length bs → slip_room bs ≡ suc (slip_length bs))
        → (whether t then 1 else suc (slip_room bs)) ≡ suc (whether t then 0 else suc (slip_length bs))
    go true k ih = refl
    go false k ih = ap suc (ih (omega arith))

-- no line feed: the line is all that is left
slip_not_fed : (b : ℕ) (bs : Bytes) → length (b ∷ bs) ≤ slip_length (b ∷ bs) → (eqb b 10 ≡ false) × (length bs ≤ slip_length bs)
unfolding slip_length
slip_not_fed b bs h = go (eqb b 10) h
  where
    go : (t : Bool) → suc (length bs) ≤ (whether t then 0 else suc (slip_length bs)) → (t ≡ false) × (length bs ≤ slip_length bs)
    go true k = absurd (omega arith)
    go false k = (refl, omega arith)

slip_room_last : (s : Bytes) → length s ≤ slip_length s → slip_room s ≡ slip_length s
unfolding slip_length slip_room
slip_room_last [] h = refl
slip_room_last (b ∷ bs) h =
    let n : (eqb b 10 ≡ false) × (length bs ≤ slip_length bs) = slip_not_fed b bs h in
    rw n.0 (ap suc (slip_room_last bs n.1))

onto_first : (b : ℕ) (ls : List Bytes) (l : Bytes) (rest : List Bytes) → ls ≡ l ∷ rest → onto b ls ≡ (b ∷ l) ∷ rest
onto_first b ls l rest e = rw e

pub slip_lines_first : (b : ℕ) (bs : Bytes) → slip_lines (b ∷ bs) ≡ take (slip_length (b ∷ bs)) (b ∷ bs) ∷ slip_lines (drop (slip_room (b ∷ bs)) (b ∷ bs))
unfolding slip_lines slip_length slip_room
slip_lines_first b [] = go (eqb b 10)
  where
    go : (t : Bool) → (whether t then [] ∷ [] else (b ∷ []) ∷ []) ≡ take (whether t then 0 else 1) (b ∷ []) ∷ slip_lines (drop (whether t then 1 else 1) (b ∷ []))
    go true = refl
    go false = refl
slip_lines_first b (c ∷ cs) = go (eqb b 10) refl (slip_lines_first c cs)
  where
    go : (t : Bool) → eqb b 10 ≡ t → slip_lines (c ∷ cs) ≡ take (slip_length (c ∷ cs)) (c ∷ cs) ∷ slip_lines (drop (slip_room (c ∷ cs)) (c ∷ cs))
        → slip_lines (b ∷ (c ∷ cs)) ≡ take (slip_length (b ∷ (c ∷ cs))) (b ∷ (c ∷ cs)) ∷ slip_lines (drop (slip_room (b ∷ (c ∷ cs))) (b ∷ (c ∷ cs)))
    go true p ih = simp p
    go false p ih = simp p (onto_first b _ _ _ ih)

slip_fits : (s : Bytes) → slip_length s ≤ slip_room s
unfolding slip_length slip_room
slip_fits [] = omega arith
slip_fits (b ∷ bs) = go (eqb b 10) (slip_fits bs)
  where
    go : (t : Bool) → slip_length bs ≤ slip_room bs → (whether t then 0 else suc (slip_length bs)) ≤ (whether t then 1 else suc (slip_room bs))
    go true h = omega arith
    go false h = omega arith

slip_room_le : (s : Bytes) → slip_room s ≤ length s
unfolding slip_room
slip_room_le [] = omega arith
slip_room_le (b ∷ bs) = go (eqb b 10) (slip_room_le bs)
  where
    go : (t : Bool) → slip_room bs ≤ length bs → (whether t then 1 else suc (slip_room bs)) ≤ suc (length bs)
    go true h = omega arith
    go false h = omega arith

slip_room_some : (b : ℕ) (bs : Bytes) → 0 < slip_room (b ∷ bs)
unfolding slip_room
slip_room_some b bs = go (eqb b 10)
  where
    go : (t : Bool) → 0 < (whether t then 1 else suc (slip_room bs))
    go true = omega arith
    go false = omega arith

-- how the quotes of a row stand -------------------------------------------------------------------------------------------------------

-- what goes on from a state goes on from it
pub from_on : {A : Type 0} (s : State) (on : State → A) → from s on ≡ on s
from_on Fresh on = refl
from_on Plain on = refl
from_on Inside on = refl
from_on Closed on = refl
from_on Over on = refl
from_on Fault on = refl

-- a carriage return neither opens nor closes quotes
return_inside : (s : State) → inside (quoting s 13) ≡ inside s
return_inside Fresh = refl
return_inside Plain = refl
return_inside Inside = refl
return_inside Closed = refl
return_inside Over = refl
return_inside Fault = refl

pub return_ends : (e : Edition) (s : State) (b c : ℕ) → eqb b 13 ≡ true → ends_row e (quoting s b) c ≡ ends_row e s c
return_ends e s b c r =
    let k : b ≡ 13 = eqb-true b 13 r in
    ap (λ (n : ℕ). ends_row e (quoting s n) c) k ∙ ap (λ (u : Bool). eqb c 10 && not (u && breaks_stand e)) (return_inside s)

return_next : (e : Edition) (s : State) (b : ℕ) (bs : Bytes) → eqb b 13 ≡ true → end_next e (quoting s b) bs ≡ end_next e s bs
return_next e s b [] r = refl
return_next e s b (c ∷ cs) r = return_ends e s b c r

-- by 2.1 a line feed always ends the line
pub feed_plain : (s : State) (bs : Bytes) → slip_length bs ≡ feed_from Dino21 s bs
unfolding slip_length feed_from
feed_plain s [] = refl
feed_plain s (b ∷ bs) = go (eqb b 10) (inside s) (feed_plain (quoting s b) bs)
  where
    go : (t u : Bool) → slip_length bs ≡ feed_from Dino21 (quoting s b) bs
        → (whether t then 0 else suc (slip_length bs)) ≡ (whether t && not (u && false) then 0 else suc (feed_from Dino21 (quoting s b) bs))
    go true true h = refl
    go true false h = refl
    go false u h = ap suc h

-- the search for the line feed that ends a row, byte by byte
module _ (e : Edition) (q : State) (s : Bytes) (i : ℕ) where
  pub feed_here : i < length s → ends_row e q (get_or s i 0) ≡ true → feed_from e q (drop i s) ≡ 0
  unfolding feed_from
  feed_here h r = rw (drop_step 0 s i h, r)

  pub feed_on : i < length s → ends_row e q (get_or s i 0) ≡ false → feed_from e q (drop i s) ≡ suc (feed_from e (quoting q (get_or s i 0)) (drop (i + 1) s))
  unfolding feed_from
  feed_on h r = rw (drop_step 0 s i h, r)

  pub feed_none : length s ≤ i → feed_from e q (drop i s) ≡ 0
  unfolding feed_from
  feed_none h = rw (drop_of_length-le s h)

  pub behind_on : i < length s → quoting_behind q (drop i s) ≡ quoting_behind (quoting q (get_or s i 0)) (drop (i + 1) s)
  unfolding quoting_behind
  behind_on h = rw (drop_step 0 s i h)

  pub behind_none : length s ≤ i → quoting_behind q (drop i s) ≡ q
  unfolding quoting_behind
  behind_none h = rw (drop_of_length-le s h)

-- the line feeds of a row, byte by byte
module _ (s : Bytes) (i : ℕ) where
  pub feeds_on : i < length s → feeds (drop i s) ≡ from_bool (eqb (get_or s i 0) 10) + feeds (drop (i + 1) s)
  unfolding feeds
  feeds_on h = rw (drop_step 0 s i h) (go (eqb (get_or s i 0) 10))
    where
      go : (t : Bool) → (whether t then suc (feeds (drop (i + 1) s)) else feeds (drop (i + 1) s)) ≡ from_bool t + feeds (drop (i + 1) s)
      go true = omega arith
      go false = omega arith

  pub feeds_none : length s ≤ i → feeds (drop i s) ≡ 0
  unfolding feeds
  feeds_none h = rw (drop_of_length-le s h)

-- a table's lines -----------------------------------------------------------------------------------------------------------------------

module _ (e : Edition) where
  -- a row that a line feed ends, and one that the text's end ends
  room_fed : (s : State) (bs : Bytes) → feed_from e s bs < length bs → line_room e s bs ≡ suc (feed_from e s bs)
  unfolding feed_from line_room
  room_fed s [] h = absurd (omega arith)
  room_fed s (b ∷ bs) h = go (ends_row e s b) h (room_fed (quoting s b) bs)
    where
      go : (t : Bool) → (whether t then 0 else suc (feed_from e (quoting s b) bs)) < suc (length bs) → (feed_from e (quoting s b) bs < length bs → line_room e (quoting s b) bs ≡ suc (feed_from e (quoting s b) bs))
          → (whether t then 1 else suc (line_room e (quoting s b) bs)) ≡ suc (whether t then 0 else suc (feed_from e (quoting s b) bs))
      go true k ih = refl
      go false k ih = ap suc (ih (omega arith))

  module _ (s : State) (b : ℕ) (bs : Bytes) where
    feed_first : feed_from e s (b ∷ bs) ≡ 0 → ends_row e s b ≡ true
    unfolding feed_from
    feed_first h = go (ends_row e s b) h
      where
        go : (t : Bool) → (whether t then 0 else suc (feed_from e (quoting s b) bs)) ≡ 0 → t ≡ true
        go true k = refl
        go false k = absurd (omega arith)

    feed_later : (n : ℕ) → feed_from e s (b ∷ bs) ≡ suc n → (ends_row e s b ≡ false) × (feed_from e (quoting s b) bs ≡ n)
    unfolding feed_from
    feed_later n h = go (ends_row e s b) h
      where
        go : (t : Bool) → (whether t then 0 else suc (feed_from e (quoting s b) bs)) ≡ suc n → (t ≡ false) × (feed_from e (quoting s b) bs ≡ n)
        go true k = absurd (omega arith)
        go false k = (refl, omega arith)

    not_fed : length (b ∷ bs) ≤ feed_from e s (b ∷ bs) → (ends_row e s b ≡ false) × (length bs ≤ feed_from e (quoting s b) bs)
    unfolding feed_from
    not_fed h = go (ends_row e s b) h
      where
        go : (t : Bool) → suc (length bs) ≤ (whether t then 0 else suc (feed_from e (quoting s b) bs)) → (t ≡ false) × (length bs ≤ feed_from e (quoting s b) bs)
        go true k = absurd (omega arith)
        go false k = (refl, omega arith)

  -- no line feed ends the row: it is all that is left
  no_end_next : (s : State) (bs : Bytes) → length bs ≤ feed_from e s bs → end_next e s bs ≡ false
  no_end_next s [] h = refl
  no_end_next s (b ∷ bs) h = (not_fed s b bs h).0

  room_last : (s : State) (bs : Bytes) → length bs ≤ feed_from e s bs → line_room e s bs ≡ feed_from e s bs
  unfolding feed_from line_room
  room_last s [] h = refl
  room_last s (b ∷ bs) h =
      let n : (ends_row e s b ≡ false) × (length bs ≤ feed_from e (quoting s b) bs) = not_fed s b bs h in
      rw n.0 (ap suc (room_last (quoting s b) bs n.1))

  -- what stands behind a byte, by whether it is a return
  no_return_end : (s : State) (b : ℕ) (bs : Bytes) → end_next e (quoting s b) bs ≡ false → (eqb b 13 && end_next e s bs) ≡ false
  no_return_end s b bs h = go (eqb b 13) refl
    where
      go : (u : Bool) → eqb b 13 ≡ u → (u && end_next e s bs) ≡ false
      go true r = sym (return_next e s b bs r) ∙ h
      go false r = refl

  length_last : (s : State) (bs : Bytes) → length bs ≤ feed_from e s bs → line_length e s bs ≡ feed_from e s bs
  unfolding feed_from line_length
  length_last s [] h = refl
  length_last s (b ∷ bs) h =
      let n : (ends_row e s b ≡ false) × (length bs ≤ feed_from e (quoting s b) bs) = not_fed s b bs h in
      rw (n.0, no_return_end s b bs (no_end_next (quoting s b) bs n.1)) (ap suc (length_last (quoting s b) bs n.1))

  -- a line feed, and what stands just before it
  length_empty : (s : State) (bs : Bytes) → feed_from e s bs ≡ 0 → line_length e s bs ≡ 0
  unfolding line_length
  length_empty s [] h = refl
  length_empty s (b ∷ bs) h = rw (feed_first s b bs h)

  length_return : (s : State) (bs : Bytes) (n : ℕ) → feed_from e s bs ≡ suc n → suc n < length bs → get_or bs n 0 ≡ 13 → line_length e s bs ≡ n
  unfolding line_length
  length_return s [] n k h r = absurd (omega arith)
  length_return s (b ∷ []) n k h r = absurd (omega arith)
  length_return s (b ∷ (c ∷ cs)) zero k h r =
      let f : (ends_row e s b ≡ false) × (feed_from e (quoting s b) (c ∷ cs) ≡ 0) = feed_later s b (c ∷ cs) 0 k in
      let i : eqb b 13 ≡ true = eq-eqb b 13 r in
      let g : ends_row e s c ≡ true = sym (return_ends e s b c i) ∙ feed_first (quoting s b) c cs f.1 in
      rw (f.0, i, g)
  length_return s (b ∷ (c ∷ cs)) (suc n) k h r =
      let f : (ends_row e s b ≡ false) × (feed_from e (quoting s b) (c ∷ cs) ≡ suc n) = feed_later s b (c ∷ cs) (suc n) k in
      let g : (ends_row e (quoting s b) c ≡ false) × (feed_from e (quoting (quoting s b) c) cs ≡ n) = feed_later (quoting s b) c cs n f.1 in
      rw (f.0, no_return_end s b (c ∷ cs) g.0) (ap suc (length_return (quoting s b) (c ∷ cs) n f.1 (omega arith) r))

  length_kept : (s : State) (bs : Bytes) (n : ℕ) → feed_from e s bs ≡ suc n → (get_or bs n 0 ≡ 13 → ⊥) → line_length e s bs ≡ suc n
  unfolding line_length feed_from
  length_kept s [] n k r = absurd (omega arith)
  length_kept s (b ∷ bs) zero k r =
      let f : (ends_row e s b ≡ false) × (feed_from e (quoting s b) bs ≡ 0) = feed_later s b bs 0 k in
      rw (f.0, ne_eqb b 13 r) (ap suc (length_empty (quoting s b) bs f.1))
  length_kept s (b ∷ []) (suc n) k r = absurd (omega (arith, (feed_later s b [] (suc n) k).1))
  length_kept s (b ∷ (c ∷ cs)) (suc n) k r =
      let f : (ends_row e s b ≡ false) × (feed_from e (quoting s b) (c ∷ cs) ≡ suc n) = feed_later s b (c ∷ cs) (suc n) k in
      let g : (ends_row e (quoting s b) c ≡ false) × (feed_from e (quoting (quoting s b) c) cs ≡ n) = feed_later (quoting s b) c cs n f.1 in
      rw (f.0, no_return_end s b (c ∷ cs) g.0) (ap suc (length_kept (quoting s b) (c ∷ cs) n f.1 r))

  -- the same at a place of a text, of which the line feed is known
  module _ (s : Bytes) (at feed : ℕ) (is : feed ≡ at + feed_from e Fresh (drop at s)) where
    lined : (n m : ℕ) → n ≡ at + line_length e Fresh (drop at s) → m ≡ at + line_room e Fresh (drop at s) → ◌≡◌ {A = Line} (record { end = n; next = m }) (line_at e s at)
    lined n m p q = rw (p, q)

    pub line_last : length s ≤ feed → ◌≡◌ {A = Line} (record { end = feed; next = whether ltb feed (length s) then feed + 1 else feed }) (line_at e s at)
    line_last h =
        rw (le-ltb feed (length s) h)
        (lined feed feed (rw (length_last Fresh (drop at s) (rw length-drop (omega arith))) is) (rw (room_last Fresh (drop at s) (rw length-drop (omega arith))) is))

    pub line_fed : feed < length s → (n : ℕ) → n ≡ at + line_length e Fresh (drop at s) → ◌≡◌ {A = Line} (record { end = n; next = whether ltb feed (length s) then feed + 1 else feed }) (line_at e s at)
    line_fed h n p = rw (lt-ltb feed (length s) h) (lined n (feed + 1) p (rw (room_fed Fresh (drop at s) (rw length-drop (omega arith))) (omega arith)))

    pub end_empty : feed ≤ at → feed ≡ at + line_length e Fresh (drop at s)
    end_empty h = rw (length_empty Fresh (drop at s) (omega arith)) (omega arith)

    byte_before : at < feed → get_or (drop at s) (feed - 1 - at) 0 ≡ get_or s (feed - 1) 0
    byte_before h = let z : at + (feed - 1 - at) ≡ feed - 1 = omega arith in rw (get_or-drop, z)

    pub end_return : at < feed → feed < length s → get_or s (feed - 1) 0 ≡ 13 → feed - 1 ≡ at + line_length e Fresh (drop at s)
    end_return h l r =
        rw (length_return Fresh (drop at s) (feed - 1 - at) (omega arith) (rw length-drop (omega arith)) (byte_before h ∙ r)) (omega arith)

    pub end_kept : at < feed → (get_or s (feed - 1) 0 ≡ 13 → ⊥) → feed ≡ at + line_length e Fresh (drop at s)
    end_kept h r = rw (length_kept Fresh (drop at s) (feed - 1 - at) (omega arith) (λ k. r (sym (byte_before h) ∙ k))) (omega arith)

  -- a text's first line, and the lines behind it
  pub lines_first : (s : State) (b : ℕ) (bs : Bytes) → lines_from e s (b ∷ bs) ≡ take (line_length e s (b ∷ bs)) (b ∷ bs) ∷ lines_from e Fresh (drop (line_room e s (b ∷ bs)) (b ∷ bs))
  unfolding lines_from line_length line_room
  lines_first s b [] = go (ends_row e s b) (eqb b 13)
    where
      go : (t u : Bool) → (whether t then [] ∷ [] else whether u && false then [] else from (quoting s b) (λ q. (b ∷ []) ∷ []))
          ≡ take (whether t then 0 else whether u && false then 0 else 1) (b ∷ []) ∷ lines_from e Fresh (drop (whether t then 1 else 1) (b ∷ []))
      go true u = refl
      go false true = from_on (quoting s b) (λ q. (b ∷ []) ∷ [])
      go false false = from_on (quoting s b) (λ q. (b ∷ []) ∷ [])
  lines_first s b (c ∷ cs) = go (ends_row e s b) refl (eqb b 13) refl (ends_row e s c) refl (lines_first (quoting s b) c cs)
    where
      go : (t : Bool) → ends_row e s b ≡ t → (u : Bool) → eqb b 13 ≡ u → (v : Bool) → ends_row e s c ≡ v
          → lines_from e (quoting s b) (c ∷ cs) ≡ take (line_length e (quoting s b) (c ∷ cs)) (c ∷ cs) ∷ lines_from e Fresh (drop (line_room e (quoting s b) (c ∷ cs)) (c ∷ cs))
          → lines_from e s (b ∷ (c ∷ cs)) ≡ take (line_length e s (b ∷ (c ∷ cs))) (b ∷ (c ∷ cs)) ∷ lines_from e Fresh (drop (line_room e s (b ∷ (c ∷ cs))) (b ∷ (c ∷ cs)))
      go true p u q v r ih = rw p
      go false p true q true r ih = let k : ends_row e (quoting s b) c ≡ true = return_ends e s b c q ∙ r in rw (p, q, r, k)
      go false p true q false r ih = rw (p, q, r) (from_on (quoting s b) (λ t. onto b (lines_from e t (c ∷ cs))) ∙ onto_first b _ _ _ ih)
      go false p false q v r ih = rw (p, q) (from_on (quoting s b) (λ t. onto b (lines_from e t (c ∷ cs))) ∙ onto_first b _ _ _ ih)

  -- how much room a line takes
  pub length_room : (s : State) (bs : Bytes) → line_length e s bs ≤ line_room e s bs
  unfolding line_length line_room
  length_room s [] = omega arith
  length_room s (b ∷ bs) = go (ends_row e s b) (eqb b 13 && end_next e s bs) (length_room (quoting s b) bs)
    where
      go : (t u : Bool) → line_length e (quoting s b) bs ≤ line_room e (quoting s b) bs → (whether t then 0 else whether u then 0 else suc (line_length e (quoting s b) bs)) ≤ (whether t then 1 else suc (line_room e (quoting s b) bs))
      go true u h = omega arith
      go false true h = omega arith
      go false false h = omega arith

  pub room_le : (s : State) (bs : Bytes) → line_room e s bs ≤ length bs
  unfolding line_room
  room_le s [] = omega arith
  room_le s (b ∷ bs) = go (ends_row e s b) (room_le (quoting s b) bs)
    where
      go : (t : Bool) → line_room e (quoting s b) bs ≤ length bs → (whether t then 1 else suc (line_room e (quoting s b) bs)) ≤ suc (length bs)
      go true h = omega arith
      go false h = omega arith

  room_some : (b : ℕ) (bs : Bytes) → 0 < line_room e Fresh (b ∷ bs)
  unfolding line_room
  room_some b bs = go (ends_row e Fresh b)
    where
      go : (t : Bool) → 0 < (whether t then 1 else suc (line_room e (quoting Fresh b) bs))
      go true = omega arith
      go false = omega arith

-- any way to part a text ------------------------------------------------------------------------------------------------------------------

-- a line that begins at a place of a text: what it is, and that the others follow it
pub record LineFrom (parts : Bytes → List Bytes) (s : Bytes) (at : ℕ) (r : Line) : Type 0 where
  pub is : parts (drop at s) ≡ take (r.end - at) (drop at s) ∷ parts (drop r.next s)
  pub low : at ≤ r.end
  pub high : r.end ≤ length s
  pub on : at < r.next
  pub past : r.next ≤ length s
  pub kept : r.end ≤ r.next

-- what holds of any way to part a text that gives the first line, and then the lines behind its room: of a table's lines and a slip's
module _ (parts : Bytes → List Bytes) (size room : Bytes → ℕ) (none : parts [] ≡ []) (fits : (s : Bytes) → size s ≤ room s)
    (within : (s : Bytes) → room s ≤ length s) (some : (b : ℕ) (bs : Bytes) → 0 < room (b ∷ bs))
    (first : (b : ℕ) (bs : Bytes) → parts (b ∷ bs) ≡ take (size (b ∷ bs)) (b ∷ bs) ∷ parts (drop (room (b ∷ bs)) (b ∷ bs))) where
  head_of_lem : (s : Bytes) → head_line (parts s) ≡ take (size s) s
  head_of_lem [] = rw none (sym (take-nil (size [])))
  head_of_lem (b ∷ bs) = rw (first b bs)

  behind_head : (s : Bytes) → row_lines (parts s) ≡ parts (drop (room s) s)
  behind_head [] = rw (none, drop-nil (room []), none)
  behind_head (b ∷ bs) = rw (first b bs)

  none_from : (s : Bytes) (at : ℕ) → length s ≤ at → parts (drop at s) ≡ []
  none_from s at h = rw (drop_of_length-le s h) none

  some_of : (t : Bytes) → 0 < length t → (parts t ≡ take (size t) t ∷ parts (drop (room t) t)) × (0 < room t)
  some_of [] h = absurd (omega arith)
  some_of (b ∷ bs) h = (first b bs, some b bs)

  line_at_lem : (s : Bytes) (at : ℕ) (r : Line) → at < length s → r.end ≡ at + size (drop at s) → r.next ≡ at + room (drop at s) → LineFrom parts s at r
  line_at_lem s at r h p q =
      let t = drop at s in
      let long : length t ≡ length s - at = length-drop at s in
      let has : (parts t ≡ take (size t) t ∷ parts (drop (room t) t)) × (0 < room t) = some_of t (omega arith) in
      let le : room t ≤ length t = within t in
      let fit : size t ≤ room t = fits t in
      let e : size t ≡ r.end - at = omega arith in
      let n : at + room t ≡ r.next = sym q in
      record {
        is = has.0 ∙ rw (e, drop-drop, n);
        low = omega arith;
        high = omega arith;
        on = omega arith;
        past = omega arith;
        kept = omega arith;
      }

lines_nil : (e : Edition) → lines e [] ≡ []
unfolding lines_from
lines_nil e = refl

slip_lines_nil : slip_lines [] ≡ []
unfolding slip_lines
slip_lines_nil = refl

-- a table's text
module _ (e : Edition) where
  pub line_from : (s : Bytes) (at : ℕ) (r : Line) → at < length s → r ≡ line_at e s at → LineFrom (lines e) s at r
  line_from s at r h k =
      line_at_lem (lines e) (line_length e Fresh) (line_room e Fresh) (lines_nil e) (length_room e Fresh) (room_le e Fresh) (room_some e) (lines_first e Fresh) s at r h (rw k) (rw k)

  pub lines_none : (s : Bytes) (at : ℕ) → length s ≤ at → lines e (drop at s) ≡ []
  lines_none = none_from (lines e) (line_length e Fresh) (line_room e Fresh) (lines_nil e) (length_room e Fresh) (room_le e Fresh) (room_some e) (lines_first e Fresh)

  pub head_line_lem : (s : Bytes) → head_line (lines e s) ≡ take (line_length e Fresh s) s
  head_line_lem = head_of_lem (lines e) (line_length e Fresh) (line_room e Fresh) (lines_nil e) (length_room e Fresh) (room_le e Fresh) (room_some e) (lines_first e Fresh)

  pub row_lines_lem : (s : Bytes) → row_lines (lines e s) ≡ lines e (drop (line_room e Fresh s) s)
  row_lines_lem = behind_head (lines e) (line_length e Fresh) (line_room e Fresh) (lines_nil e) (length_room e Fresh) (room_le e Fresh) (room_some e) (lines_first e Fresh)

  pub head_within : (s : Bytes) (r : Line) → r ≡ line_at e s 0 → r.end ≤ length s
  head_within s r k =
      let z : r.end ≡ 0 + line_length e Fresh s = ap (λ (x : Line). x.end) k in
      omega (arith, length_room e Fresh s, room_le e Fresh s)

  pub head_past : (s : Bytes) (r : Line) → r ≡ line_at e s 0 → r.next ≤ length s
  head_past s r k =
      let z : r.next ≡ 0 + line_room e Fresh s = ap (λ (x : Line). x.next) k in
      omega (arith, room_le e Fresh s)

  pub head_row : (s : Bytes) (r : Line) → r ≡ line_at e s 0 → take (r.end - 0) (drop 0 s) ≡ head_line (lines e s)
  head_row s r k =
      let z : r.end - 0 ≡ line_length e Fresh s = ap (λ (x : Line). x.end - 0) k ∙ (omega arith) in
      rw z (sym (head_line_lem s))

-- a slip
pub slip_line_from : (s : Bytes) (at : ℕ) (r : Line) → at < length s → r ≡ slip_line_at s at → LineFrom slip_lines s at r
slip_line_from s at r h e = line_at_lem slip_lines slip_length slip_room slip_lines_nil slip_fits slip_room_le slip_room_some slip_lines_first s at r h (rw e) (rw e)

pub slip_lines_none : (s : Bytes) (at : ℕ) → length s ≤ at → slip_lines (drop at s) ≡ []
slip_lines_none = none_from slip_lines slip_length slip_room slip_lines_nil slip_fits slip_room_le slip_room_some slip_lines_first

-- a slip's line at a place, of which the line feed is known
module _ (s : Bytes) (at feed : ℕ) (is : feed ≡ at + slip_length (drop at s)) where
  slip_lined : (n : ℕ) → n ≡ at + slip_room (drop at s) → ◌≡◌ {A = Line} (record { end = feed; next = n }) (slip_line_at s at)
  slip_lined n q = rw (is, q)

  pub slip_line_lem : ◌≡◌ {A = Line} (record { end = feed; next = whether ltb feed (length s) then feed + 1 else feed }) (slip_line_at s at)
  slip_line_lem = go (ltb feed (length s)) refl
    where
      go : (t : Bool) → ltb feed (length s) ≡ t → ◌≡◌ {A = Line} (record { end = feed; next = whether t then feed + 1 else feed }) (slip_line_at s at)
      go true h = let l = ltb-true feed (length s) h in slip_lined (feed + 1) (rw (slip_room_fed (drop at s) (rw length-drop (omega arith))) (omega arith))
      go false h = let l = ltb-false feed (length s) h in slip_lined feed (rw (slip_room_last (drop at s) (rw length-drop (omega arith))) is)
