-- The lines on which rows start, and where these lines begin. Assumes nothing.
use mathlib.Core.Path.{◌≡◌, refl, sym, ap, ◌∙◌, subst}
use mathlib.Core.List.{List, [], ◌∷◌}
use mathlib.Core.Bool.{Bool, true, false, ◌&&◌, not}
use Prim.Native.Nat.{ℕ, zero, suc, ◌+◌, ◌≤◌, ◌<◌, ◌-◌}
use native.Mathlib.Omega.{arith}
use lib.Dec.{eqb, ltb}
use lib.ListN.{length, take, drop, length-drop}
use lib.Seq.{length-take-le}
use borrow.Author.Tests.{eqb-true, ne_eqb, eq-eqb, ltb-true, ltb-false}
use Rattle.words.specs.Words.{Bytes, whether◌then◌else◌}
use Rattle.editions.specs.declared.Edition.{Edition}
use Rattle.editions.specs.declared.Edition.TheVariants.{Dino21, Dino23}
use Rattle.cells.specs.Cells.{inside, breakable}
use Rattle.cells.specs.declared.State.{State}
use Rattle.cells.specs.declared.State.TheVariants.{Fresh}
use Rattle.lines.specs.Lines.{line_start, lines, head_line, feeds, breaks, line_after, starts_on, row_on, quoting, ends_row, end_next}
use Rattle.lines.specs.Ends.{line_at, line_length, line_room, RowBegin}
use Rattle.lines.specs.declared.Line.{Line}
use Rattle.lines.proofs.Lining.{LineFrom, line_from, lines_none, return_ends, length_room, room_le, head_line_lem}

-- where a line begins -----------------------------------------------------------------------------------------------------------------

pub start_first : (s : Bytes) → 0 ≡ line_start 1 s
unfolding line_start
start_first s = refl

start_none : (i : ℕ) → line_start i [] ≡ 0
unfolding line_start
start_none zero = refl
start_none (suc zero) = refl
start_none (suc (suc i)) = refl

-- lines are counted from any line on
start_split : (i n : ℕ) (s : Bytes) → line_start (suc (i + n)) s ≡ line_start (suc i) s + line_start (suc n) (drop (line_start (suc i) s) s)
unfolding line_start
start_split zero n s = let e : zero + n ≡ n = omega arith in rw e (omega arith)
start_split (suc i) n [] = let e : suc i + n ≡ suc (i + n) = omega arith in rw e (omega (arith, start_none (suc n)))
start_split (suc i) n (b ∷ bs) =
    let e : suc i + n ≡ suc (i + n) = omega arith in
    rw e (go (eqb b 10) (start_split i n bs) (rw e at (start_split (suc i) n bs)))
  where
    go : (t : Bool) → line_start (suc (i + n)) bs ≡ line_start (suc i) bs + line_start (suc n) (drop (line_start (suc i) bs) bs)
        → line_start (suc (suc (i + n))) bs ≡ line_start (suc (suc i)) bs + line_start (suc n) (drop (line_start (suc (suc i)) bs) bs)
        → suc (whether t then line_start (suc (i + n)) bs else line_start (suc (suc (i + n))) bs)
        ≡ suc (whether t then line_start (suc i) bs else line_start (suc (suc i)) bs) + line_start (suc n) (drop (suc (whether t then line_start (suc i) bs else line_start (suc (suc i)) bs)) (b ∷ bs))
    go true h k = ap suc h ∙ omega arith
    go false h k = ap suc k ∙ omega arith

-- a byte before a line, by whether it is a line feed
module _ (b : ℕ) (bs : Bytes) where
  start_fed : (n : ℕ) → eqb b 10 ≡ true → line_start (suc (suc n)) (b ∷ bs) ≡ suc (line_start (suc n) bs)
  unfolding line_start
  start_fed n h = rw h

  start_unfed : (n : ℕ) → eqb b 10 ≡ false → line_start (suc (suc n)) (b ∷ bs) ≡ suc (line_start (suc (suc n)) bs)
  unfolding line_start
  start_unfed n h = rw h

  feeds_fed : eqb b 10 ≡ true → feeds (b ∷ bs) ≡ suc (feeds bs)
  unfolding feeds
  feeds_fed h = rw h

  feeds_unfed : eqb b 10 ≡ false → feeds (b ∷ bs) ≡ feeds bs
  unfolding feeds
  feeds_unfed h = rw h

pub start_le : (i : ℕ) (s : Bytes) → line_start i s ≤ length s
unfolding line_start
start_le zero s = omega arith
start_le (suc zero) s = omega arith
start_le (suc (suc i)) [] = omega arith
start_le (suc (suc i)) (b ∷ bs) = go (eqb b 10) (start_le (suc i) bs) (start_le (suc (suc i)) bs)
  where
    go : (t : Bool) → line_start (suc i) bs ≤ length bs → line_start (suc (suc i)) bs ≤ length bs
        → suc (whether t then line_start (suc i) bs else line_start (suc (suc i)) bs) ≤ suc (length bs)
    go true h k = omega arith
    go false h k = omega arith

-- the line feeds of a row ----------------------------------------------------------------------------------------------------------------

feed_ends : (e : Edition) (q : State) (b : ℕ) → ends_row e q b ≡ true → eqb b 10 ≡ true
feed_ends e q b h = go (eqb b 10) (not (breakable e q)) h
  where
    go : (t u : Bool) → (t && u) ≡ true → t ≡ true
    go true u k = refl
    go false u k = k

-- a return is no line feed, and the row's end comes behind it
return_no_feed : (b : ℕ) → eqb b 13 ≡ true → eqb b 10 ≡ false
return_no_feed b r = let k : b ≡ 13 = eqb-true b 13 r in rw k

module _ (e : Edition) where
  -- a return that is dropped: the line behind it is empty
  return_empty : (q : State) (b : ℕ) (bs : Bytes) → (eqb b 13 && end_next e q bs) ≡ true → (eqb b 13 ≡ true) × (line_length e (quoting q b) bs ≡ 0)
  unfolding line_length
  return_empty q b [] h = go (eqb b 13) refl h
    where
      go : (t : Bool) → eqb b 13 ≡ t → (t && false) ≡ true → (eqb b 13 ≡ true) × (◌≡◌ {A = ℕ} 0 0)
      go true r k = (r, refl)
      go false r k = (r ∙ k, refl)
  return_empty q b (c ∷ cs) h = go (eqb b 13) refl (ends_row e q c) refl h
    where
      go : (t : Bool) → eqb b 13 ≡ t → (u : Bool) → ends_row e q c ≡ u → (t && u) ≡ true → (eqb b 13 ≡ true) × (line_length e (quoting q b) (c ∷ cs) ≡ 0)
      go true r true p k = (r, rw (return_ends e q b c r ∙ p))
      go true r false p k = let z : ◌≡◌ {A = ℕ} 0 1 = cc in absurd (omega arith)
      go false r u p k = let z : ◌≡◌ {A = ℕ} 0 1 = cc in absurd (omega arith)

  -- the first line of a text has room up to where the line begins that comes behind its line feeds
  room_feeds : (q : State) (t : Bytes) → line_start (suc (suc (feeds (take (line_length e q t) t)))) t ≡ line_room e q t
  unfolding line_start line_length line_room feeds
  room_feeds q [] = refl
  room_feeds q (b ∷ bs) = go (ends_row e q b) refl (eqb b 13 && end_next e q bs) refl (eqb b 10) refl (room_feeds (quoting q b) bs)
    where
      go : (t : Bool) → ends_row e q b ≡ t → (u : Bool) → (eqb b 13 && end_next e q bs) ≡ u → (v : Bool) → eqb b 10 ≡ v
          → line_start (suc (suc (feeds (take (line_length e (quoting q b) bs) bs)))) bs ≡ line_room e (quoting q b) bs
          → line_start (suc (suc (feeds (take (whether t then 0 else whether u then 0 else suc (line_length e (quoting q b) bs)) (b ∷ bs))))) (b ∷ bs)
          ≡ (whether t then 1 else suc (line_room e (quoting q b) bs))
      go true p u k v w ih = start_fed b bs 0 (feed_ends e q b p)
      go false p true k v w ih =
          let r : (eqb b 13 ≡ true) × (line_length e (quoting q b) bs ≡ 0) = return_empty q b bs k in
          start_unfed b bs 0 (return_no_feed b r.0) ∙ ap suc (rw r.1 at ih)
      go false p false k true w ih =
          let row = take (line_length e (quoting q b) bs) bs in
          ap (λ (n : ℕ). line_start (suc (suc n)) (b ∷ bs)) (feeds_fed b row w) ∙ start_fed b bs (suc (feeds row)) w ∙ ap suc ih
      go false p false k false w ih =
          let row = take (line_length e (quoting q b) bs) bs in
          ap (λ (n : ℕ). line_start (suc (suc n)) (b ∷ bs)) (feeds_unfed b row w) ∙ start_unfed b bs (feeds row) w ∙ ap suc ih

-- by 2.1 no line feed stands in a row
none_inside : (q : State) (t : Bytes) → feeds (take (line_length Dino21 q t) t) ≡ 0
unfolding line_length feeds
none_inside q [] = refl
none_inside q (b ∷ bs) = go (eqb b 10) refl (inside q) (eqb b 13 && end_next Dino21 q bs) (none_inside (quoting q b) bs)
  where
    go : (t : Bool) → eqb b 10 ≡ t → (v u : Bool) → feeds (take (line_length Dino21 (quoting q b) bs) bs) ≡ 0
        → feeds (take (whether t && not (v && false) then 0 else whether u then 0 else suc (line_length Dino21 (quoting q b) bs)) (b ∷ bs)) ≡ 0
    go true p true u ih = refl
    go true p false u ih = refl
    go false p v true ih = refl
    go false p v false ih = rw p ih

breaks_feeds : (e : Edition) (t : Bytes) → breaks e (take (line_length e Fresh t) t) ≡ feeds (take (line_length e Fresh t) t)
breaks_feeds Dino21 t = sym (none_inside Fresh t)
breaks_feeds Dino23 t = refl

-- a row has fewer breaks than bytes of its room
pub feeds_most : (xs : Bytes) → feeds xs ≤ length xs
unfolding feeds
feeds_most [] = omega arith
feeds_most (b ∷ bs) = go (eqb b 10) (feeds_most bs)
  where
    go : (t : Bool) → feeds bs ≤ length bs → (whether t then suc (feeds bs) else feeds bs) ≤ suc (length bs)
    go true h = omega arith
    go false h = omega arith

module _ (e : Edition) where
  taken_most : (q : State) (t : Bytes) → feeds (take (line_length e q t) t) ≤ line_room e q t
  taken_most q t =
      let n : length (take (line_length e q t) t) ≡ line_length e q t = length-take-le (line_length e q t) t (omega (arith, length_room e q t, room_le e q t)) in
      omega (arith, feeds_most (take (line_length e q t) t), length_room e q t)

  breaks_under : (b : ℕ) (bs : Bytes) → feeds (take (line_length e Fresh (b ∷ bs)) (b ∷ bs)) < line_room e Fresh (b ∷ bs)
  unfolding line_length line_room
  breaks_under b bs = go (eqb b 10) refl (eqb b 13 && end_next e Fresh bs) (taken_most (quoting Fresh b) bs)
    where
      go : (t : Bool) → eqb b 10 ≡ t → (u : Bool) → feeds (take (line_length e (quoting Fresh b) bs) bs) ≤ line_room e (quoting Fresh b) bs
          → feeds (take (whether t && true then 0 else whether u then 0 else suc (line_length e (quoting Fresh b) bs)) (b ∷ bs)) < (whether t && true then 1 else suc (line_room e (quoting Fresh b) bs))
      go true p u h = omega (arith, feeds_most [])
      go false p true h = omega (arith, feeds_most [])
      go false p false h = omega (arith, feeds_unfed b (take (line_length e (quoting Fresh b) bs) bs) p)

  breaks_some : (t : Bytes) → 0 < length t → breaks e (take (line_length e Fresh t) t) < line_room e Fresh t
  breaks_some [] h = absurd (omega arith)
  breaks_some (b ∷ bs) h = omega (arith, breaks_under b bs, breaks_feeds e (b ∷ bs))

  -- so the lines do not grow faster than the bytes
  pub breaks_few : (s : Bytes) (at : ℕ) (r : Line) → at < length s → r ≡ line_at e s at → breaks e (take (r.end - at) (drop at s)) + at < r.next
  breaks_few s at r h k =
      let z : r.end - at ≡ line_length e Fresh (drop at s) = ap (λ (x : Line). x.end - at) k ∙ omega arith in
      let n : r.next ≡ at + line_room e Fresh (drop at s) = ap (λ (x : Line). x.next) k in
      let b : breaks e (take (line_length e Fresh (drop at s)) (drop at s)) < line_room e Fresh (drop at s) = breaks_some (drop at s) (rw length-drop (omega arith)) in
      rw z (omega arith)

pub breaks_most : (e : Edition) (xs : Bytes) → breaks e xs ≤ length xs
breaks_most Dino21 xs = omega arith
breaks_most Dino23 xs = feeds_most xs

pub head_few : (e : Edition) (s : Bytes) → breaks e (head_line (lines e s)) ≤ length s
head_few e s =
    let n : length (take (line_length e Fresh s) s) ≡ line_length e Fresh s = length-take-le (line_length e Fresh s) s (omega (arith, length_room e Fresh s, room_le e Fresh s)) in
    rw (head_line_lem e s) (omega (arith, breaks_most e (take (line_length e Fresh s) s), length_room e Fresh s, room_le e Fresh s))

-- the row that starts on a line --------------------------------------------------------------------------------------------------------------

pub line_after_lem : (e : Edition) (i : ℕ) (row : Bytes) → line_after e i row ≡ i + breaks e row + 1
unfolding line_after
line_after_lem e i row = omega arith

-- the next row begins where its line does
pub start_next : (e : Edition) (i : ℕ) (s : Bytes) (at : ℕ) → 1 ≤ i → at ≡ line_start i s
    → at + line_room e Fresh (drop at s) ≡ line_start (line_after e i (take (line_length e Fresh (drop at s)) (drop at s))) s
start_next e zero s at h k = absurd (omega arith)
start_next e (suc i) s at h k =
    let row = take (line_length e Fresh (drop at s)) (drop at s) in
    let f : line_after e (suc i) row ≡ suc (i + suc (feeds row)) = line_after_lem e (suc i) row ∙ omega (arith, breaks_feeds e (drop at s)) in
    let g : line_start (suc (i + suc (feeds row))) s ≡ line_start (suc i) s + line_start (suc (suc (feeds row))) (drop (line_start (suc i) s) s) = start_split i (suc (feeds row)) s in
    let m : line_start (suc (suc (feeds row))) (drop at s) ≡ line_room e Fresh (drop at s) = room_feeds e Fresh (drop at s) in
    sym (ap (λ (n : ℕ). line_start n s) f ∙ g ∙ subst (λ (n : ℕ). n + line_start (suc (suc (feeds row))) (drop n s) ≡ at + line_room e Fresh (drop at s)) k (ap (λ (n : ℕ). at + n) m))

-- no row starts on a line that is passed
pub starts_past : (e : Edition) (line i : ℕ) (ls : List Bytes) → line < i → starts_on e line i ls ≡ false
unfolding starts_on
starts_past e line i [] h = refl
starts_past e line i (l ∷ ls) h = rw (ne_eqb i line (λ k. omega arith)) (starts_past e line (line_after e i l) ls (omega (arith, line_after_lem e i l)))

-- how far the rows of a text are passed: the next one starts on line i and begins at a place
pub record Walked (e : Edition) (line : ℕ) (s : Bytes) (i at : ℕ) : Type 0 where
  pub low : 1 ≤ i
  pub most : i ≤ line
  pub within : at ≤ length s
  pub start : at ≡ line_start i s
  pub starts : starts_on e line 1 (lines e s) ≡ starts_on e line i (lines e (drop at s))
  pub row : row_on e line 1 (lines e s) ≡ row_on e line i (lines e (drop at s))

module _ (e : Edition) (line : ℕ) (s : Bytes) where
  pub walk_begun : 1 ≤ line → Walked e line s 1 0
  walk_begun h = record { low = omega arith; most = h; within = omega arith; start = start_first s; starts = refl; row = refl }

  module _ (i at : ℕ) (w : Walked e line s i at) where
    -- the text's end is reached
    pub walk_ended : length s ≤ at → RowBegin e line s at
    unfolding starts_on
    walk_ended h =
        let z : starts_on e line 1 (lines e s) ≡ false = w.starts ∙ rw (lines_none e s at h) in
        record {
          none = λ n. omega (arith, w.within);
          inside = λ t. absurd (let k : ◌≡◌ {A = ℕ} 0 1 = cc in omega arith);
          start = λ t. w.start ∙ absurd (let k : ◌≡◌ {A = ℕ} 0 1 = cc in omega arith);
          first = λ t. absurd (let k : ◌≡◌ {A = ℕ} 0 1 = cc in omega arith);
        }

    module _ (r : Line) (h : at < length s) (k : r ≡ line_at e s at) where
      taken : LineFrom (lines e) s at r
      taken = line_from e s at r h k

      abbrev here : Bytes
      here = take (r.end - at) (drop at s)

      sized : here ≡ take (line_length e Fresh (drop at s)) (drop at s)
      sized = let z : r.end - at ≡ line_length e Fresh (drop at s) = ap (λ (x : Line). x.end - at) k ∙ omega arith in rw z

      -- the row is not the one that is asked for
      module _ (l : i < line) where
        starts_behind : starts_on e line 1 (lines e s) ≡ starts_on e line (line_after e i here) (lines e (drop r.next s))
        unfolding starts_on
        starts_behind = w.starts ∙ rw (taken.is, ne_eqb i line (λ q. omega arith))

        row_behind : row_on e line 1 (lines e s) ≡ row_on e line (line_after e i here) (lines e (drop r.next s))
        unfolding row_on
        row_behind = w.row ∙ rw (taken.is, ne_eqb i line (λ q. omega arith))

        pub walk_on : (n : ℕ) → n ≡ breaks e here → n < line - i → Walked e line s (i + (n + 1)) r.next
        walk_on n p m =
            let j : i + (n + 1) ≡ line_after e i here = sym (line_after_lem e i here ∙ omega arith) in
            let x : r.next ≡ at + line_room e Fresh (drop at s) = ap (λ (y : Line). y.next) k in
            record {
              low = omega arith;
              most = omega arith;
              within = taken.past;
              start = x ∙ start_next e i s at w.low w.start ∙ ap (λ (y : Bytes). line_start (line_after e i y) s) (sym sized) ∙ ap (λ (y : ℕ). line_start y s) (sym j);
              starts = starts_behind ∙ ap (λ (y : ℕ). starts_on e line y (lines e (drop r.next s))) (sym j);
              row = row_behind ∙ ap (λ (y : ℕ). row_on e line y (lines e (drop r.next s))) (sym j);
            }

        pub walk_past : (n : ℕ) → n ≡ breaks e here → line - i ≤ n → RowBegin e line s (length s)
        walk_past n p m =
            let z : starts_on e line 1 (lines e s) ≡ false = starts_behind ∙ starts_past e line (line_after e i here) (lines e (drop r.next s)) (omega (arith, line_after_lem e i here)) in
            record {
              none = λ q. refl;
              inside = λ t. absurd (let c : ◌≡◌ {A = ℕ} 0 1 = cc in omega arith);
              start = λ t. absurd (let c : ◌≡◌ {A = ℕ} 0 1 = cc in omega arith);
              first = λ t. absurd (let c : ◌≡◌ {A = ℕ} 0 1 = cc in omega arith);
            }

  -- the line is reached
  pub walk_found : (at : ℕ) → Walked e line s line at → RowBegin e line s at
  unfolding starts_on row_on
  walk_found at w = go (ltb at (length s)) refl
    where
      found : (l : Bytes) (ls : List Bytes) → lines e (drop at s) ≡ l ∷ ls → (starts_on e line 1 (lines e s) ≡ true) × (lines e (drop at s) ≡ row_on e line 1 (lines e s) ∷ ls)
      found l ls p = (w.starts ∙ rw (p, eq-eqb line line refl), p ∙ ap (λ (y : Bytes). y ∷ ls) (sym (w.row ∙ rw (p, eq-eqb line line refl))))

      go : (t : Bool) → ltb at (length s) ≡ t → RowBegin e line s at
      go true q =
          let h : at < length s = ltb-true at (length s) q in
          let l = line_from e s at (line_at e s at) h refl in
          let f = found _ _ l.is in
          record {
            none = λ n. absurd (let c : ◌≡◌ {A = ℕ} 0 1 = cc f.0 in omega arith);
            inside = λ t. h;
            start = λ t. w.start;
            first = λ t. (_, f.1);
          }
      go false q = walk_ended line at w (ltb-false at (length s) q)
