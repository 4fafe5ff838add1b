-- The way down the rows to the one that is asked for, step by step. Assumes nothing.
use mathlib.Core.Path.{◌≡◌, refl, sym, ap, ◌∙◌}
use mathlib.Core.Bool.{Bool, true, false}
use mathlib.Core.List.{List, [], ◌∷◌}
use Prim.Native.Nat.{ℕ, zero, suc, ◌+◌, ◌-◌, ◌≤◌, ◌<◌}
use native.Mathlib.Omega.{arith}
use lib.Dec.{eqb, ltb}
use lib.ListN.{length, take, drop, length-take}
use borrow.Author.Tests.{eq-eqb, ne_eqb, lt-ltb, le-ltb, ltb-true, ltb-false, eqb-true}
use Rattle.words.specs.Words.{Bytes, whether◌then◌else◌}
use Rattle.words.proofs.Lists.{part_length}
use Rattle.refusals.specs.Verdicts.{placed, nowhere, not_there, ◌before◌, Verdict}
use Rattle.refusals.specs.declared.Place.{Place}
use Rattle.std.specs.Prelude.{Ok, Err}
use Rattle.lines.specs.Lines.{lines, head_line, feeds, breaks, line_after, starts_on, row_on, line_start}
use Rattle.lines.specs.Ends.{line_at, line_length, line_room}
use Rattle.lines.specs.declared.Line.{Line}
use Rattle.lines.proofs.Lining.{LineFrom, line_from, lines_none, head_line_lem, row_lines_lem}
use Rattle.lines.proofs.Starting.{line_after_lem, start_next, start_first, start_le, starts_past}
use Rattle.cells.specs.declared.State.TheVariants.{Fresh}
use Rattle.editions.specs.declared.Edition.{Edition}
use Rattle.editions.specs.declared.Edition.TheVariants.{Dino21, Dino23}
use Rattle.cell_question.specs.CellQuestion.{first_above, first_line, line_asked}
use Rattle.cell_question.specs.Asking.{fault_above, above_from, WayOf}
use Rattle.cell_question.specs.declared.Way.{Way}

-- the numbers of lines ----------------------------------------------------------------------------------------------------------------

feeds_le : (row : Bytes) → feeds row ≤ length row
unfolding feeds
feeds_le [] = omega arith
feeds_le (b ∷ bs) = go (eqb b 10) (feeds_le bs)
  where
    go : (t : Bool) → feeds bs ≤ length bs → (whether t then suc (feeds bs) else feeds bs) ≤ suc (length bs)
    go true h = omega arith
    go false h = omega arith

breaks_le : (e : Edition) (row : Bytes) → breaks e row ≤ length row
breaks_le Dino21 row = omega arith
breaks_le Dino23 row = feeds_le row

-- no line has a number far above the place where it begins
pub after_most : (e : Edition) (i : ℕ) (row : Bytes) → line_after e i row ≤ i + length row + 1
after_most e i row = omega (arith, line_after_lem e i row, breaks_le e row)

pub after_more : (e : Edition) (i : ℕ) (row : Bytes) → i < line_after e i row
after_more e i row = omega (arith, line_after_lem e i row)

pub first_most : (e : Edition) (s : Bytes) → first_line e s ≤ length s + 2
first_most e s =
    let h : length (head_line (lines e s)) ≤ length s = rw (head_line_lem e s) (simp length-take (omega arith)) in
    omega (arith, after_most e 1 (head_line (lines e s)))

-- a fault above -----------------------------------------------------------------------------------------------------------------------

above_none : (e : Edition) (table line i : ℕ) → above_from e table line i [] ≡ Ok tt
unfolding first_above
above_none Dino21 table line i = refl
above_none Dino23 table line i = refl

-- no row is above a line that is passed
first_past : (table line i : ℕ) (ls : List Bytes) → line ≤ i → first_above Dino23 table line i ls ≡ Ok tt
unfolding first_above
first_past table line i [] h = refl
first_past table line i (l ∷ ls) h = rw (le-ltb i line h) (first_past table line (line_after Dino23 i l) ls (omega (arith, after_more Dino23 i l)))

above_past : (e : Edition) (table line i : ℕ) (ls : List Bytes) → line ≤ i → above_from e table line i ls ≡ Ok tt
above_past Dino21 table line i ls h = refl
above_past Dino23 table line i ls h = first_past table line i ls h

above_step : (e : Edition) (table line i : ℕ) (l : Bytes) (ls : List Bytes) → i < line
    → above_from e table line i (l ∷ ls) ≡ (placed table i (fault_above e l) before above_from e table line (line_after e i l) ls)
unfolding first_above
above_step Dino21 table line i l ls h = refl
above_step Dino23 table line i l ls h = rw (lt-ltb i line h)

-- the walk ------------------------------------------------------------------------------------------------------------------------------

-- how far the rows are passed: the next one starts on line i and begins at a place
pub record Walking (e : Edition) (table line first : ℕ) (s : Bytes) (from i at : ℕ) : Type 0 where
  pub low : 1 ≤ i
  pub small : i ≤ 65538 + at + at
  pub within : at ≤ length s
  pub start : at ≡ line_start i s
  pub starts : starts_on e line first (lines e (drop from s)) ≡ starts_on e line i (lines e (drop at s))
  pub row : row_on e line first (lines e (drop from s)) ≡ row_on e line i (lines e (drop at s))
  pub over : above_from e table line first (lines e (drop from s)) ≡ above_from e table line i (lines e (drop at s))

module _ (e : Edition) (table line first : ℕ) (s : Bytes) (from : ℕ) where
  pub walk_begun : 1 ≤ first → first ≤ 65538 → from ≤ length s → from ≡ line_start first s → Walking e table line first s from first from
  walk_begun l m h k = record { low = l; small = omega arith; within = h; start = k; starts = refl; row = refl; over = refl }

  -- no row starts on the line
  missing : (w : Way) → w.verdict ≡ nowhere not_there → above_from e table line first (lines e (drop from s)) ≡ Ok tt → starts_on e line first (lines e (drop from s)) ≡ false
      → WayOf e table line first s from w
  missing w v a b =
      record {
        is = v ∙ sym (rw (a, b));
        inside = λ p. let z : ◌≡◌ {A = ℕ} 0 1 = cc in absurd (omega arith);
        start = λ p. let z : ◌≡◌ {A = ℕ} 0 1 = cc in absurd (omega arith);
        row = λ p. let z : ◌≡◌ {A = ℕ} 0 1 = cc in absurd (omega arith);
      }

  module _ (i at : ℕ) (k : Walking e table line first s from i at) where
    -- the text's end is reached
    pub walk_ended : length s ≤ at → (w : Way) → w.verdict ≡ nowhere not_there → WayOf e table line first s from w
    unfolding starts_on
    walk_ended h w v =
        missing w v (k.over ∙ rw (lines_none e s at h) (above_none e table line i)) (k.starts ∙ rw (lines_none e s at h))

    -- the line is passed
    pub walk_past : line < i → (w : Way) → w.verdict ≡ nowhere not_there → WayOf e table line first s from w
    walk_past h w v =
        missing w v (k.over ∙ above_past e table line i (lines e (drop at s)) (omega arith)) (k.starts ∙ starts_past e line i (lines e (drop at s)) h)

    module _ (r : Line) (h : at < length s) (q : r ≡ line_at e s at) where
      taken : LineFrom (lines e) s at r
      taken = line_from e s at r h q

      abbrev here : Bytes
      here = take (r.end - at) (drop at s)

      sized : here ≡ take (line_length e Fresh (drop at s)) (drop at s)
      sized = let z : r.end - at ≡ line_length e Fresh (drop at s) = ap (λ (x : Line). x.end - at) q ∙ omega arith in rw z

      module _ (l : i < line) (v : Verdict) (is : v ≡ placed table i (fault_above e here)) where
        over_here : above_from e table line first (lines e (drop from s)) ≡ (v before above_from e table line (line_after e i here) (lines e (drop r.next s)))
        over_here =
            k.over ∙ ap (λ (ls : List Bytes). above_from e table line i ls) taken.is ∙ above_step e table line i here (lines e (drop r.next s)) l
            ∙ ap (λ (x : Verdict). x before above_from e table line (line_after e i here) (lines e (drop r.next s))) (sym is)

        -- the row has a fault
        pub walk_refused : (p : Place) → v ≡ Err p → (begin : ℕ) → WayOf e table line first s from (record { verdict = Err p; begin = begin })
        walk_refused p f begin =
            let o : above_from e table line first (lines e (drop from s)) ≡ Err p = over_here ∙ rw f in
            record {
              is = sym (rw o);
              inside = λ a. let z : ◌≡◌ {A = ℕ} 0 1 = cc in absurd (omega arith);
              start = λ a. let z : ◌≡◌ {A = ℕ} 0 1 = cc in absurd (omega arith);
              row = λ a. let z : ◌≡◌ {A = ℕ} 0 1 = cc in absurd (omega arith);
            }

        -- it has none
        pub walk_on : v ≡ Ok tt → (n : ℕ) → n ≡ line_after e i here → Walking e table line first s from n r.next
        unfolding starts_on row_on
        walk_on f n j =
            let x : r.next ≡ at + line_room e Fresh (drop at s) = ap (λ (y : Line). y.next) q in
            let long : length here ≡ r.end - at = part_length s at r.end taken.high in
            record {
              low = omega (arith, j, after_more e i here);
              small = omega (arith, j, after_most e i here, long, taken.low, taken.on, taken.kept, k.small);
              within = taken.past;
              start = x ∙ start_next e i s at k.low k.start ∙ ap (λ (y : Bytes). line_start (line_after e i y) s) (sym sized) ∙ ap (λ (y : ℕ). line_start y s) (sym j);
              starts = k.starts ∙ rw (taken.is, ne_eqb i line (λ z. omega arith), j);
              row = k.row ∙ rw (taken.is, ne_eqb i line (λ z. omega arith), j);
              over = over_here ∙ rw (f, j);
            }

      -- the line is reached
      pub walk_found : i ≡ line → WayOf e table line first s from (record { verdict = Ok tt; begin = at })
      unfolding starts_on row_on
      walk_found j =
          let b : starts_on e line first (lines e (drop from s)) ≡ true = k.starts ∙ rw (taken.is, eq-eqb i line j) in
          let a : above_from e table line first (lines e (drop from s)) ≡ (Ok tt) = k.over ∙ above_past e table line i (lines e (drop at s)) (omega arith) in
          let o : row_on e line first (lines e (drop from s)) ≡ here = k.row ∙ rw (taken.is, eq-eqb i line j) in
          record {
            is = sym (rw (a, b));
            inside = λ p. h;
            start = λ p. k.start ∙ rw j;
            row = λ p. (lines e (drop r.next s), taken.is ∙ ap (λ (y : Bytes). y ∷ lines e (drop r.next s)) (sym o));
          }

-- the row that is asked for ---------------------------------------------------------------------------------------------------------------

-- it is the one that begins where the way ends
pub row_here : (e : Edition) (table line first : ℕ) (s : Bytes) (from : ℕ) (w : Way) → WayOf e table line first s from w → w.verdict ≡ Ok tt → (r : Line) → r ≡ line_at e s w.begin
    → take (r.end - w.begin) (drop w.begin s) ≡ row_on e line first (lines e (drop from s))
row_here e table line first s from w k a r q =
    let t = line_from e s w.begin r (k.inside a) q in
    let m = k.row a in
    let z : take (r.end - w.begin) (drop w.begin s) ∷ lines e (drop r.next s) ≡ row_on e line first (lines e (drop from s)) ∷ m.0 = sym t.is ∙ m.1 in
    cc

-- it lies within the text
module _ (e : Edition) (line : ℕ) (s : Bytes) where
  inside_none : (i at : ℕ) → length s ≤ at → line_start line s + length (row_on e line i (lines e (drop at s))) ≤ length s
  unfolding row_on
  inside_none i at h = rw (lines_none e s at h) (omega (arith, start_le line s))

  -- the first of these rows, or one behind it
  module _ (i at : ℕ) (h : at < length s) (l : 1 ≤ i) (k : at ≡ line_start i s) where
    found : LineFrom (lines e) s at (line_at e s at)
    found = line_from e s at (line_at e s at) h refl

    abbrev found_row : Bytes
    found_row = take ((line_at e s at).end - at) (drop at s)

    found_sized : found_row ≡ take (line_length e Fresh (drop at s)) (drop at s)
    found_sized = let z : (line_at e s at).end - at ≡ line_length e Fresh (drop at s) = omega arith in rw z

    found_next : (line_at e s at).next ≡ line_start (line_after e i found_row) s
    found_next = start_next e i s at l k ∙ ap (λ (y : Bytes). line_start (line_after e i y) s) (sym found_sized)

    inside_some : ((j next : ℕ) → at < next → 1 ≤ j → next ≡ line_start j s → line_start line s + length (row_on e line j (lines e (drop next s))) ≤ length s)
        → line_start line s + length (row_on e line i (lines e (drop at s))) ≤ length s
    unfolding row_on
    inside_some on = rw found.is (go (eqb i line) refl)
      where
        go : (b : Bool) → eqb i line ≡ b → line_start line s + length (whether b then found_row else row_on e line (line_after e i found_row) (lines e (drop (line_at e s at).next s))) ≤ length s
        go true q =
            let j : i ≡ line = eqb-true i line q in
            omega (arith, part_length s at (line_at e s at).end found.high, found.low, found.high, k, ap (λ (n : ℕ). line_start n s) j)
        go false q = on (line_after e i found_row) (line_at e s at).next found.on (omega (arith, after_more e i found_row)) found_next

  inside_from : (n i at : ℕ) → length s - at ≤ n → 1 ≤ i → at ≡ line_start i s → line_start line s + length (row_on e line i (lines e (drop at s))) ≤ length s
  inside_from zero i at m l k = inside_none i at (omega arith)
  inside_from (suc n) i at m l k = go (ltb at (length s)) refl (λ j next p. inside_from n j next (omega arith))
    where
      go : (b : Bool) → ltb at (length s) ≡ b → ((j next : ℕ) → at < next → 1 ≤ j → next ≡ line_start j s → line_start line s + length (row_on e line j (lines e (drop next s))) ≤ length s)
          → line_start line s + length (row_on e line i (lines e (drop at s))) ≤ length s
      go true q on = inside_some i at (ltb-true at (length s) q) l k on
      go false q on = inside_none i at (ltb-false at (length s) q)

  pub row_inside : line_start line s + length (line_asked e line s) ≤ length s
  row_inside =
      let z : line_room e Fresh s ≡ 0 + line_room e Fresh s = omega arith in
      let first : line_room e Fresh s ≡ line_start (first_line e s) s = z ∙ start_next e 1 s 0 (omega arith) (start_first s) ∙ ap (λ (y : Bytes). line_start (line_after e 1 y) s) (sym (head_line_lem e s)) in
      rw (row_lines_lem e s) (inside_from (length s) (first_line e s) (line_room e Fresh s) (omega arith) (omega (arith, after_more e 1 (head_line (lines e s)))) first)
