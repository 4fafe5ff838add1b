-- Where a cell ends, step by step, and that the line is cut there. Assumes nothing.
use mathlib.Core.Bool.{Bool, true, false, ◌||◌, ◌&&◌}
use mathlib.Core.Path.{◌≡◌, refl, sym, ◌∙◌, ap, subst}
use mathlib.Core.List.{[], ◌∷◌, List}
use Prim.Native.Nat.{ℕ, ◌≤◌, ◌<◌, ◌+◌, ◌-◌, suc}
use native.Mathlib.Omega.{arith}
use lib.Dec.{eqb, ltb}
use lib.ListN.{drop, length, get_or, drop_of_length-le, take, length-drop, set}
use lib.Seq.{drop-drop, length-take-le}
use borrow.Author.Tests.{ne_eqb}
use Rattle.words.specs.Words.{whether◌then◌else◌, Bytes}
use Rattle.words.proofs.Lists.{drop_step}
use Rattle.cells.specs.declared.Kind.{Kind}
use Rattle.cells.specs.declared.Kind.TheVariants.{Semicolon, Control, Other, Quote, End}
use Rattle.editions.specs.declared.Edition.{Edition}
use Rattle.editions.specs.declared.Edition.TheVariants.{Dino21, Dino23}
use Rattle.cells.specs.Cells.{kind, next, kind_in, breaks_stand, is_break, quoted, Cut, cells, cut, faulty, after, grown, reached, cut_from}
use Rattle.cells.specs.Ends.{stays, ended, end_from, stop_at, break_next}
use Rattle.cells.specs.declared.State.TheVariants.{Plain, Inside, Closed, Fresh, Over, Fault}
use Rattle.cells.specs.declared.State.{State}
use Rattle.std.specs.Prelude.{Option, Some, None}
use Rattle.cells.proofs.Cutting.{before, grown_by, grown_by_after}
use Rattle.cells.proofs.Marking.{Sofar, bytes_more, cell_more}

-- bytes that leave a state as it is ---------------------------------------------------------------------------------------

-- the kind of a byte that is no quote: by whether it is a semicolon, and a control byte
abbrev bare : Bool → Bool → Kind
bare m c = whether m then Semicolon else whether c then Control else Other

module _ (b : ℕ) where
  kind_bare : (b ≡ 34 → ⊥) → kind b ≡ bare (eqb b 59) (ltb b 32 || eqb b 127)
  kind_bare n = rw (ne_eqb b 34 n)

-- where a cell ends, step by step -----------------------------------------------------------------------------------------

-- what a byte makes of a cell, by its kind
plain_kind : (k : Kind) (i : ℕ) (on : State → Option ℕ) → stays Plain k ≡ true → ended (next Plain k) i on ≡ on Plain
plain_kind Quote i on e = cc
plain_kind Semicolon i on e = cc
plain_kind Control i on e = cc
plain_kind Other i on e = refl
plain_kind End i on e = cc

plain_stops : (k : Kind) (i : ℕ) (on : State → Option ℕ) → stays Plain k ≡ false → ended (next Plain k) i on ≡ ended (next Closed k) i (λ t. None)
plain_stops Quote i on e = refl
plain_stops Semicolon i on e = refl
plain_stops Control i on e = refl
plain_stops Other i on e = cc
plain_stops End i on e = refl

inside_kind : (k : Kind) (i : ℕ) (on : State → Option ℕ) → stays Inside k ≡ true → ended (next Inside k) i on ≡ on Inside
inside_kind Quote i on e = cc
inside_kind Semicolon i on e = refl
inside_kind Control i on e = cc
inside_kind Other i on e = refl
inside_kind End i on e = cc

inside_stops : (m c : Bool) (i : ℕ) (on : State → Option ℕ) → stays Inside (bare m c) ≡ false → ended (next Inside (bare m c)) i on ≡ None
inside_stops true c i on e = cc
inside_stops false true i on e = refl
inside_stops false false i on e = cc

closed_bare : (m c : Bool) (i : ℕ) (on : State → Option ℕ) → ended (next Closed (bare m c)) i on ≡ ended (next Closed (bare m c)) i (λ t. None)
closed_bare true c i on = refl
closed_bare false true i on = refl
closed_bare false false i on = refl

fresh_bare : (m c : Bool) (i : ℕ) (on : State → Option ℕ) → ended (next Fresh (bare m c)) i on ≡ ended (next Plain (bare m c)) i on
fresh_bare true c i on = refl
fresh_bare false true i on = refl
fresh_bare false false i on = refl

-- a semicolon or the end of the line must follow a closed cell
module _ (line : Bytes) (i : ℕ) where
  stop_byte : i < length line → stop_at i (drop i line) ≡ ended (next Closed (kind (get_or line i 0))) i (λ t. None)
  stop_byte h = rw (drop_step 0 line i h)

-- by any edition
module _ (ed : Edition) where
  -- a quote opens a cell, and opens a closed one again; any other byte leaves it plain, or closed
  module _ (i : ℕ) where
    fresh_quoted : (bs : Bytes) → quoted bs ≡ true → end_from ed Fresh i bs ≡ end_from ed Inside (i + 1) (drop 1 bs)
    unfolding end_from
    fresh_quoted [] q = cc
    fresh_quoted (b ∷ bs) q = rw q

    pub fresh_plain : (bs : Bytes) → quoted bs ≡ false → end_from ed Fresh i bs ≡ end_from ed Plain i bs
    unfolding end_from
    fresh_plain [] q = refl
    fresh_plain (b ∷ bs) q = rw q (fresh_bare (eqb b 59) (ltb b 32 || eqb b 127) i (λ t. end_from ed t (i + 1) bs))

    closed_quoted : (bs : Bytes) → quoted bs ≡ true → end_from ed Closed i bs ≡ end_from ed Inside (i + 1) (drop 1 bs)
    unfolding end_from
    closed_quoted [] q = cc
    closed_quoted (b ∷ bs) q = rw q

    closed_stops : (bs : Bytes) → quoted bs ≡ false → end_from ed Closed i bs ≡ stop_at i bs
    unfolding end_from
    closed_stops [] q = refl
    closed_stops (b ∷ bs) q = rw q (closed_bare (eqb b 59) (ltb b 32 || eqb b 127) i (λ t. end_from ed t (i + 1) bs))

  module _ (line : Bytes) (i : ℕ) where
    end_byte : (s : State) → i < length line → end_from ed s i (drop i line) ≡ ended (next s (kind_in ed s (get_or line i 0) (drop (i + 1) line))) i (λ t. end_from ed t (i + 1) (drop (i + 1) line))
    unfolding end_from
    end_byte s h = rw (drop_step 0 line i h)

    end_none : (s : State) → length line ≤ i → end_from ed s i (drop i line) ≡ ended (next s End) i (λ t. None)
    unfolding end_from
    end_none s h = rw (drop_of_length-le line h)

    pub plain_last : length line ≤ i → end_from ed Plain i (drop i line) ≡ Some i
    plain_last h = end_none Plain h

    pub inside_last : length line ≤ i → end_from ed Inside i (drop i line) ≡ None
    inside_last h = end_none Inside h

    pub plain_on : i < length line → stays Plain (kind (get_or line i 0)) ≡ true → end_from ed Plain i (drop i line) ≡ end_from ed Plain (i + 1) (drop (i + 1) line)
    plain_on h e = end_byte Plain h ∙ plain_kind (kind (get_or line i 0)) i (λ t. end_from ed t (i + 1) (drop (i + 1) line)) e

    pub plain_stop : i < length line → stays Plain (kind (get_or line i 0)) ≡ false → end_from ed Plain i (drop i line) ≡ stop_at i (drop i line)
    plain_stop h e = end_byte Plain h ∙ plain_stops (kind (get_or line i 0)) i (λ t. end_from ed t (i + 1) (drop (i + 1) line)) e ∙ sym (stop_byte line i h)

    -- a byte inside quotes, by whether a break stands there
    pub break_byte : i < length line → break_next ed (drop i line) ≡ (breaks_stand ed && is_break (get_or line i 0) (drop (i + 1) line))
    break_byte h = rw (drop_step 0 line i h)

    pub inside_on : i < length line → stays Inside (kind (get_or line i 0)) ≡ true → end_from ed Inside i (drop i line) ≡ end_from ed Inside (i + 1) (drop (i + 1) line)
    inside_on h q = end_byte Inside h ∙ go (breaks_stand ed && is_break (get_or line i 0) (drop (i + 1) line))
      where
        go : (u : Bool) → ended (next Inside (whether u then Other else kind (get_or line i 0))) i (λ t. end_from ed t (i + 1) (drop (i + 1) line)) ≡ end_from ed Inside (i + 1) (drop (i + 1) line)
        go true = refl
        go false = inside_kind (kind (get_or line i 0)) i (λ t. end_from ed t (i + 1) (drop (i + 1) line)) q

    pub inside_break : i < length line → break_next ed (drop i line) ≡ true → end_from ed Inside i (drop i line) ≡ end_from ed Inside (i + 1) (drop (i + 1) line)
    inside_break h q = let p : (breaks_stand ed && is_break (get_or line i 0) (drop (i + 1) line)) ≡ true = sym (break_byte h) ∙ q in end_byte Inside h ∙ rw p

    pub inside_control : i < length line → stays Inside (kind (get_or line i 0)) ≡ false → break_next ed (drop i line) ≡ false → (get_or line i 0 ≡ 34 → ⊥) → end_from ed Inside i (drop i line) ≡ None
    inside_control h q k n =
        let p : (breaks_stand ed && is_break (get_or line i 0) (drop (i + 1) line)) ≡ false = sym (break_byte h) ∙ k in
        end_byte Inside h
        ∙ rw (p, kind_bare (get_or line i 0) n) (inside_stops (eqb (get_or line i 0) 59) (ltb (get_or line i 0) 32 || eqb (get_or line i 0) 127) i (λ t. end_from ed t (i + 1) (drop (i + 1) line)) (rw (kind_bare (get_or line i 0) n) at q))

    inside_quote : i < length line → get_or line i 0 ≡ 34 → end_from ed Inside i (drop i line) ≡ end_from ed Closed (i + 1) (drop (i + 1) line)
    inside_quote h e = end_byte Inside h ∙ rw e (go ed)
      where
        go : (d : Edition) → ended (next Inside (whether breaks_stand d && false then Other else Quote)) i (λ t. end_from ed t (i + 1) (drop (i + 1) line)) ≡ end_from ed Closed (i + 1) (drop (i + 1) line)
        go Dino21 = refl
        go Dino23 = refl

    pub inside_doubled : i < length line → get_or line i 0 ≡ 34 → quoted (drop (i + 1) line) ≡ true → end_from ed Inside i (drop i line) ≡ end_from ed Inside (i + 2) (drop (i + 2) line)
    inside_doubled h e q =
        let two : i + 1 + 1 ≡ i + 2 = omega arith in
        inside_quote h e ∙ closed_quoted (i + 1) (drop (i + 1) line) q ∙ rw (drop-drop 1 (i + 1) line, two)

    pub inside_closed : i < length line → get_or line i 0 ≡ 34 → quoted (drop (i + 1) line) ≡ false → end_from ed Inside i (drop i line) ≡ stop_at (i + 1) (drop (i + 1) line)
    inside_closed h e q = inside_quote h e ∙ closed_stops (i + 1) (drop (i + 1) line) q

    pub fresh_inside : quoted (drop i line) ≡ true → end_from ed Fresh i (drop i line) ≡ end_from ed Inside (i + 1) (drop (i + 1) line)
    fresh_inside q = fresh_quoted i (drop i line) q ∙ rw (drop-drop 1 i line)

  -- the line is cut there ---------------------------------------------------------------------------------------------------

  -- what the rest of a line is cut into where a cell has ended
  abbrev pub following : Bytes → Cut
  following [] = cells []
  following (b ∷ bs) = cut ed bs

  after_before : (u : Cut) → after u ≡ before [] u
  after_before (faulty n) = refl
  after_before (cells cs) = refl

  grown_before : (b : ℕ) (c : Bytes) (u : Cut) → grown b (before c u) ≡ before (b ∷ c) u
  grown_before b c (faulty n) = refl
  grown_before b c (cells cs) = refl

  faulty_from : (s : State) (i : ℕ) (bs : Bytes) → end_from ed s i bs ≡ None → cut_from ed s bs ≡ faulty 1
  unfolding end_from cut_from
  faulty_from s i [] = go (next s End)
    where
      go : (t : State) → ended t i (λ t. None) ≡ None → reached t (cells ([] ∷ [])) (λ t. faulty 1) ≡ faulty 1
      go Over e = cc
      go Fault e = refl
      go Fresh e = refl
      go Plain e = refl
      go Inside e = refl
      go Closed e = refl
  faulty_from s i (b ∷ bs) = go (next s (kind_in ed s b bs)) (λ t e. ap (grown b) (faulty_from t (i + 1) bs e))
    where
      go : (t : State) → ((t : State) → end_from ed t (i + 1) bs ≡ None → grown b (cut_from ed t bs) ≡ faulty 1)
          → ended t i (λ t. end_from ed t (i + 1) bs) ≡ None → reached t (after (cut_from ed Fresh bs)) (λ t. grown b (cut_from ed t bs)) ≡ faulty 1
      go Over on e = cc
      go Fault on e = refl
      go Fresh on e = on Fresh e
      go Plain on e = on Plain e
      go Inside on e = on Inside e
      go Closed on e = on Closed e

  -- a cell read up to i ends at e: what the rest is cut into
  record Ends (i e : ℕ) (bs : Bytes) (u : Cut) : Type 0 where
    begun : i ≤ e
    within : e ≤ i + length bs
    parted_there : u ≡ before (take (e - i) bs) (following (drop (e - i) bs))

  ends_here : (i e : ℕ) (bs : Bytes) (u : Cut) → Some i ≡ Some e → u ≡ before [] (following bs) → Ends i e bs u
  ends_here i e bs u q p =
      let h : i ≡ e = cc in
      let z : e - e ≡ 0 = omega arith in
      record {
        begun = omega arith;
        within = omega arith;
        parted_there = rw (h, z) p;
      }

  ends_later : (i e b : ℕ) (bs : Bytes) (u : Cut) → Ends (i + 1) e bs u → Ends i e (b ∷ bs) (grown b u)
  ends_later i e b bs u s =
      let z : e - i ≡ suc (e - (i + 1)) = omega (arith, s.begun) in
      record {
        begun = omega (arith, s.begun);
        within = omega (arith, s.within);
        parted_there = rw z (ap (grown b) s.parted_there ∙ grown_before b (take (e - (i + 1)) bs) (following (drop (e - (i + 1)) bs)));
      }

  nowhere : (e : ℕ) → None ≡ Some e → ⊥
  nowhere e q = let z : ◌≡◌ {A = ℕ} 0 1 = cc in omega arith

  ends_from : (s : State) (i e : ℕ) (bs : Bytes) → end_from ed s i bs ≡ Some e → Ends i e bs (cut_from ed s bs)
  unfolding end_from cut_from
  ends_from s i e [] = go (next s End)
    where
      go : (t : State) → ended t i (λ t. None) ≡ Some e → Ends i e [] (reached t (cells ([] ∷ [])) (λ t. faulty 1))
      go Over q = ends_here i e [] (cells ([] ∷ [])) q refl
      go Fault q = absurd (nowhere e q)
      go Fresh q = absurd (nowhere e q)
      go Plain q = absurd (nowhere e q)
      go Inside q = absurd (nowhere e q)
      go Closed q = absurd (nowhere e q)
  ends_from s i e (b ∷ bs) = go (next s (kind_in ed s b bs)) (λ t q. ends_later i e b bs (cut_from ed t bs) (ends_from t (i + 1) e bs q))
    where
      go : (t : State) → ((t : State) → end_from ed t (i + 1) bs ≡ Some e → Ends i e (b ∷ bs) (grown b (cut_from ed t bs)))
          → ended t i (λ t. end_from ed t (i + 1) bs) ≡ Some e → Ends i e (b ∷ bs) (reached t (after (cut_from ed Fresh bs)) (λ t. grown b (cut_from ed t bs)))
      go Over on q = ends_here i e (b ∷ bs) (after (cut_from ed Fresh bs)) q (after_before (cut_from ed Fresh bs))
      go Fault on q = absurd (nowhere e q)
      go Fresh on q = on Fresh q
      go Plain on q = on Plain q
      go Inside on q = on Inside q
      go Closed on q = on Closed q

  module _ (line : Bytes) (from : ℕ) where
    pub faulty_cell_lem : end_from ed Fresh from (drop from line) ≡ None → cut ed (drop from line) ≡ faulty 1
    faulty_cell_lem q = faulty_from Fresh from (drop from line) q

    module _ (e : ℕ) (h : from ≤ length line) (q : end_from ed Fresh from (drop from line) ≡ Some e) where
      pub ends_behind : from ≤ e
      ends_behind = (ends_from Fresh from e (drop from line) q).begun

      pub ends_within : e ≤ length line
      ends_within = let w : length (drop from line) ≡ length line - from = length-drop from line in omega (arith, h, (ends_from Fresh from e (drop from line) q).within)

      -- what is found with the whole cell
      cell_found : (room : ℕ) (whole : Cut) (bounds : List ℕ) (n : ℕ) → Sofar room whole bounds n from (cut ed (drop from line)) → Sofar room whole bounds n e (after (following (drop e line)))
      cell_found room whole bounds n s =
          let cell = take (e - from) (drop from line) in
          let l : length cell ≡ e - from = length-take-le (e - from) (drop from line) (rw length-drop (omega (arith, h, ends_behind, ends_within))) in
          let a : from + (e - from) ≡ e = omega (arith, ends_behind) in
          let d : drop (e - from) (drop from line) ≡ drop e line = drop-drop (e - from) from line ∙ ap (λ (k : ℕ). drop k line) a in
          let p : cut ed (drop from line) ≡ grown_by cell (after (following (drop e line))) = (ends_from Fresh from e (drop from line) q).parted_there ∙ rw d (sym (grown_by_after cell (following (drop e line)))) in
          let r : from + length cell ≡ e = rw l a in
          subst (λ (k : ℕ). Sofar room whole bounds n k (after (following (drop e line)))) r (bytes_more room whole bounds n from (after (following (drop e line))) cell (subst (Sofar room whole bounds n from) p s))

  module _ (line : Bytes) (e : ℕ) where
    pub following_last : length line ≤ e → following (drop e line) ≡ cells []
    following_last h = rw (drop_of_length-le line h)

    pub following_next : e < length line → following (drop e line) ≡ cut ed (drop (e + 1) line)
    following_next h = rw (drop_step 0 line e h)

  -- one cell more, whose end is noted with the byte that parts it from the next
  pub cell_ended : (line : Bytes) (from e : ℕ) → from ≤ length line → end_from ed Fresh from (drop from line) ≡ Some e → (room : ℕ) (bounds bounds' : List ℕ) (n : ℕ)
      → Sofar room (cut ed line) bounds n from (cut ed (drop from line)) → bounds' ≡ set bounds (n + 1) (e + 1) → (rest : Cut) → following (drop e line) ≡ rest
      → Sofar room (cut ed line) bounds' (n + 1) (e + 1) rest
  cell_ended line from e h q room bounds bounds' n s g rest f =
      cell_more room (cut ed line) bounds n e rest bounds' (subst (Sofar room (cut ed line) bounds n e) (ap after f) (cell_found line from e h q room (cut ed line) bounds n s)) g
