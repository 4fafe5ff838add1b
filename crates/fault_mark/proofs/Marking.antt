-- The cells of a line that may have a fault, the cell that names a column, and the line of a place, step by step. Assumes nothing.
use mathlib.Core.Path.{◌≡◌, ap, sym, ◌∙◌, refl}
use mathlib.Core.List.{◌∷◌, []}
use mathlib.Core.Bool.{Bool, true, false}
use Prim.Native.Nat.{ℕ, zero, suc, ◌+◌, ◌-◌, ◌≤◌, ◌<◌}
use native.Mathlib.Omega.{arith}
use lib.ListN.{length, drop, get_or, drop_of_length-le, length-drop, take}
use borrow.Author.Tests.{eq-eqb, ne_eqb, lt-ltb, le-ltb}
use Rattle.words.specs.Words.{Bytes, whether◌then◌else◌}
use Rattle.words.proofs.Lists.{drop_step, part_length}
use Rattle.refusals.specs.declared.Place.{Place}
use Rattle.lines.specs.Lines.{lines, head_line, starts_on, row_on, line_start}
use Rattle.lines.specs.Ends.{line_at, RowBegin}
use Rattle.lines.specs.declared.Line.{Line}
use Rattle.lines.proofs.Lining.{line_from}
use Rattle.lines.proofs.Starting.{starts_past}
use Rattle.cells.specs.Cells.{kind, faulty, cut, cells_of}
use Rattle.cells.specs.declared.Kind.{Kind}
use Rattle.cells.specs.declared.State.{State}
use Rattle.cells.specs.declared.State.TheVariants.{Fresh}
use Rattle.editions.specs.declared.Edition.{Edition}
use Rattle.tables.specs.declared.Table.{Table}
use Rattle.header.specs.Header.{Header, place_from, header}
use Rattle.header.proofs.Names.{header_length}
use Rattle.fault_mark.specs.Marks.{past, over, resumed, size_from, begin_from, marked_on, columns_named, second_place, cell_named, marked_of}
use Rattle.fault_mark.specs.declared.Mark.TheVariants.{Nothing}

-- cells --------------------------------------------------------------------------------------------------------------------

module _ (line : Bytes) (i : ℕ) (s : State) (h : i < length line) where
  -- what the byte at i makes of a cell, as it is found by the byte's kind
  module _ (k : Kind) (t : State) (o : Bool) (d : k ≡ kind (get_or line i 0)) (e : t ≡ past s k) (f : o ≡ over t) where
    came : t ≡ past s (kind (get_or line i 0))
    came = e ∙ ap (λ (x : Kind). past s x) d

    over_came : over (past s (kind (get_or line i 0))) ≡ o
    over_came = sym (f ∙ ap (λ (x : State). over x) came)

    size_byte : size_from s (drop i line) ≡ (whether over (past s (kind (get_or line i 0))) then 0 else suc (size_from (past s (kind (get_or line i 0))) (drop (i + 1) line)))
    unfolding size_from
    size_byte = rw (drop_step 0 line i h)

    size_by : size_from s (drop i line) ≡ (whether o then 0 else suc (size_from t (drop (i + 1) line)))
    size_by =
        size_byte
        ∙ ap (λ (x : Bool). whether x then 0 else suc (size_from (past s (kind (get_or line i 0))) (drop (i + 1) line))) over_came
        ∙ ap (λ (x : State). whether o then 0 else suc (size_from x (drop (i + 1) line))) (sym came)

    pub size_over : o ≡ true → size_from s (drop i line) ≡ 0
    size_over g = size_by ∙ rw g

    pub size_on : o ≡ false → size_from s (drop i line) ≡ suc (size_from t (drop (i + 1) line))
    size_on g = size_by ∙ rw g

    module _ (n : ℕ) (l : 1 ≤ n) where
      begin_some : (m b : ℕ) (bs : Bytes) → 1 ≤ m → begin_from m s (b ∷ bs) ≡ suc (begin_from (whether over (past s (kind b)) then m - 1 else m) (resumed (past s (kind b))) bs)
      unfolding begin_from
      begin_some zero b bs g = absurd (omega arith)
      begin_some (suc m) b bs g = let z : suc m - 1 ≡ m = omega arith in rw z

      begin_byte : begin_from n s (drop i line) ≡ suc (begin_from (whether over (past s (kind (get_or line i 0))) then n - 1 else n) (resumed (past s (kind (get_or line i 0)))) (drop (i + 1) line))
      begin_byte = ap (λ (x : Bytes). begin_from n s x) (drop_step 0 line i h) ∙ begin_some n (get_or line i 0) (drop (i + 1) line) l

      pub begin_on : (m : ℕ) (u : State) → m ≡ (whether o then n - 1 else n) → u ≡ resumed t → begin_from n s (drop i line) ≡ suc (begin_from m u (drop (i + 1) line))
      begin_on m u p q =
          begin_byte
          ∙ ap (λ (x : Bool). suc (begin_from (whether x then n - 1 else n) (resumed (past s (kind (get_or line i 0)))) (drop (i + 1) line))) over_came
          ∙ ap (λ (x : ℕ). suc (begin_from x (resumed (past s (kind (get_or line i 0)))) (drop (i + 1) line))) (sym p)
          ∙ ap (λ (x : State). suc (begin_from m x (drop (i + 1) line))) (sym (q ∙ ap (λ (x : State). resumed x) came))

pub size_end : (line : Bytes) (i : ℕ) (s : State) → length line ≤ i → size_from s (drop i line) ≡ 0
unfolding size_from
size_end line i s h = rw (drop_of_length-le line h)

begin_none : (s : State) (bs : Bytes) → begin_from 0 s bs ≡ 0
unfolding begin_from
begin_none s [] = refl
begin_none s (b ∷ bs) = refl

pub begin_here : (line : Bytes) (i n : ℕ) (s : State) → n ≡ 0 → begin_from n s (drop i line) ≡ 0
begin_here line i n s e = ap (λ (x : ℕ). begin_from x s (drop i line)) e ∙ begin_none s (drop i line)

pub begin_end : (line : Bytes) (i n : ℕ) (s : State) → length line ≤ i → begin_from n s (drop i line) ≡ 0
unfolding begin_from
begin_end line i n s h = rw (drop_of_length-le line h)

-- no cell begins or ends behind its line
begin_within : (n : ℕ) (s : State) (bs : Bytes) → begin_from n s bs ≤ length bs
unfolding begin_from
begin_within n s [] = omega arith
begin_within zero s (b ∷ bs) = omega arith
begin_within (suc n) s (b ∷ bs) = omega (arith, begin_within (whether over (past s (kind b)) then n else suc n) (resumed (past s (kind b))) bs)

size_within : (s : State) (bs : Bytes) → size_from s bs ≤ length bs
unfolding size_from
size_within s [] = omega arith
size_within s (b ∷ bs) = go (over (past s (kind b))) (size_within (past s (kind b)) bs)
  where
    go : (o : Bool) → size_from (past s (kind b)) bs ≤ length bs → (whether o then 0 else suc (size_from (past s (kind b)) bs)) ≤ suc (length bs)
    go true h = omega arith
    go false h = omega arith

pub cell_within : (line : Bytes) (n from to : ℕ) → from ≡ begin_from n Fresh line → to ≡ from + size_from Fresh (drop from line) → to ≤ length line
cell_within line n from to e f = omega (arith, f, e, begin_within n Fresh line, size_within Fresh (drop from line), length-drop from line)

-- the cell that names a column -----------------------------------------------------------------------------------------------

module _ (k i : ℕ) (h : Header) where
  pub place_here : i < length h → get_or h i 0 ≡ k → place_from i k (drop i h) ≡ i + 1
  unfolding place_from
  place_here l e = rw (drop_step 0 h i l, eq-eqb k (get_or h i 0) (sym e)) (omega arith)

  pub place_on : i < length h → (get_or h i 0 ≡ k → ⊥) → place_from i k (drop i h) ≡ place_from (i + 1) k (drop (i + 1) h)
  unfolding place_from
  place_on l n =
      let o : suc i ≡ i + 1 = omega arith in
      rw (drop_step 0 h i l, ne_eqb k (get_or h i 0) (λ e. n (sym e)), o)

  pub place_end : length h ≤ i → place_from i k (drop i h) ≡ 0
  unfolding place_from
  place_end l = rw (drop_of_length-le h l)

module _ (ed : Edition) (t : Table) (head : Bytes) where
  pub named_faulty : (n : ℕ) → cut ed head ≡ faulty n → columns_named ed t head ≡ []
  named_faulty n e = rw e

  pub named_wide : 32 < length (cells_of (cut ed head)) → columns_named ed t head ≡ []
  named_wide l = let h : 32 < length (header ed t (cells_of (cut ed head))) = omega (arith, header_length ed t (cells_of (cut ed head))) in rw (lt-ltb 32 (length (header ed t (cells_of (cut ed head)))) h)

  pub named_few : length (cells_of (cut ed head)) ≤ 32 → columns_named ed t head ≡ header ed t (cells_of (cut ed head))
  named_few l = let h : length (header ed t (cells_of (cut ed head))) ≤ 32 = omega (arith, header_length ed t (cells_of (cut ed head))) in rw (le-ltb 32 (length (header ed t (cells_of (cut ed head)))) h)

module _ (second : Bool) (k : ℕ) (named : Header) where
  pub none_found : named ≡ [] → 0 ≡ (whether second then second_place k named else place_from 0 k named)
  unfolding place_from
  none_found e = rw e (go second)
    where
      go : (b : Bool) → 0 ≡ (whether b then place_from (place_from 0 k []) k (drop (place_from 0 k []) []) else place_from 0 k [])
      go true = refl
      go false = refl

  module _ (h : Header) (e : named ≡ h) where
    pub second_found : second ≡ true → (first r : ℕ) → first ≡ place_from 0 k (drop 0 h) → r ≡ place_from first k (drop first h) → r ≡ (whether second then second_place k named else place_from 0 k named)
    second_found b first r f g = rw (b, e) (g ∙ ap (λ (x : ℕ). place_from x k (drop x h)) f)

    pub first_found : second ≡ false → (r : ℕ) → r ≡ place_from 0 k (drop 0 h) → r ≡ (whether second then second_place k named else place_from 0 k named)
    first_found b r g = rw (b, e) g

-- the line of a place --------------------------------------------------------------------------------------------------------

module _ (ed : Edition) (t : Table) (s : Bytes) (p : Place) where
  -- no row starts on it
  none_here : starts_on ed p.line 1 (lines ed s) ≡ false → Nothing ≡ marked_of ed t s p
  unfolding marked_of
  none_here e = rw e

  pub line_none : p.line ≡ 0 → Nothing ≡ marked_of ed t s p
  line_none e = none_here (starts_past ed p.line 1 (lines ed s) (omega arith))

  module _ (start : ℕ) (b : RowBegin ed p.line s start) where
    pub line_past : length s ≤ start → Nothing ≡ marked_of ed t s p
    line_past l = go (starts_on ed p.line 1 (lines ed s)) refl
      where
        go : (q : Bool) → starts_on ed p.line 1 (lines ed s) ≡ q → Nothing ≡ marked_of ed t s p
        go true e = absurd (omega (arith, b.inside e))
        go false e = none_here e

    module _ (h : start < length s) where
      one_here : starts_on ed p.line 1 (lines ed s) ≡ true
      one_here = go (starts_on ed p.line 1 (lines ed s)) refl
        where
          go : (q : Bool) → starts_on ed p.line 1 (lines ed s) ≡ q → q ≡ true
          go true e = refl
          go false e = absurd (omega (arith, b.none e))

      line_here_lem : marked_of ed t s p
          ≡ marked_on (row_on ed p.line 1 (lines ed s)) (line_start p.line s) (line_start p.line s + length (row_on ed p.line 1 (lines ed s))) (cell_named ed t (head_line (lines ed s)) p.number p.column)
      unfolding marked_of
      line_here_lem = rw one_here

      pub line_marked : (cell : ℕ) (r : Line) → r ≡ line_at ed s start → cell ≡ cell_named ed t (head_line (lines ed s)) p.number p.column
          → marked_on (take (r.end - start) (drop start s)) start r.end cell ≡ marked_of ed t s p
      line_marked cell r f g =
          let row : Bytes = row_on ed p.line 1 (lines ed s) in
          let l = line_from ed s start r h f in
          let m = b.first one_here in
          let z : take (r.end - start) (drop start s) ∷ lines ed (drop r.next s) ≡ row ∷ m.0 = sym l.is ∙ m.1 in
          let q : take (r.end - start) (drop start s) ≡ row = cc in
          let e : start ≡ line_start p.line s = b.start one_here in
          let n : r.end ≡ line_start p.line s + length row = omega (arith, part_length s start r.end l.high, ap length q, l.low, e) in
          ap (λ (x : Bytes). marked_on x start r.end cell) q
          ∙ ap (λ (x : ℕ). marked_on row x r.end cell) e
          ∙ ap (λ (x : ℕ). marked_on row (line_start p.line s) x cell) n
          ∙ ap (λ (x : ℕ). marked_on row (line_start p.line s) (line_start p.line s + length row) x) g
          ∙ sym line_here_lem
