-- The names of a header, walked from left to right: what comes again, where each column stands, and what is missing. Assumes nothing.
use mathlib.Core.Path.{◌≡◌, refl, ap, sym, ◌∙◌}
use mathlib.Core.Bool.{Bool, true, false, ◌||◌, ◌&&◌, not}
use mathlib.Core.List.{List, [], ◌∷◌, ◌++◌}
use Prim.Native.Nat.{ℕ, ◌+◌, ◌<◌, ◌≤◌, suc, zero, ◌-◌}
use native.Mathlib.Numerals.{add-one}
use native.Mathlib.Omega.{arith}
use lib.Dec.{eqb, ltb}
use lib.ListN.{length, take, drop, get_or, drop_of_length-le, set, replicate, length-map}
use lib.Seq.{take-suc, length-take-le, take_all}
use borrow.Author.Tests.{ne_eqb, eq-eqb, eqb-false, not-true, lt-ltb, le-ltb, ltb-true, ltb-false}
use Rattle.words.specs.Words.{whether◌then◌else◌, Bytes}
use Rattle.words.proofs.Lists.{drop_step, and_left}
use Rattle.refusals.specs.Verdicts.{column_missing, column_twice, too_many_cells, Check, fault}
use Rattle.std.specs.Prelude.{Ok, Err}
use Rattle.cells.specs.Cells.{content, stretch, cut, cells_of}
use Rattle.cells.specs.Numbered.{cell_numbered}
use Rattle.editions.specs.declared.Edition.{Edition}
use Rattle.tables.specs.Columns.{Column, no_column, column_number}
use Rattle.tables.specs.declared.Table.{Table}
use Rattle.tables.proofs.Figures.{columns_few}
use Rattle.tables.proofs.Names.{column_number_most}
use Rattle.header.specs.Header.{member, Header, repeated, place_from, missing_from, missing, header, line_check, most_cells, header_check}
use Rattle.header.specs.Heading.{places_from, most_columns, header_places, places, names_check, heading}
use Rattle.header.proofs.Quoting.{number_of_content}

-- a column among those to the left --------------------------------------------------------------------------------------------

in_turn_lem : (a b c : Bool) → (a || (b || c)) ≡ (b || (a || c))
in_turn_lem true true c = refl
in_turn_lem true false c = refl
in_turn_lem false true c = refl
in_turn_lem false false c = refl

member_last : (k x : ℕ) (xs : List ℕ) → member k (xs ++ (x ∷ [])) ≡ (eqb k x || member k xs)
unfolding member
member_last k x [] = refl
member_last k x (y ∷ ys) = rw (member_last k x ys) (in_turn_lem (eqb k y) (eqb k x) (member k ys))

repeated_seen : (seen other : List ℕ) (ks : Header) → ((k : ℕ) → member k seen ≡ member k other) → repeated seen ks ≡ repeated other ks
unfolding repeated member
repeated_seen seen other [] e = refl
repeated_seen seen other (k ∷ ks) e =
    rw (e k, repeated_seen (k ∷ seen) (k ∷ other) ks (λ j. ap (λ (b : Bool). eqb j k || b) (e j)))

module _ (h : Header) (i : ℕ) (l : i < length h) where
  repeated_here : (not (eqb (get_or h i 0) 0) && member (get_or h i 0) (take i h)) ≡ true → repeated (take i h) (drop i h) ≡ get_or h i 0
  unfolding repeated
  repeated_here e = rw (drop_step 0 h i l, e)

  repeated_next : (not (eqb (get_or h i 0) 0) && member (get_or h i 0) (take i h)) ≡ false → repeated (take i h) (drop i h) ≡ repeated (take (i + 1) h) (drop (i + 1) h)
  unfolding repeated member
  repeated_next e =
      rw (drop_step 0 h i l, e)
      (repeated_seen (get_or h i 0 ∷ take i h) (take (i + 1) h) (drop (i + 1) h) (λ k. rw (add-one, take-suc h i 0 l) (sym (member_last k (get_or h i 0) (take i h)))))

repeated_end : (h : Header) (i : ℕ) (seen : List ℕ) → length h ≤ i → repeated seen (drop i h) ≡ 0
unfolding repeated
repeated_end h i seen l = rw (drop_of_length-le h l)

-- where a column stands --------------------------------------------------------------------------------------------------------

place_member : (i k : ℕ) (xs : Header) → eqb (place_from i k xs) 0 ≡ not (member k xs)
unfolding place_from member
place_member i k [] = refl
place_member i k (x ∷ xs) = go (eqb k x) (place_member (suc i) k xs)
  where
    go : (b : Bool) → eqb (place_from (suc i) k xs) 0 ≡ not (member k xs) → eqb (whether b then suc i else place_from (suc i) k xs) 0 ≡ not (b || member k xs)
    go true ih = ne_eqb (suc i) 0 (λ z. omega arith)
    go false ih = ih

place_other : (i k x : ℕ) (xs : Header) → (k ≡ x → ⊥) → place_from i k (xs ++ (x ∷ [])) ≡ place_from i k xs
unfolding place_from
place_other i k x [] n = rw (ne_eqb k x n)
place_other i k x (y ∷ ys) n = rw (place_other (suc i) k x ys n)

place_new : (i k : ℕ) (xs : Header) → member k xs ≡ false → place_from i k (xs ++ (k ∷ [])) ≡ suc (i + length xs)
unfolding place_from member
place_new i k [] m = rw (eq-eqb k k refl) (omega arith)
place_new i k (x ∷ xs) m = go (eqb k x) m (place_new (suc i) k xs)
  where
    go : (b : Bool) → (b || member k xs) ≡ false → (member k xs ≡ false → place_from (suc i) k (xs ++ (k ∷ [])) ≡ suc (suc i + length xs)) → (whether b then suc i else place_from (suc i) k (xs ++ (k ∷ []))) ≡ suc (i + suc (length xs))
    go true e ih = let z : ◌≡◌ {A = ℕ} 0 1 = cc in absurd (omega arith)
    go false e ih = ih e ∙ omega arith

pub place_read : (n k d : ℕ) (h : Header) → d < n → get_or (places_from n k h) d 0 ≡ place_from 0 (k + d) h
unfolding places_from
place_read zero k d h l = absurd (omega arith)
place_read (suc n) k zero h l = let e : k + 0 ≡ k = omega arith in rw e
place_read (suc n) k (suc d) h l = let e : k + suc d ≡ suc k + d = omega arith in rw e (place_read n (suc k) d h (omega arith))

-- the cell of a column, by its number
pub place_at : (h : Header) (k : ℕ) → k < most_columns → get_or (places h) (k + 1) 0 ≡ place_from 0 (k + 1) h
place_at h k l = let e : k + 1 ≡ suc k = omega arith in let f : 1 + k ≡ suc k = omega arith in rw e (place_read most_columns 1 k h l ∙ rw f)

places_below : (n k x : ℕ) (xs : Header) → x < k → places_from n k (xs ++ (x ∷ [])) ≡ places_from n k xs
unfolding places_from
places_below zero k x xs l = refl
places_below (suc n) k x xs l = rw (place_other 0 k x xs (λ e. omega arith), places_below n (suc k) x xs (omega arith))

places_from_lem : (n k d x : ℕ) (xs : Header) → x ≡ k + d → d < n → member x xs ≡ false → places_from n k (xs ++ (x ∷ [])) ≡ set (places_from n k xs) d (suc (length xs))
unfolding places_from
places_from_lem zero k d x xs e l m = absurd (omega arith)
places_from_lem (suc n) k zero x xs e l m =
    let q : x ≡ k = omega arith in
    let f : place_from 0 x (xs ++ (x ∷ [])) ≡ suc (length xs) = place_new 0 x xs m ∙ omega arith in
    rw (places_below n (suc k) x xs (omega arith), ← q, f)
places_from_lem (suc n) k (suc d) x xs e l m =
    rw (place_other 0 k x xs (λ q. omega arith), places_from_lem n (suc k) d x xs (omega arith) (omega arith) m)

-- the columns of some cells, behind a number that is no column's
abbrev spots : ℕ → Header → List ℕ
spots n xs = n ∷ places_from most_columns 1 xs

-- one cell more that is noted
spots_more : (n x : ℕ) (xs : Header) → x < header_places → (not (eqb x 0) && member x xs) ≡ false → (whether eqb x 0 then spots n xs else set (spots n xs) x (suc (length xs))) ≡ spots n (xs ++ (x ∷ []))
spots_more n zero xs l m = ap (λ (ps : List ℕ). n ∷ ps) (sym (places_below most_columns 1 0 xs (omega arith)))
spots_more n (suc d) xs l m =
    let z : eqb (suc d) 0 ≡ false = ne_eqb (suc d) 0 (λ e. omega arith) in
    rw z (ap (λ (ps : List ℕ). n ∷ ps) (sym (places_from_lem most_columns 1 d (suc d) xs (omega arith) (omega arith) (rw z at m))))

not_not : (b : Bool) → not (not b) ≡ b
not_not true = refl
not_not false = refl

-- whether a column has a cell already, by its place
noted_member : (n x : ℕ) (xs : Header) → x < header_places → (not (eqb x 0) && not (eqb (get_or (spots n xs) x 0) 0)) ≡ (not (eqb x 0) && member x xs)
noted_member n zero xs l = refl
noted_member n (suc d) xs l =
    let e : 1 + d ≡ suc d = omega arith in
    rw (place_read most_columns 1 d xs (omega arith), e, place_member 0 (suc d) xs, not_not (member (suc d) xs))

positive : (n : ℕ) → (n ≡ 0 → ⊥) → 0 < n
positive zero e = absurd (e refl)
positive (suc n) e = omega arith

-- the walk ---------------------------------------------------------------------------------------------------------------------

-- i names are walked: none of them came twice, and each is noted
pub record Walked (h : Header) (at : List ℕ) (i : ℕ) : Type 0 where
  pub noted : at ≡ spots (length h) (take i h)
  pub ahead : repeated [] h ≡ repeated (take i h) (drop i h)

pub walked_none : (h : Header) (n : ℕ) → n ≡ length h → Walked h (set (replicate header_places 0) 0 n) 0
unfolding places_from place_from
walked_none h n e = record { noted = rw e; ahead = refl }

module _ (h : Header) (at : List ℕ) (i x : ℕ) (w : Walked h at i) (l : i < length h) (e : get_or h i 0 ≡ x) (few : x < header_places) where
  again : (not (eqb x 0) && not (eqb (get_or at x 0) 0)) ≡ (not (eqb (get_or h i 0) 0) && member (get_or h i 0) (take i h))
  again = rw (w.noted, e) (noted_member (length h) x (take i h) few)

  pub walked_twice : (not (eqb x 0) && not (eqb (get_or at x 0) 0)) ≡ true → (repeated [] h ≡ x) × (0 < x)
  walked_twice q =
      let z : eqb x 0 ≡ false = not-true (eqb x 0) (and_left (not (eqb x 0)) (not (eqb (get_or at x 0) 0)) q) in
      let n : x ≡ 0 → ⊥ = eqb-false x 0 z in
      (w.ahead ∙ repeated_here h i l (sym again ∙ q) ∙ e, positive x n)

  pub walked_next : (next : List ℕ) → (not (eqb x 0) && not (eqb (get_or at x 0) 0)) ≡ false → next ≡ (whether eqb x 0 then at else set at x (i + 1)) → Walked h next (i + 1)
  walked_next next q g =
      let n : length (take i h) ≡ i = length-take-le i h (omega arith) in
      let m : (not (eqb x 0) && member x (take i h)) ≡ false = sym (noted_member (length h) x (take i h) few) ∙ rw w.noted at q in
      let p : (whether eqb x 0 then spots (length h) (take i h) else set (spots (length h) (take i h)) x (suc i)) ≡ spots (length h) (take i h ++ (x ∷ [])) = rw n at (spots_more (length h) x (take i h) few m) in
      record {
        noted = g ∙ rw (w.noted, add-one, take-suc h i 0 l, e) p;
        ahead = w.ahead ∙ repeated_next h i l (sym again ∙ q);
      }

module _ (h : Header) (at : List ℕ) (i : ℕ) (w : Walked h at i) (l : length h ≤ i) where
  pub walked_noted : at ≡ places h
  walked_noted = w.noted ∙ ap (spots (length h)) (take_all i h l)

  pub walked_once : repeated [] h ≡ 0
  walked_once = w.ahead ∙ repeated_end h i (take i h) l

-- what is missing --------------------------------------------------------------------------------------------------------------

module _ (xs : List Column) (k : ℕ) (h : Header) (at : List ℕ) (e : at ≡ places h) (room : k < most_columns) (l : k < length xs) where
  lacked : eqb (get_or at (k + 1) 0) 0 ≡ not (member (k + 1) h)
  lacked = rw (e, place_at h k room) (place_member 0 (k + 1) h)

  pub missing_here : ((get_or xs k no_column).rules.required && eqb (get_or at (k + 1) 0) 0) ≡ true → missing_from (k + 1) (drop k xs) h ≡ k + 1
  unfolding missing_from
  missing_here q = rw (drop_step no_column xs k l, ← lacked, q)

  pub missing_next : ((get_or xs k no_column).rules.required && eqb (get_or at (k + 1) 0) 0) ≡ false → missing_from (k + 1) (drop k xs) h ≡ missing_from (k + 1 + 1) (drop (k + 1) xs) h
  unfolding missing_from
  missing_next q = let s : k + 1 + 1 ≡ suc (k + 1) = omega arith in rw (drop_step no_column xs k l, ← lacked, q, s)

pub missing_end : (xs : List Column) (k : ℕ) (h : Header) → length xs ≤ k → missing_from (k + 1) (drop k xs) h ≡ 0
unfolding missing_from
missing_end xs k h l = rw (drop_of_length-le xs l)

-- the checks of a header -------------------------------------------------------------------------------------------------------

module _ (ed : Edition) (t : Table) (h : Header) where
  pub names_twice : (x : ℕ) → repeated [] h ≡ x → 0 < x → names_check ed t h ≡ column_twice x
  names_twice x e p = rw (e, lt-ltb 0 x p)

  module _ (e : repeated [] h ≡ 0) where
    pub names_missing : (m : ℕ) → missing ed t h ≡ m → (m ≡ 0 → ⊥) → names_check ed t h ≡ column_missing m
    names_missing m g p = rw (e, g, lt-ltb 0 m (positive m p))

pub header_length : (ed : Edition) (t : Table) (cs : List Bytes) → length (header ed t cs) ≡ length cs
header_length ed t cs = length-map cs (λ c. column_number ed t (content c))

pub header_name : (ed : Edition) (t : Table) (cs : List Bytes) (i : ℕ) → i < length cs → get_or (header ed t cs) i 0 ≡ column_number ed t (content (get_or cs i []))
header_name ed t [] i l = absurd (omega arith)
header_name ed t (c ∷ cs) zero l = refl
header_name ed t (c ∷ cs) (suc i) l = header_name ed t cs i (omega arith)

-- the column that a cell names, as it is found by the cell's stretch
pub name_read : (ed : Edition) (t : Table) (cs : List Bytes) (i : ℕ) (cell s : Bytes) (x : ℕ) → i < length cs → cell ≡ cell_numbered (i + 1) cs → s ≡ stretch cell → x ≡ column_number ed t s → get_or (header ed t cs) i 0 ≡ x
name_read ed t cs i cell s x l c e f =
    let n : eqb (i + 1) 0 ≡ false = ne_eqb (i + 1) 0 (λ z. omega arith) in
    let m : i + 1 - 1 ≡ i = omega arith in
    let g : get_or cs i [] ≡ cell = sym (c ∙ rw (n, m)) in
    header_name ed t cs i l ∙ rw (g, number_of_content ed t cell, ← e, ← f)

pub name_few : (ed : Edition) (t : Table) (s : Bytes) (x : ℕ) → x ≡ column_number ed t s → x < header_places
name_few ed t s x e = omega (arith, column_number_most ed t s, columns_few ed t)

module _ (ed : Edition) (t : Table) (line : Bytes) where
  pub header_refused : (n k : ℕ) → line_check ed line ≡ Err (fault n k) → header_check ed t line ≡ Err (fault n k)
  unfolding header_check
  header_refused n k e = rw e

  module _ (e : line_check ed line ≡ Ok tt) where
    pub header_wide : most_cells < length (cells_of (cut ed line)) → header_check ed t line ≡ too_many_cells
    unfolding header_check
    header_wide l = rw (e, header_length ed t (cells_of (cut ed line)), lt-ltb most_cells (length (cells_of (cut ed line))) l)

    pub header_names : length (cells_of (cut ed line)) ≤ most_cells → header_check ed t line ≡ names_check ed t (header ed t (cells_of (cut ed line)))
    unfolding header_check
    header_names l = rw (e, header_length ed t (cells_of (cut ed line)), le-ltb most_cells (length (cells_of (cut ed line))) l)

  -- a header that passes has at most `most_cells`
  pub header_few : header_check ed t line ≡ Ok tt → length (cells_of (cut ed line)) ≤ most_cells
  header_few p = go (line_check ed line) refl (ltb most_cells (length (cells_of (cut ed line)))) refl
    where
      never : header_check ed t line ≡ Ok tt → (n k : ℕ) → header_check ed t line ≡ Err (fault n k) → length (cells_of (cut ed line)) ≤ most_cells
      never q n k f = let z : ◌≡◌ {A = ℕ} 0 1 = cc in absurd (let y : ⊥ = omega arith in y)

      go : (c : Check) → line_check ed line ≡ c → (b : Bool) → ltb most_cells (length (cells_of (cut ed line))) ≡ b → length (cells_of (cut ed line)) ≤ most_cells
      go (Err f) e b q = never p f.number f.column (header_refused f.number f.column e)
      go (Ok _) e false q = ltb-false most_cells (length (cells_of (cut ed line))) q
      go (Ok _) e true q = never p 4 0 (header_wide e (ltb-true most_cells (length (cells_of (cut ed line))) q))

-- what is kept of a header that passes
pub heading_kept : (ed : Edition) (t : Table) (line : Bytes) → header_check ed t line ≡ Ok tt → (heading ed t line).at ≡ places (header ed t (cells_of (cut ed line)))
heading_kept ed t line p = rw p
