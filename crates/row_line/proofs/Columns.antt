-- The content of the columns of a line, and its checks. Assumes nothing.
use mathlib.Core.Path.{◌≡◌, refl, ◌∙◌, ap, sym, subst}
use mathlib.Core.List.{[], ◌∷◌, List}
use mathlib.Core.Bool.{Bool, true, false}
use Prim.Native.Nat.{ℕ, suc, ◌≤◌, ◌-◌, zero, ◌+◌, ◌<◌}
use native.Mathlib.Omega.{arith}
use lib.Dec.{eqb}
use lib.ListN.{get_or, length, drop, drop_of_length-le}
use borrow.Author.Tests.{ne_eqb, eqb-false, eq-eqb}
use Rattle.words.specs.Words.{whether◌then◌else◌, Bytes}
use Rattle.words.proofs.Lists.{drop_step}
use Rattle.refusals.proofs.Chaining.{both}
use Rattle.refusals.specs.Verdicts.{◌⊳◌, cell_count, Check, fault}
use Rattle.std.specs.Prelude.{Ok, Err}
use Rattle.cells.specs.Numbered.{cell_numbered, MarksOf}
use Rattle.cells.specs.Cells.{content, cut, cells_of}
use Rattle.editions.specs.declared.Edition.{Edition}
use Rattle.tables.specs.Columns.{Column, columns_of, no_column}
use Rattle.tables.specs.declared.Table.{Table}
use Rattle.tables.proofs.Figures.{columns_few}
use Rattle.values.specs.Values.{cell_check, bad_cell}
use Rattle.values.specs.Judged.{breaks}
use Rattle.values.proofs.Values.{check_kept}
use Rattle.header.specs.Header.{Header, place_from, under, line_check, contents_from, contents}
use Rattle.header.specs.Heading.{places, LineCut}
use Rattle.header.specs.declared.CutLine.{CutLine}
use Rattle.header.proofs.Names.{place_at}
use Rattle.row_line.specs.Judging.{CutOf}

-- the cell of a column ----------------------------------------------------------------------------------------------------------

pub place_above : (i k : ℕ) (h : Header) → (place_from i k h ≡ 0 → ⊥) → suc i ≤ place_from i k h
unfolding place_from
place_above i k [] n = absurd (n refl)
place_above i k (x ∷ xs) n = go (eqb k x) n (place_above (suc i) k xs)
  where
    go : (b : Bool) → ((whether b then suc i else place_from (suc i) k xs) ≡ 0 → ⊥) → ((place_from (suc i) k xs ≡ 0 → ⊥) → suc (suc i) ≤ place_from (suc i) k xs) → suc i ≤ (whether b then suc i else place_from (suc i) k xs)
    go true m ih = omega arith
    go false m ih = let l : suc (suc i) ≤ place_from (suc i) k xs = ih m in omega arith

no_cell : (b : Bool) (n : ℕ) → ◌≡◌ {A = Bytes} [] (whether b then [] else get_or [] n [])
no_cell true n = refl
no_cell false n = refl

under_from : (i k : ℕ) (h : Header) (cs : List Bytes) → under k h cs ≡ (whether eqb (place_from i k h) 0 then [] else get_or cs (place_from i k h - suc i) [])
unfolding place_from under
under_from i k [] cs = refl
under_from i k (x ∷ xs) [] = no_cell (eqb (whether eqb k x then suc i else place_from (suc i) k xs) 0) ((whether eqb k x then suc i else place_from (suc i) k xs) - suc i)
under_from i k (x ∷ xs) (c ∷ cs) = go (eqb k x) (under_from (suc i) k xs cs)
  where
    behind : (z : Bool) → eqb (place_from (suc i) k xs) 0 ≡ z → (whether z then [] else get_or cs (place_from (suc i) k xs - suc (suc i)) []) ≡ (whether z then [] else get_or (c ∷ cs) (place_from (suc i) k xs - suc i) [])
    behind true q = refl
    behind false q =
        let l : suc (suc i) ≤ place_from (suc i) k xs = place_above (suc i) k xs (eqb-false (place_from (suc i) k xs) 0 q) in
        let e : place_from (suc i) k xs - suc i ≡ suc (place_from (suc i) k xs - suc (suc i)) = omega arith in
        rw e

    go : (b : Bool) → under k xs cs ≡ (whether eqb (place_from (suc i) k xs) 0 then [] else get_or cs (place_from (suc i) k xs - suc (suc i)) [])
        → (whether b then c else under k xs cs) ≡ (whether eqb (whether b then suc i else place_from (suc i) k xs) 0 then [] else get_or (c ∷ cs) ((whether b then suc i else place_from (suc i) k xs) - suc i) [])
    go true ih =
        let e : suc i - suc i ≡ 0 = omega arith in
        rw (ne_eqb (suc i) 0 (λ z. omega arith), e)
    go false ih = ih ∙ behind (eqb (place_from (suc i) k xs) 0) refl

-- it is the cell whose number the header keeps for the column
pub under_numbered : (k : ℕ) (h : Header) (cs : List Bytes) → under k h cs ≡ cell_numbered (place_from 0 k h) cs
under_numbered k h cs = under_from 0 k h cs

-- contents -----------------------------------------------------------------------------------------------------------------------

pub contents_length : (j : ℕ) (xs : List Column) (h : Header) (cs : List Bytes) → length (contents_from j xs h cs) ≡ length xs
unfolding contents_from
contents_length j [] h cs = refl
contents_length j (x ∷ xs) h cs = ap suc (contents_length (suc j) xs h cs)

contents_at : (j : ℕ) (xs : List Column) (h : Header) (cs : List Bytes) (k : ℕ) → k < length xs → get_or (contents_from j xs h cs) k [] ≡ content (under (j + k) h cs)
unfolding contents_from
contents_at j [] h cs k l = absurd (omega arith)
contents_at j (x ∷ xs) h cs zero l = let e : j + 0 ≡ j = omega arith in rw e
contents_at j (x ∷ xs) h cs (suc k) l = let e : j + suc k ≡ suc j + k = omega arith in rw e (contents_at (suc j) xs h cs k (omega arith))

-- the content of a column, by the cell that its place names
pub content_found : (ed : Edition) (t : Table) (h : Header) (cs : List Bytes) (at : List ℕ) (k : ℕ) (cell : Bytes) → at ≡ places h → k < length (columns_of ed t) → cell ≡ cell_numbered (get_or at (k + 1) 0) cs → content cell ≡ get_or (contents ed t h cs) k []
content_found ed t h cs at k cell e l f =
    let n : 1 + k ≡ k + 1 = omega arith in
    let p : get_or at (k + 1) 0 ≡ place_from 0 (k + 1) h = rw e (place_at h k (omega (arith, columns_few ed t))) in
    let u : cell ≡ under (k + 1) h cs = f ∙ rw p (sym (under_numbered (k + 1) h cs)) in
    sym (contents_at 1 (columns_of ed t) h cs k l ∙ rw (n, ← u))

-- 19, 20, 8 and 21, column by column ------------------------------------------------------------------------------------------------------------

module _ (xs : List Column) (ss : List Bytes) (k : ℕ) (lx : k < length xs) (ls : k < length ss) where
  bad_step : bad_cell (k + 1) (drop k xs) (drop k ss) ≡ cell_check (k + 1) (get_or xs k no_column).rules (get_or ss k []) ⊳ bad_cell (k + 1 + 1) (drop (k + 1) xs) (drop (k + 1) ss)
  unfolding bad_cell
  bad_step =
      let s : k + 1 + 1 ≡ suc (k + 1) = omega arith in
      rw (drop_step no_column xs k lx, drop_step [] ss k ls, s)

  pub bad_next : cell_check (k + 1) (get_or xs k no_column).rules (get_or ss k []) ≡ Ok tt → bad_cell (k + 1) (drop k xs) (drop k ss) ≡ bad_cell (k + 1 + 1) (drop (k + 1) xs) (drop (k + 1) ss)
  bad_next e = bad_step ∙ rw e

  pub bad_here : (n c : ℕ) → cell_check (k + 1) (get_or xs k no_column).rules (get_or ss k []) ≡ Err (fault n c) → bad_cell (k + 1) (drop k xs) (drop k ss) ≡ Err (fault n c)
  bad_here n c e = bad_step ∙ rw e

pub bad_end : (xs : List Column) (ss : List Bytes) (k : ℕ) → length xs ≤ k → bad_cell (k + 1) (drop k xs) ss ≡ Ok tt
unfolding bad_cell
bad_end xs ss k l = rw (drop_of_length-le xs l)

-- where no column has a fault, the content of each keeps to its rules
pub all_kept : (j : ℕ) (xs : List Column) (ss : List Bytes) → bad_cell j xs ss ≡ Ok tt → (k : ℕ) → k < length xs → k < length ss → breaks (get_or xs k no_column).rules (get_or ss k []) ≡ false
unfolding bad_cell
all_kept j [] ss e k lx ls = absurd (omega arith)
all_kept j (x ∷ xs) [] e k lx ls = absurd (omega arith)
all_kept j (x ∷ xs) (s ∷ ss) e zero lx ls = check_kept j x.rules s (both (cell_check j x.rules s) (bad_cell (suc j) xs ss) e).0
all_kept j (x ∷ xs) (s ∷ ss) e (suc k) lx ls =
    all_kept (suc j) xs ss (both (cell_check j x.rules s) (bad_cell (suc j) xs ss) e).1 k (omega arith) (omega arith)

-- the checks of a line -------------------------------------------------------------------------------------------------------------

-- 17, 6 and 7 of a row under a header of so many cells
module _ (ed : Edition) (line : Bytes) (count : ℕ) (bounds : List ℕ) (r : CutLine) (e : LineCut ed line bounds r) where
  pub cut_refused : (n k : ℕ) → r.check ≡ Err (fault n k) → CutOf ed line count bounds (Err (fault n k))
  cut_refused n k g =
      let p : line_check ed line ≡ Err (fault n k) = sym e.is ∙ g in
      record {
        is = λ h q. rw p;
        marks = λ q. let z : ◌≡◌ {A = ℕ} 0 1 = cc in absurd (omega arith);
      }

  module _ (g : r.check ≡ Ok tt) where
    counted : length (cells_of (cut ed line)) ≡ r.cells
    counted = e.counted g

    clean : line_check ed line ≡ Ok tt
    clean = sym e.is ∙ g

    pub cut_count : (r.cells ≡ count → ⊥) → (c : Check) → c ≡ cell_count → CutOf ed line count bounds c
    cut_count d c f =
        record {
          is = λ h k. f ∙ sym (rw (clean, ne_eqb (length (cells_of (cut ed line))) (length h) (λ q. d (sym counted ∙ q ∙ sym k))));
          marks = λ q. let z : ◌≡◌ {A = ℕ} 0 1 = cc in absurd (omega arith);
        }

    pub cut_cells : r.cells ≡ count → count < length bounds → CutOf ed line count bounds (Ok tt)
    cut_cells d l =
        record {
          is = λ h k. sym (rw (clean, eq-eqb (length (cells_of (cut ed line))) (length h) (counted ∙ d ∙ k)));
          marks = λ q. subst (MarksOf ed line bounds) d (e.marks g (rw d l));
        }
