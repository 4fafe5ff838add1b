-- Where a cell stands in its text, and that the stretch of a text cell is the cell's own bytes. Assumes nothing.
use mathlib.Core.Path.{◌≡◌, ap, sym, ◌∙◌, refl, subst}
use mathlib.Core.List.{◌++◌, [], ◌∷◌, List, append_assoc}
use mathlib.Core.Bool.{Bool, true, false}
use Prim.Native.Nat.{ℕ, suc, ◌-◌, ◌+◌, ◌≤◌}
use native.Mathlib.Omega.{arith}
use lib.ListN.{take, drop, take-append-drop, length}
use lib.Seq.{drop-append-add, drop-drop, take-append-le}
use lib.Dec.{eqb, ltb}
use borrow.Author.Tests.{eqb-true, ltb-true, ltb-false}
use Rattle.words.specs.Words.{Bytes, whether◌then◌else◌}
use Rattle.words.proofs.Lists.{take_seam}
use Rattle.editions.specs.declared.Edition.{Edition}
use Rattle.lines.specs.Lines.{lines, head_line, row_lines, line_after, line_start, row_on}
use Rattle.lines.specs.Ends.{line_length, line_room, line_at}
use Rattle.lines.proofs.Lining.{LineFrom, line_from, lines_none}
use Rattle.lines.proofs.Starting.{start_first, start_next, line_after_lem}
use Rattle.cells.specs.Cells.{parted, Cut, faulty, cells, cut, cells_of, quoted}
use Rattle.cells.specs.declared.State.TheVariants.{Fresh}
use Rattle.cells.proofs.Cutting.{cells_parted}
use Rattle.tables.specs.declared.Table.{Table}
use Rattle.header.specs.Header.{Header, under, offset, header_of}
use Rattle.cell_question.specs.CellQuestion.{line_asked, cell_at, cell_start}

-- bytes begin with these
abbrev pub Begins : Bytes → Bytes → Type 0
Begins s l = (rest : Bytes) × (s ≡ l ++ rest)

-- a row stands where its line starts ----------------------------------------------------------------------------------------

-- a row that begins where line i does: it stands there, and the next one begins where its own line does
record Behind (e : Edition) (s : Bytes) (i at : ℕ) (l : Bytes) (ls : List Bytes) : Type 0 where
  next : ℕ
  here : Begins (drop at s) l
  start : next ≡ line_start (line_after e i l) s
  rest : lines e (drop next s) ≡ ls

behind_row : (e : Edition) (s : Bytes) (i at : ℕ) (l : Bytes) (ls : List Bytes) → 1 ≤ i → at ≡ line_start i s → lines e (drop at s) ≡ l ∷ ls → Behind e s i at l ls
behind_row e s i at l ls low k is = go (ltb at (length s)) refl
  where
    go : (q : Bool) → ltb at (length s) ≡ q → Behind e s i at l ls
    go true q =
        let n : ℕ = line_length e Fresh (drop at s) in
        let f : LineFrom (lines e) s at (line_at e s at) = line_from e s at (line_at e s at) (ltb-true at (length s) q) refl in
        let size : at + n - at ≡ n = omega arith in
        let both : l ∷ ls ≡ take n (drop at s) ∷ lines e (drop (at + line_room e Fresh (drop at s)) s) =
        sym is ∙ f.is ∙ ap (λ (m : ℕ). take m (drop at s) ∷ lines e (drop (at + line_room e Fresh (drop at s)) s)) size in
        let row : l ≡ take n (drop at s) = cc in
        record {
          next = at + line_room e Fresh (drop at s);
          here = (drop n (drop at s), sym (take-append-drop n (drop at s)) ∙ ap (λ (x : Bytes). x ++ drop n (drop at s)) (sym row));
          start = start_next e i s at low k ∙ ap (λ (x : Bytes). line_start (line_after e i x) s) (sym row);
          rest = cc;
        }
    go false q =
        let none : lines e (drop at s) ≡ [] = lines_none e s at (ltb-false at (length s) q) in
        let z : ◌≡◌ {A = ℕ} 0 1 = cc in let y : ⊥ = omega arith in absurd y

row_stands : (e : Edition) (line : ℕ) (s : Bytes) (ls : List Bytes) (i at : ℕ) → 1 ≤ i → at ≡ line_start i s → lines e (drop at s) ≡ ls → Begins (drop (line_start line s) s) (row_on e line i ls)
unfolding row_on
row_stands e line s [] i at low k is = (drop (line_start line s) s, refl)
row_stands e line s (l ∷ ls) i at low k is =
    let b : Behind e s i at l ls = behind_row e s i at l ls low k is in
    go (eqb i line) refl b (row_stands e line s ls (line_after e i l) b.next (omega (arith, line_after_lem e i l)) b.start b.rest)
  where
    go : (q : Bool) → eqb i line ≡ q → Behind e s i at l ls → Begins (drop (line_start line s) s) (row_on e line (line_after e i l) ls)
        → Begins (drop (line_start line s) s) (whether q then l else row_on e line (line_after e i l) ls)
    go true q b ih =
        let there : at ≡ line_start line s = k ∙ ap (λ (n : ℕ). line_start n s) (eqb-true i line q) in
        subst (λ (n : ℕ). Begins (drop n s) l) there b.here
    go false q b ih = ih

-- a row behind the header
line_stands : (e : Edition) (line : ℕ) (s : Bytes) → Begins (drop (line_start line s) s) (line_asked e line s)
unfolding row_on
line_stands e line s = go (lines e s) refl
  where
    go : (ls : List Bytes) → lines e s ≡ ls → Begins (drop (line_start line s) s) (row_on e line (line_after e 1 (head_line ls)) (row_lines ls))
    go [] is = (drop (line_start line s) s, refl)
    go (l ∷ ls) is =
        let b : Behind e s 1 0 l ls = behind_row e s 1 0 l ls (omega arith) (start_first s) is in
        row_stands e line s ls (line_after e 1 l) b.next (omega (arith, line_after_lem e 1 l)) b.start b.rest

-- a cell stands at its offset ----------------------------------------------------------------------------------------------

drop_past : (c : Bytes) (b n : ℕ) (rest : Bytes) → drop (length c + 1 + n) (c ++ (b ∷ rest)) ≡ drop n rest
drop_past c b n rest =
    let m : length c + 1 + n ≡ length c + suc n = omega arith in
    ap (λ (k : ℕ). drop k (c ++ (b ∷ rest))) m ∙ drop-append-add c (b ∷ rest) (suc n)

offset_stands : (k : ℕ) (h : Header) (cs : List Bytes) (tail : Bytes) → Begins (drop (offset k h cs) (parted 59 cs ++ tail)) (under k h cs)
unfolding offset under parted
offset_stands k [] cs tail = (parted 59 cs ++ tail, refl)
offset_stands k (x ∷ xs) [] tail = (tail, refl)
offset_stands k (x ∷ xs) (c ∷ []) tail = go (eqb k x) refl
  where
    none : (xs : Header) → under k xs [] ≡ []
    none [] = refl
    none (y ∷ ys) = refl

    go : (q : Bool) → eqb k x ≡ q → Begins (drop (offset k (x ∷ xs) (c ∷ [])) (c ++ tail)) (under k (x ∷ xs) (c ∷ []))
    go true q = rw q (tail, refl)
    go false q = rw (q, none xs) (drop (length c + 1 + offset k xs []) (c ++ tail), refl)
offset_stands k (x ∷ xs) (c ∷ (e ∷ es)) tail = go (eqb k x) refl (offset_stands k xs (e ∷ es) tail)
  where
    go : (q : Bool) → eqb k x ≡ q → Begins (drop (offset k xs (e ∷ es)) (parted 59 (e ∷ es) ++ tail)) (under k xs (e ∷ es)) →
        Begins (drop (offset k (x ∷ xs) (c ∷ (e ∷ es))) ((c ++ (59 ∷ parted 59 (e ∷ es))) ++ tail)) (under k (x ∷ xs) (c ∷ (e ∷ es)))
    go true q r = rw q ((59 ∷ parted 59 (e ∷ es)) ++ tail, append_assoc c (59 ∷ parted 59 (e ∷ es)) tail)
    go false q r =
        rw q (
          r.0,
          ap (λ (z : Bytes). drop (length c + 1 + offset k xs (e ∷ es)) z) (append_assoc c (59 ∷ parted 59 (e ∷ es)) tail)
              ∙ drop_past c 59 (offset k xs (e ∷ es)) (parted 59 (e ∷ es) ++ tail) ∙ r.1,
        )

-- on its line, where the line is well quoted; else there is no cell
on_line : (e : Edition) (k : ℕ) (h : Header) (line tail : Bytes) → Begins (drop (offset k h (cells_of (cut e line))) (line ++ tail)) (under k h (cells_of (cut e line)))
unfolding under offset
on_line e k h line tail = go (cut e line) refl
  where
    none : (h : Header) → under k h [] ≡ []
    none [] = refl
    none (y ∷ ys) = refl

    go : (u : Cut) → cut e line ≡ u → Begins (drop (offset k h (cells_of u)) (line ++ tail)) (under k h (cells_of u))
    go (faulty n) q = rw (none h) (drop (offset k h []) (line ++ tail), refl)
    go (cells cs) q =
        let f : line ≡ parted 59 cs = sym (cells_parted e line cs q) in
        let r : Begins (drop (offset k h cs) (parted 59 cs ++ tail)) (under k h cs) = offset_stands k h cs tail in
        (r.0, ap (λ (x : Bytes). drop (offset k h cs) (x ++ tail)) f ∙ r.1)

-- and in its text
pub cell_stands : (e : Edition) (t : Table) (s : Bytes) (line k : ℕ) → Begins (drop (cell_start e t s line k) s) (cell_at e t s line k)
cell_stands e t s line k =
    let h : Header = header_of e t s in
    let row : Bytes = line_asked e line s in
    let cs : List Bytes = cells_of (cut e row) in
    let l : Begins (drop (line_start line s) s) row = line_stands e line s in
    let c : Begins (drop (offset k h cs) (row ++ l.0)) (under k h cs) = on_line e k h row l.0 in
    (c.0, sym (drop-drop (offset k h cs) (line_start line s) s) ∙ ap (λ (x : Bytes). drop (offset k h cs) x) l.1 ∙ c.1)

-- the stretch --------------------------------------------------------------------------------------------------------------

pub plain_stretch : (s cell : Bytes) (at : ℕ) → Begins (drop at s) cell → take (length cell) (drop at s) ≡ cell
plain_stretch s cell at b = ap (λ (x : Bytes). take (length cell) x) b.1 ∙ take_seam cell b.0

pub quoted_stretch : (s cell : Bytes) (at : ℕ) → quoted cell ≡ true → Begins (drop at s) cell → take (length cell - 2) (drop (at + 1) s) ≡ take (length cell - 2) (drop 1 cell)
quoted_stretch s [] at q b = let z : ◌≡◌ {A = ℕ} 0 1 = cc in let y : ⊥ = omega arith in absurd y
quoted_stretch s (c ∷ cs) at q b =
    let n : ℕ = length (c ∷ cs) - 2 in
    let short : n ≤ length cs = omega arith in
    ap (λ (x : Bytes). take n x) (sym (drop-drop 1 at s) ∙ ap (λ (x : Bytes). drop 1 x) b.1) ∙ take-append-le n cs b.0 short
