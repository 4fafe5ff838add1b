-- How long the lines of a text are, on which lines its rows start, and which of their cells can be faulty. Assumes nothing.
use mathlib.Core.Path.{◌≡◌, refl, ap, ◌∙◌}
use mathlib.Core.Bool.{Bool, true, false, ◌&&◌}
use mathlib.Core.List.{List, [], ◌∷◌}
use mathlib.Core.Logic.{◌⊎◌, inl, inr, ⊎_elim}
use Prim.Native.Nat.{ℕ, ◌≤◌, ◌<◌, ◌+◌, zero, suc}
use native.Mathlib.Omega.{arith}
use lib.ListN.{length, get_or}
use lib.Dec.{eqb}
use borrow.Author.Tests.{eq-eqb, ne_eqb}
use Rattle.words.specs.Words.{Bytes, whether◌then◌else◌}
use Rattle.editions.specs.declared.Edition.{Edition}
use Rattle.editions.specs.declared.Edition.TheVariants.{Dino21, Dino23}
use Rattle.lines.specs.Lines.{lines, lines_from, quoting, ends_row, end_next, onto, head_line, row_lines, slip_lines, line_after, breaks, feeds, row_on, starts_on}
use Rattle.lines.proofs.Lining.{from_on}
use Rattle.lines.proofs.Starting.{line_after_lem}
use Rattle.cells.specs.Cells.{Cut, faulty, cells, cut_from, reached, after, grown, next, kind_in, faulty_cell}
use Rattle.cells.specs.declared.State.{State}
use Rattle.cells.specs.declared.State.TheVariants.{Fresh, Plain, Inside, Closed, Over, Fault}
use Rattle.cells.specs.declared.Kind.TheVariants.{End}
use Rattle.cell_question.specs.CellQuestion.{first_line}
use Rattle.promises.specs.Promises.{row_lines_of, start_of, row_start}

-- the lines of a text --------------------------------------------------------------------------------------------------------

-- a slip has no more lines than bytes
onto_few : (b : ℕ) (ls : List Bytes) (n : ℕ) → length ls ≤ n → length (onto b ls) ≤ suc n
onto_few b [] n h = omega arith
onto_few b (l ∷ ls) n h = omega arith

pub slip_lines_few : (s : Bytes) → length (slip_lines s) ≤ length s
unfolding slip_lines
slip_lines_few [] = omega arith
slip_lines_few (b ∷ bs) = go (eqb b 10) (slip_lines_few bs)
  where
    go : (feed : Bool) → length (slip_lines bs) ≤ length bs → length (whether feed then [] ∷ slip_lines bs else onto b (slip_lines bs)) ≤ suc (length bs)
    go true h = omega arith
    go false h = onto_few b (slip_lines bs) (length bs) h

-- no line of a table is longer than the text
none_long : (i n : ℕ) → length (get_or {A = Bytes} [] i []) ≤ n
none_long zero n = omega arith
none_long (suc i) n = omega arith

onto_within : (b : ℕ) (ls : List Bytes) (i n : ℕ) → ((j : ℕ) → length (get_or ls j []) ≤ n) → length (get_or (onto b ls) i []) ≤ suc n
onto_within b [] zero n h = omega arith
onto_within b [] (suc i) n h = none_long i (suc n)
onto_within b (l ∷ ls) zero n h = let z : length l ≤ n = h 0 in omega arith
onto_within b (l ∷ ls) (suc i) n h = let z : length (get_or ls i []) ≤ n = h (suc i) in omega arith

module _ (e : Edition) where
  line_within : (q : State) (s : Bytes) (i : ℕ) → length (get_or (lines_from e q s) i []) ≤ length s
  unfolding lines_from
  line_within q [] i = none_long i 0
  line_within q (b ∷ bs) i = rw (from_on (quoting q b) (λ t. onto b (lines_from e t bs))) (go (ends_row e q b) (eqb b 13 && end_next e q bs) i (λ t. line_within t bs))
    where
      go : (feed return : Bool) (i : ℕ) → ((t : State) (j : ℕ) → length (get_or (lines_from e t bs) j []) ≤ length bs)
          → length (get_or (whether feed then [] ∷ lines_from e Fresh bs else whether return then lines_from e q bs else onto b (lines_from e (quoting q b) bs)) i []) ≤ suc (length bs)
      go true return zero h = omega arith
      go true return (suc i) h = omega (arith, h Fresh i)
      go false true i h = omega (arith, h q i)
      go false false i h = onto_within b (lines_from e (quoting q b) bs) i (length bs) (h (quoting q b))

  pub head_within : (s : Bytes) → length (head_line (lines e s)) ≤ length s
  head_within s = go (lines e s) (line_within Fresh s 0)
    where
      go : (ls : List Bytes) → length (get_or ls 0 []) ≤ length s → length (head_line ls) ≤ length s
      go [] h = omega arith
      go (l ∷ ls) h = h

  pub row_within : (s : Bytes) (i : ℕ) → length (get_or (row_lines_of e s) i []) ≤ length s
  row_within s i = go (lines e s) (line_within Fresh s (suc i))
    where
      go : (ls : List Bytes) → length (get_or ls (suc i) []) ≤ length s → length (get_or (row_lines ls) i []) ≤ length s
      go [] h = none_long i (length s)
      go (l ∷ ls) h = h

-- the lines on which rows start ------------------------------------------------------------------------------------------------

after_more : (e : Edition) (i : ℕ) (row : Bytes) → line_after e (suc i) row ≡ suc (line_after e i row)
after_more e i row = line_after_lem e (suc i) row ∙ omega (arith, line_after_lem e i row)

-- one line later, all start one line later
start_later : (e : Edition) (i : ℕ) (ls : List Bytes) (j : ℕ) → start_of e (suc i) ls j ≡ suc (start_of e i ls j)
unfolding start_of
start_later e i [] j = refl
start_later e i (l ∷ ls) zero = refl
start_later e i (l ∷ ls) (suc j) = ap (λ (n : ℕ). start_of e n ls j) (after_more e i l) ∙ start_later e (line_after e i l) ls j

-- none starts above the first
start_least : (e : Edition) (i : ℕ) (ls : List Bytes) (j : ℕ) → i ≤ start_of e i ls j
unfolding start_of
start_least e i [] j = omega arith
start_least e i (l ∷ ls) zero = omega arith
start_least e i (l ∷ ls) (suc j) = omega (arith, line_after_lem e i l, start_least e (line_after e i l) ls j)

-- so on a row's line that row starts, and no other
pub row_on_lem : (e : Edition) (i : ℕ) (ls : List Bytes) (j : ℕ) → j < length ls →
    (row_on e (start_of e i ls j) i ls ≡ get_or ls j []) × (starts_on e (start_of e i ls j) i ls ≡ true)
unfolding start_of row_on starts_on
row_on_lem e i [] j h = absurd (omega arith)
row_on_lem e i (l ∷ ls) zero h = let same : eqb i i ≡ true = eq-eqb i i refl in (rw same, rw same)
row_on_lem e i (l ∷ ls) (suc j) h =
    let later : eqb i (start_of e (line_after e i l) ls j) ≡ false = ne_eqb i (start_of e (line_after e i l) ls j) (λ k. omega (arith, line_after_lem e i l, start_least e (line_after e i l) ls j)) in
    let ih = row_on_lem e (line_after e i l) ls j (omega arith) in
    (rw later ih.0, rw later ih.1)

-- a byte before a row adds at most one line
breaks_onto : (e : Edition) (b : ℕ) (l : Bytes) → (breaks e (b ∷ l) ≡ breaks e l) ⊎ (breaks e (b ∷ l) ≡ suc (breaks e l))
unfolding feeds
breaks_onto Dino21 b l = inl refl
breaks_onto Dino23 b l = go (eqb b 10)
  where
    go : (t : Bool) → ((whether t then suc (feeds l) else feeds l) ≡ feeds l) ⊎ ((whether t then suc (feeds l) else feeds l) ≡ suc (feeds l))
    go true = inr refl
    go false = inl refl

onto_starts : (e : Edition) (b i : ℕ) (ls : List Bytes) (j n : ℕ) → j < length (onto b ls) → ((k : ℕ) → k < length ls → start_of e i ls k ≤ i + n) → start_of e i (onto b ls) j ≤ i + suc n
unfolding start_of
onto_starts e b i [] zero n h g = omega arith
onto_starts e b i [] (suc j) n h g = absurd (omega arith)
onto_starts e b i (l ∷ ls) zero n h g = omega arith
onto_starts e b i (l ∷ ls) (suc j) n h g =
    let old : start_of e (line_after e i l) ls j ≤ i + n = g (suc j) (omega arith) in
    ⊎_elim
    (λ k.
    let same : line_after e i (b ∷ l) ≡ line_after e i l = line_after_lem e i (b ∷ l) ∙ omega (arith, k, line_after_lem e i l) in
    omega (arith, ap (λ (x : ℕ). start_of e x ls j) same))
    (λ k.
    let more : line_after e i (b ∷ l) ≡ suc (line_after e i l) = line_after_lem e i (b ∷ l) ∙ omega (arith, k, line_after_lem e i l) in
    omega (arith, ap (λ (x : ℕ). start_of e x ls j) more, start_later e (line_after e i l) ls j))
    (breaks_onto e b l)

-- no row starts behind as many lines as the text has bytes
module _ (e : Edition) where
  bare_after : (i : ℕ) → line_after e i [] ≡ suc i
  unfolding feeds
  bare_after i = line_after_lem e i [] ∙ go e
    where
      go : (e : Edition) → i + breaks e [] + 1 ≡ suc i
      go Dino21 = omega arith
      go Dino23 = omega arith

  starts_few : (i : ℕ) (q : State) (s : Bytes) (j : ℕ) → j < length (lines_from e q s) → start_of e i (lines_from e q s) j ≤ i + length s
  unfolding lines_from start_of
  starts_few i q [] j h = absurd (omega arith)
  starts_few i q (b ∷ bs) j h =
      let on = from_on (quoting q b) (λ t. onto b (lines_from e t bs)) in
      rw on (go (ends_row e q b) (eqb b 13 && end_next e q bs) j (λ m t. starts_few m t bs) (rw on at h))
    where
      go : (feed return : Bool) (j : ℕ) → ((m : ℕ) (t : State) (k : ℕ) → k < length (lines_from e t bs) → start_of e m (lines_from e t bs) k ≤ m + length bs)
          → let ls = whether feed then [] ∷ lines_from e Fresh bs else whether return then lines_from e q bs else onto b (lines_from e (quoting q b) bs) in
          j < length ls → start_of e i ls j ≤ i + suc (length bs)
      go true return zero ih h = omega arith
      go true return (suc j) ih h = omega (arith, ap (λ (x : ℕ). start_of e x (lines_from e Fresh bs) j) (bare_after i), ih (suc i) Fresh j (omega arith))
      go false true j ih h = omega (arith, ih i q j h)
      go false false j ih h = onto_starts e b i (lines_from e (quoting q b) bs) j (length bs) h (ih i (quoting q b))

  pub row_low : (s : Bytes) (i : ℕ) → 2 ≤ row_start e s i
  row_low s i = omega (arith, start_least e (first_line e s) (row_lines_of e s) i, line_after_lem e 1 (head_line (lines e s)))

  pub row_high : (s : Bytes) (i : ℕ) → i < length (row_lines_of e s) → row_start e s i ≤ suc (length s)
  unfolding start_of
  row_high s i h = go (lines e s) h (starts_few 1 Fresh s (suc i))
    where
      go : (ls : List Bytes) → i < length (row_lines ls) → (suc i < length ls → start_of e 1 ls (suc i) ≤ 1 + length s) → start_of e (line_after e 1 (head_line ls)) (row_lines ls) i ≤ suc (length s)
      go [] h k = absurd (omega arith)
      go (l ∷ ls) h k = omega (arith, k (omega arith))

-- a faulty cell has at most one byte of its line for each cell before it
pub cut_few : (e : Edition) (s : State) (l : Bytes) → faulty_cell (cut_from e s l) ≤ suc (length l)
unfolding cut_from
cut_few e s [] = go (next s End)
  where
    go : (t : State) → faulty_cell (reached t (cells ([] ∷ [])) (λ t. faulty 1)) ≤ 1
    go Over = omega arith
    go Fault = omega arith
    go Fresh = omega arith
    go Plain = omega arith
    go Inside = omega arith
    go Closed = omega arith
cut_few e s (b ∷ bs) = go (next s (kind_in e s b bs)) (λ t. cut_few e t bs)
  where
    after_few : (u : Cut) → faulty_cell u ≤ suc (length bs) → faulty_cell (after u) ≤ suc (suc (length bs))
    after_few (faulty n) h = omega arith
    after_few (cells cs) h = omega arith

    grown_few : (u : Cut) → faulty_cell u ≤ suc (length bs) → faulty_cell (grown b u) ≤ suc (suc (length bs))
    grown_few (faulty n) h = omega arith
    grown_few (cells []) h = omega arith
    grown_few (cells (c ∷ cs)) h = omega arith

    go : (t : State) → ((t : State) → faulty_cell (cut_from e t bs) ≤ suc (length bs)) → faulty_cell (reached t (after (cut_from e Fresh bs)) (λ t. grown b (cut_from e t bs))) ≤ suc (suc (length bs))
    go Over h = after_few (cut_from e Fresh bs) (h Fresh)
    go Fault h = omega arith
    go Fresh h = grown_few (cut_from e Fresh bs) (h Fresh)
    go Plain h = grown_few (cut_from e Plain bs) (h Plain)
    go Inside h = grown_few (cut_from e Inside bs) (h Inside)
    go Closed h = grown_few (cut_from e Closed bs) (h Closed)
