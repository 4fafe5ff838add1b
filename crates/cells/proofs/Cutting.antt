-- What a line is cut into, and that its cells make it up. Assumes nothing.
use mathlib.Core.List.{◌∷◌, List, [], ◌++◌, append_assoc, append-nil}
use mathlib.Core.Path.{◌≡◌, refl, ap, sym, subst}
use mathlib.Core.Bool.{Bool, true, false, ◌||◌, ◌&&◌}
use Prim.Native.Nat.{suc, ◌+◌, ℕ, ◌≤◌}
use native.Mathlib.Omega.{arith}
use lib.ListN.{length, get_or}
use lib.Dec.{eqb, ltb}
use borrow.Author.Tests.{eqb-true}
use Rattle.words.specs.Words.{Bytes, whether◌then◌else◌}
use Rattle.editions.specs.declared.Edition.{Edition}
use Rattle.cells.specs.Cells.{Cut, faulty, cells, grown, after, parted, next, kind, kind_in, breakable, is_break, reached, cut_from, cut}
use Rattle.cells.specs.declared.Kind.TheVariants.{Quote, Control, Other, Semicolon, End}
use Rattle.cells.specs.declared.State.{State}
use Rattle.cells.specs.declared.State.TheVariants.{Fresh, Plain, Inside, Closed, Over, Fault}

-- a cell before the others
abbrev pub before : Bytes → Cut → Cut
before c (faulty n) = faulty (suc n)
before c (cells cs) = cells (c ∷ cs)

abbrev pub ahead : List Bytes → Cut → Cut
ahead [] u = u
ahead (c ∷ cs) u = before c (ahead cs u)

pub ahead_more : (cs : List Bytes) (c : Bytes) (u : Cut) → ahead (cs ++ (c ∷ [])) u ≡ ahead cs (before c u)
ahead_more [] c u = refl
ahead_more (d ∷ cs) c u = ap (before d) (ahead_more cs c u)

pub ahead_faulty : (cs : List Bytes) → ahead cs (faulty 1) ≡ faulty (length cs + 1)
ahead_faulty [] = refl
ahead_faulty (c ∷ cs) = rw (ahead_faulty cs) (ap faulty (omega arith))

pub ahead_none : (cs : List Bytes) → ahead cs (cells []) ≡ cells cs
ahead_none [] = refl
ahead_none (c ∷ cs) = ap (before c) (ahead_none cs)

-- bytes at the head of the first cell
abbrev pub grown_by : Bytes → Cut → Cut
grown_by p (faulty n) = faulty n
grown_by p (cells []) = cells []
grown_by p (cells (c ∷ cs)) = cells ((p ++ c) ∷ cs)

pub grown_by_nil : (u : Cut) → grown_by [] u ≡ u
grown_by_nil (faulty n) = refl
grown_by_nil (cells []) = refl
grown_by_nil (cells (c ∷ cs)) = refl

pub grown_by_one : (b : ℕ) (u : Cut) → grown_by (b ∷ []) u ≡ grown b u
grown_by_one b (faulty n) = refl
grown_by_one b (cells []) = refl
grown_by_one b (cells (c ∷ cs)) = refl

pub grown_by_more : (p q : Bytes) (u : Cut) → grown_by (p ++ q) u ≡ grown_by p (grown_by q u)
grown_by_more p q (faulty n) = refl
grown_by_more p q (cells []) = refl
grown_by_more p q (cells (c ∷ cs)) = rw append_assoc

pub grown_by_after : (p : Bytes) (u : Cut) → grown_by p (after u) ≡ before p u
grown_by_after p (faulty n) = refl
grown_by_after p (cells cs) = rw append-nil

-- what is cut makes up the line -------------------------------------------------------------------------------------------

-- what cells, or fields, parted by a byte make up: the whole text; a faulty one is counted from 1
abbrev pub Whole : ℕ → Cut → Bytes → Type 0
Whole sep (faulty n) s = 1 ≤ n
Whole sep (cells cs) s = (parted sep cs ≡ s) × (1 ≤ length cs)

module _ (sep : ℕ) where
  pub whole_grown : (b : ℕ) (u : Cut) (s : Bytes) → Whole sep u s → Whole sep (grown b u) (b ∷ s)
  unfolding parted
  whole_grown b (faulty n) s w = w
  whole_grown b (cells []) s w = absurd (let z : ⊥ = omega arith in z)
  whole_grown b (cells (c ∷ [])) s w = (ap (λ (l : Bytes). b ∷ l) w.0, w.1)
  whole_grown b (cells (c ∷ (d ∷ ds))) s w = (ap (λ (l : Bytes). b ∷ l) w.0, w.1)

  pub whole_after : (u : Cut) (s : Bytes) → Whole sep u s → Whole sep (after u) (sep ∷ s)
  unfolding parted
  whole_after (faulty n) s w = omega arith
  whole_after (cells []) s w = absurd (let z : ⊥ = omega arith in z)
  whole_after (cells (c ∷ cs)) s w = (ap (λ (l : Bytes). sep ∷ l) w.0, omega arith)

-- only a semicolon ends a cell before the line's end
never_over : (s : State) (q c : Bool) (m n : ℕ) → next s (whether q then Quote else whether c then Control else Other) ≡ Over → m ≡ n
never_over Over q c m n e = cc
never_over Fault q c m n e = cc
never_over Fresh true c m n e = cc
never_over Fresh false true m n e = cc
never_over Fresh false false m n e = cc
never_over Plain true c m n e = cc
never_over Plain false true m n e = cc
never_over Plain false false m n e = cc
never_over Inside true c m n e = cc
never_over Inside false true m n e = cc
never_over Inside false false m n e = cc
never_over Closed true c m n e = cc
never_over Closed false true m n e = cc
never_over Closed false false m n e = cc

over_by : (s : State) (b : ℕ) → next s (kind b) ≡ Over → b ≡ 59
over_by s b e = go (eqb b 34) (eqb b 59) (ltb b 32 || eqb b 127) refl e
  where
    go : (q m c : Bool) → eqb b 59 ≡ m → next s (whether q then Quote else whether m then Semicolon else whether c then Control else Other) ≡ Over → b ≡ 59
    go q true c h o = eqb-true b 59 h
    go q false c h o = never_over s q c b 59 o

over_in : (e : Edition) (s : State) (b : ℕ) (bs : Bytes) → next s (kind_in e s b bs) ≡ Over → b ≡ 59
over_in e s b bs o = go (breakable e s && is_break b bs) o
  where
    go : (u : Bool) → next s (whether u then Other else kind b) ≡ Over → b ≡ 59
    go true q = never_over s false false b 59 q
    go false q = over_by s b q

whole_reached : (sep : ℕ) (t : State) (over : Cut) (on : State → Cut) (s : Bytes) → (t ≡ Over → Whole sep over s) → ((t : State) → Whole sep (on t) s) → Whole sep (reached t over on) s
whole_reached sep Over over on s o g = o refl
whole_reached sep Fault over on s o g = omega arith
whole_reached sep Fresh over on s o g = g Fresh
whole_reached sep Plain over on s o g = g Plain
whole_reached sep Inside over on s o g = g Inside
whole_reached sep Closed over on s o g = g Closed

whole_from : (e : Edition) (s : State) (bs : Bytes) → Whole 59 (cut_from e s bs) bs
unfolding cut_from parted
whole_from e s [] = whole_reached 59 (next s End) _ _ [] (λ o. (refl, omega arith)) (λ t. omega arith)
whole_from e s (b ∷ bs) =
    whole_reached 59 (next s (kind_in e s b bs)) _ _ (b ∷ bs)
    (λ o. subst (λ (x : ℕ). Whole 59 (after (cut_from e Fresh bs)) (x ∷ bs)) (sym (over_in e s b bs o)) (whole_after 59 (cut_from e Fresh bs) bs (whole_from e Fresh bs)))
    (λ t. whole_grown 59 b (cut_from e t bs) bs (whole_from e t bs))

-- the cells of a line, and the fields of a slip line, make it up
pub cells_parted : (e : Edition) (line : Bytes) (cs : List Bytes) → cut e line ≡ cells cs → parted 59 cs ≡ line
cells_parted e line cs q = (rw q at (whole_from e Fresh line)).0

pub faulty_from_one : (e : Edition) (line : Bytes) (n : ℕ) → cut e line ≡ faulty n → 1 ≤ n
faulty_from_one e line n q = rw q at (whole_from e Fresh line)

-- fields, step by step ------------------------------------------------------------------------------------------------------

-- whether a field ends at a place
abbrev pub ends_at : Bytes → ℕ → Bool
ends_at line i = whether ltb i (length line) then eqb (get_or line i 0) 9 else true
