-- What is written line by line is read line by line. Assumes nothing.
use mathlib.Core.Path.{◌≡◌, refl, ap, ◌∙◌}
use mathlib.Core.List.{[], ◌∷◌, List, ◌++◌}
use mathlib.Core.Bool.{false, Bool, true, not, ◌&&◌, ◌||◌}
use Prim.Native.Nat.{ℕ}
use native.Mathlib.Omega.{arith}
use lib.Dec.{eqb, ltb}
use borrow.Author.Tests.{not-true}
use Rattle.words.specs.Words.{Bytes, whether◌then◌else◌}
use Rattle.words.proofs.Lists.{and_left, and_right}
use Rattle.editions.specs.declared.Edition.{Edition}
use Rattle.editions.specs.declared.Edition.TheVariants.{Dino21, Dino23}
use Rattle.cells.specs.Cells.{inside, next}
use Rattle.cells.specs.declared.Kind.TheVariants.{Semicolon, Control, Other}
use Rattle.cells.specs.declared.State.{State}
use Rattle.cells.specs.declared.State.TheVariants.{Fresh, Plain, Inside, Closed, Over, Fault}
use Rattle.lines.specs.Lines.{lines, lines_from, onto, quoting, resumed, breaks, feeds}
use Rattle.lines.proofs.Lining.{from_on}
use Rattle.writer.specs.Writing.{lines_written}

-- no line feed, no carriage return, no quote
unfoldable pub Unbroken : Bytes → Type 0
Unbroken [] = Unit {0}
Unbroken (b ∷ bs) = (eqb b 10 ≡ false) × (eqb b 13 ≡ false) × (eqb b 34 ≡ false) × Unbroken bs

unfoldable pub EachUnbroken : List Bytes → Type 0
EachUnbroken [] = Unit {0}
EachUnbroken (l ∷ ls) = Unbroken l × EachUnbroken ls

-- without a quote no cell stands inside quotes
unquoted_on : (s : State) (b : ℕ) → inside s ≡ false → eqb b 34 ≡ false → inside (quoting s b) ≡ false
unquoted_on s b h n = rw n (go s (eqb b 59) (ltb b 32 || eqb b 127) h)
  where
    go : (q : State) (m c : Bool) → inside q ≡ false → inside (resumed q (next q (whether m then Semicolon else whether c then Control else Other))) ≡ false
    go Fresh true c k = refl
    go Fresh false true k = refl
    go Fresh false false k = refl
    go Plain true c k = refl
    go Plain false true k = refl
    go Plain false false k = refl
    go Inside m c k = let z : ◌≡◌ {A = ℕ} 0 1 = cc in absurd (omega arith)
    go Closed true c k = refl
    go Closed false true k = refl
    go Closed false false k = refl
    go Over m c k = refl
    go Fault m c k = refl

-- a line behind which a line feed stands
lines_first : (e : Edition) (s : State) (l rest : Bytes) → inside s ≡ false → Unbroken l → lines_from e s (l ++ (10 ∷ rest)) ≡ l ∷ lines_from e Fresh rest
unfolding lines_from Unbroken
lines_first e s [] rest k h = rw k
lines_first e s (b ∷ bs) rest k h =
    rw (h.0, h.1)
    (from_on (quoting s b) (λ t. onto b (lines_from e t (bs ++ (10 ∷ rest)))) ∙ ap (onto b) (lines_first e (quoting s b) bs rest (unquoted_on s b k h.2) h.3))

pub lines_written_lem : (e : Edition) (ls : List Bytes) → EachUnbroken ls → lines e (lines_written ls) ≡ ls
unfolding lines_written EachUnbroken lines_from
lines_written_lem e [] h = refl
lines_written_lem e (l ∷ ls) h = lines_first e Fresh l (lines_written ls) refl h.0 ∙ rw (lines_written_lem e ls h.1)

-- and it has no break
pub unbroken_breaks : (e : Edition) (l : Bytes) → Unbroken l → breaks e l ≡ 0
unfolding Unbroken feeds
unbroken_breaks Dino21 l h = refl
unbroken_breaks Dino23 [] h = refl
unbroken_breaks Dino23 (b ∷ bs) h = rw h.0 (unbroken_breaks Dino23 bs h.3)

pub unbroken_append : (s t : Bytes) → Unbroken s → Unbroken t → Unbroken (s ++ t)
unfolding Unbroken
unbroken_append [] t h k = k
unbroken_append (b ∷ bs) t h k = (h.0, h.1, h.2, unbroken_append bs t h.3 k)

-- the same by a test
unfoldable pub unbroken_test : Bytes → Bool
unbroken_test [] = true
unbroken_test (b ∷ bs) = not (eqb b 10) && (not (eqb b 13) && (not (eqb b 34) && unbroken_test bs))

pub tested : (s : Bytes) → unbroken_test s ≡ true → Unbroken s
unfolding unbroken_test Unbroken
tested [] h = tt
tested (b ∷ bs) h =
    let rest = and_right (not (eqb b 10)) (not (eqb b 13) && (not (eqb b 34) && unbroken_test bs)) h in
    let more = and_right (not (eqb b 13)) (not (eqb b 34) && unbroken_test bs) rest in (
      not-true (eqb b 10) (and_left (not (eqb b 10)) (not (eqb b 13) && (not (eqb b 34) && unbroken_test bs)) h),
      not-true (eqb b 13) (and_left (not (eqb b 13)) (not (eqb b 34) && unbroken_test bs) rest),
      not-true (eqb b 34) (and_left (not (eqb b 34)) (unbroken_test bs) more),
      tested bs (and_right (not (eqb b 34)) (unbroken_test bs) more),
    )
