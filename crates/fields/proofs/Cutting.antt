-- How fields are cut step by step, that they make up the line, and where they stand on it. Assumes nothing.
use mathlib.Core.Path.{◌≡◌, refl, sym, subst, ap, ◌∙◌}
use mathlib.Core.List.{List, [], ◌∷◌}
use mathlib.Core.Bool.{Bool, true, false}
use Prim.Native.Nat.{ℕ, ◌≤◌, ◌+◌, ◌<◌, suc}
use native.Mathlib.Omega.{arith}
use lib.ListN.{length, drop, get_or, drop_of_length-le}
use lib.Dec.{eqb, ltb}
use borrow.Author.Tests.{eqb-true, lt-ltb, ltb-true}
use Rattle.words.specs.Words.{Bytes, whether◌then◌else◌}
use Rattle.words.proofs.Lists.{drop_step}
use Rattle.lines.specs.Lines.{onto}
use Rattle.cells.specs.Cells.{cells, grown, Cut, parted, after}
use Rattle.cells.specs.Marks.{BoundsOf}
use Rattle.cells.proofs.Cutting.{Whole, whole_grown, whole_after, ends_at}
use Rattle.cells.proofs.Marking.{Stands, stands_on}
use Rattle.fields.specs.Fields.{fields}

onto_grown : (b : ℕ) (fs : List Bytes) → 1 ≤ length fs → cells (onto b fs) ≡ grown b (cells fs)
onto_grown b [] h = absurd (let z : ⊥ = omega arith in z)
onto_grown b (f ∷ fs) h = refl

whole_fields : (bs : Bytes) → Whole 9 (cells (fields bs)) bs
unfolding fields parted
whole_fields [] = (refl, omega arith)
whole_fields (b ∷ bs) = go (eqb b 9) refl (whole_fields bs)
  where
    go : (t : Bool) → eqb b 9 ≡ t → Whole 9 (cells (fields bs)) bs → Whole 9 (cells (whether t then [] ∷ fields bs else onto b (fields bs))) (b ∷ bs)
    go true q w = rw (eqb-true b 9 q) (whole_after 9 (cells (fields bs)) bs w)
    go false q w = subst (λ (u : Cut). Whole 9 u (b ∷ bs)) (sym (onto_grown b (fields bs) w.1)) (whole_grown 9 b (cells (fields bs)) bs w)

pub fields_parted : (line : Bytes) → parted 9 (fields line) ≡ line
fields_parted line = (whole_fields line).0

pub fields_some : (line : Bytes) → 1 ≤ length (fields line)
fields_some line = (whole_fields line).1

module _ (line : Bytes) (i : ℕ) where
  fields_byte : i < length line → fields (drop i line) ≡ (whether ends_at line i then [] ∷ fields (drop (i + 1) line) else onto (get_or line i 0) (fields (drop (i + 1) line)))
  unfolding fields
  fields_byte h = rw (drop_step 0 line i h, lt-ltb i (length line) h)

  pub fields_tab : i < length line → ends_at line i ≡ true → cells (fields (drop i line)) ≡ after (cells (fields (drop (i + 1) line)))
  fields_tab h e = ap cells (fields_byte h) ∙ rw e

  pub fields_last : length line ≤ i → cells (fields (drop i line)) ≡ after (cells [])
  unfolding fields
  fields_last h = rw (drop_of_length-le line h)

  pub goes_on_inside : ends_at line i ≡ false → i < length line
  goes_on_inside e = go (ltb i (length line)) refl
    where
      go : (t : Bool) → ltb i (length line) ≡ t → i < length line
      go true q = ltb-true i (length line) q
      go false q = let y : ends_at line i ≡ true = rw q in let z : ◌≡◌ {A = ℕ} 0 1 = cc in let w : ⊥ = omega arith in absurd w

  pub fields_go : ends_at line i ≡ false → cells (fields (drop i line)) ≡ grown (get_or line i 0) (cells (fields (drop (i + 1) line)))
  fields_go e = ap cells (fields_byte (goes_on_inside e)) ∙ rw e (onto_grown (get_or line i 0) (fields (drop (i + 1) line)) (fields_some (drop (i + 1) line)))

pub field_stands : (line : Bytes) (room : ℕ) (bounds : List ℕ) (k : ℕ) → BoundsOf (fields line) room bounds → length (fields line) < room → k < length (fields line) →
    Stands line (get_or bounds k 0) (get_or bounds (suc k) 0) (get_or (fields line) k [])
field_stands line room bounds k = stands_on 9 line (fields line) room bounds k (fields_parted line)
