-- What a slip line asks for, by its fields. Assumes nothing.
use mathlib.Core.Path.{◌≡◌, refl, sym, ap, ◌∙◌}
use mathlib.Core.List.{[], ◌∷◌, List, map}
use mathlib.Core.Bool.{Bool, true, false, ◌&&◌}
use Prim.Native.Nat.{ℕ, suc, ◌-◌, ◌≤◌, ◌<◌}
use native.Mathlib.Omega.{arith}
use lib.Dec.{eqb, lit≤}
use lib.ListN.{length, get_or}
use borrow.Author.Tests.{eqb-true, ne_eqb}
use Rattle.words.specs.Words.{Bytes, same, bytes, whether◌then◌else◌, Row}
use Rattle.words.proofs.Lists.{same_length}
use Rattle.refusals.specs.Verdicts.{◌⊳◌, Check}
use Rattle.std.specs.Prelude.{Ok, Err}
use Rattle.cells.proofs.Marking.{Stands}
use Rattle.numbers.specs.Numbers.{value}
use Rattle.fields.specs.Fields.{fields}
use Rattle.fields.specs.declared.Fields.{Fields}
use Rattle.fields.proofs.Cutting.{fields_some, field_stands}
use Rattle.rows.specs.Rows.{wide}
use Rattle.editions.specs.declared.Edition.{Edition}
use Rattle.values.specs.Judged.{rowed}
use Rattle.values.specs.declared.Judged.{Judged}
use Rattle.slip_line.specs.SlipLine.{letter, counted, wish, numbers, bad_field}
use Rattle.slip_line.specs.declared.Wish.TheVariants.{Add, Replace, Delete, Unknown}
use Rattle.slip_line.specs.declared.Wish.{Wish}
use Rattle.slip_line.specs.Marks.{FieldsOf, fields_read}

-- kinds -------------------------------------------------------------------------------------------------------------------------

one_byte : (f : Bytes) (b : ℕ) → length f ≡ 1 → eqb (get_or f 0 0) b ≡ same f (b ∷ [])
unfolding same
one_byte [] b e = absurd (omega arith)
one_byte (x ∷ []) b e = go (eqb x b)
  where
    go : (t : Bool) → t ≡ (t && true)
    go true = refl
    go false = refl
one_byte (x ∷ (y ∷ ys)) b e = absurd (omega arith)

module _ (f : Bytes) where
  pub letter_other : (length f ≡ 1 → ⊥) → Unknown ≡ letter f
  unfolding bytes
  letter_other n = rw (same_length f (65 ∷ []) n, same_length f (82 ∷ []) n, same_length f (68 ∷ []) n)

  module _ (n : length f ≡ 1) where
    pub letter_add : get_or f 0 0 ≡ 65 → Add ≡ letter f
    unfolding bytes
    letter_add e = rw (← one_byte f 65 n, e)

    pub letter_replace : get_or f 0 0 ≡ 82 → Replace ≡ letter f
    unfolding bytes
    letter_replace e = rw (← one_byte f 65 n, ← one_byte f 82 n, e)

    pub letter_delete : get_or f 0 0 ≡ 68 → Delete ≡ letter f
    unfolding bytes
    letter_delete e = rw (← one_byte f 65 n, ← one_byte f 82 n, ← one_byte f 68 n, e)

    pub letter_unknown : (get_or f 0 0 ≡ 65 → ⊥) → (get_or f 0 0 ≡ 82 → ⊥) → (get_or f 0 0 ≡ 68 → ⊥) → Unknown ≡ letter f
    unfolding bytes
    letter_unknown a r d = rw (← one_byte f 65 n, ← one_byte f 82 n, ← one_byte f 68 n, ne_eqb _ _ a, ne_eqb _ _ r, ne_eqb _ _ d)

wish_first : (fs : List Bytes) → 1 ≤ length fs → wish fs ≡ counted (letter (get_or fs 0 [])) (length fs - 1)
wish_first [] h = absurd (omega arith)
wish_first (f ∷ fs) h = let e : suc (length fs) - 1 ≡ length fs = omega arith in rw e

-- how many numbers a line of a kind has
abbrev size : Wish → ℕ
size Add = 11
size Replace = 11
size Delete = 4
size Unknown = 0

counted_size : (w : Wish) (n : ℕ) → counted w n ≡ (whether eqb n (size w) then w else Unknown)
counted_size Add n = refl
counted_size Replace n = refl
counted_size Delete n = refl
counted_size Unknown n = go (eqb n 0)
  where
    go : (t : Bool) → Unknown ≡ (whether t then Unknown else Unknown)
    go true = refl
    go false = refl

sized : (w : Wish) (n : ℕ) (v : Wish) → counted w n ≡ v → (v ≡ Unknown → ⊥) → n ≡ size v
sized w n v e known = go (eqb n (size w)) refl (sym (counted_size w n) ∙ e)
  where
    go : (t : Bool) → eqb n (size w) ≡ t → (whether t then w else Unknown) ≡ v → n ≡ size v
    go true q p = eqb-true n (size w) q ∙ ap size p
    go false q p = absurd (known (sym p))

-- no kind has more numbers than a block
size_few : (w : Wish) → size w ≤ 11
size_few Add = lit≤ tt
size_few Replace = lit≤ tt
size_few Delete = lit≤ tt
size_few Unknown = lit≤ tt

counted_many : (w : Wish) (n : ℕ) → 11 < n → counted w n ≡ Unknown
counted_many w n h = counted_size w n ∙ rw (ne_eqb n (size w) (λ e. omega (arith, size_few w)))

pub wish_size : (fs : List Bytes) (v : Wish) → wish fs ≡ v → (v ≡ Unknown → ⊥) → length (numbers fs) ≡ size v
wish_size [] v e known = absurd (known (sym e))
wish_size (f ∷ fs) v e known = sized (letter f) (length fs) v e known

-- what the marks of a line say
module _ (line : Bytes) (marks : Fields) (m : FieldsOf line marks) where
  pub marks_some : 1 ≤ marks.count
  marks_some = rw m.0 (fields_some line)

  counted_first : wish (fields line) ≡ counted (letter (get_or (fields line) 0 [])) (marks.count - 1)
  counted_first = rw m.0 (wish_first (fields line) (fields_some line))

  pub wish_many : 11 < marks.count - 1 → Unknown ≡ wish (fields line)
  wish_many h = sym (counted_first ∙ counted_many (letter (get_or (fields line) 0 [])) (marks.count - 1) h)

  -- the first field of no more than 12 stands between the first bounds
  pub first_stands : marks.count - 1 ≤ 11 → Stands line (get_or marks.bounds 0 0) (get_or marks.bounds 1 0) (get_or (fields line) 0 [])
  first_stands few = field_stands line 13 marks.bounds 0 m.1 (omega (arith, m.0)) (omega (arith, fields_some line))

  pub wish_marked : (f : Bytes) (w v : Wish) → f ≡ get_or (fields line) 0 [] → w ≡ letter f → v ≡ counted w (marks.count - 1) → v ≡ wish (fields line)
  wish_marked f w v p q h = h ∙ ap (λ (x : Wish). counted x (marks.count - 1)) (q ∙ ap letter p) ∙ sym counted_first

-- a check of the row behind that of the fields
pub read_then : (ed : Edition) (f : Row → Check) (fs : List Bytes) (j : Judged) → j ≡ fields_read ed fs → f (wide (map value fs)) ≡ f (map value fs)
    → j.check ⊳ f j.row ≡ bad_field ed fs ⊳ f (map value fs)
read_then ed f fs j e g = rw e (go (bad_field ed fs))
  where
    go : (q : Check) → (rowed q (wide (map value fs))).check ⊳ f (rowed q (wide (map value fs))).row ≡ q ⊳ f (map value fs)
    go (Ok _) = g
    go (Err f) = refl
