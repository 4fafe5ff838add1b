-- Rows counted or weighed one by one, and what a row entered, replaced or removed changes of it. Assumes nothing.
use Prim.Native.Nat.{ℕ, ◌+◌}
use native.Mathlib.Omega.{arith}
use mathlib.Core.Path.{◌≡◌, refl}
use mathlib.Core.Bool.{Bool, true, false}
use mathlib.Core.List.{List, [], ◌∷◌, ◌++◌}
use Rattle.words.specs.Words.{Row, whether◌then◌else◌, same}
use Rattle.std.specs.declared.cmp.Ordering.{Ordering}
use Rattle.std.specs.declared.cmp.Ordering.TheVariants.{Less, Equal, Greater}
use Rattle.rows.specs.Rows.{key_order, same_key, stands, found, inserted, replaced, removed}
use Rattle.questions.specs.Questions.{of_type, total}
use Rattle.promises.specs.Promises.{copies}

-- said once of anything that counts or weighs rows one by one
pub record Weighs (many : List Row → ℕ) : Type 0 where
  pub one : Row → ℕ
  pub nothing : many [] ≡ 0
  pub more : (x : Row) (xs : List Row) → many (x ∷ xs) ≡ one x + many xs

pub copies_weighs : (row : Row) → Weighs (copies row)
unfolding copies
copies_weighs row = record { one = λ x. whether same row x then 1 else 0; nothing = refl; more = λ x xs. refl }

pub total_weighs : (weight : Row → ℕ) (version type : ℕ) → Weighs (total weight version type)
unfolding total
total_weighs weight version type = record { one = λ x. whether of_type version type x then weight x else 0; nothing = refl; more = λ x xs. refl }

module _ (many : List Row → ℕ) (h : Weighs many) where
  pub many_more : (xs ys : List Row) → many (xs ++ ys) ≡ many xs + many ys
  many_more [] ys = omega (arith, h.nothing)
  many_more (x ∷ xs) ys = omega (arith, h.more x xs, h.more x (xs ++ ys), many_more xs ys)

  module _ (k : ℕ) (row : Row) where
    pub many_inserted : (xs : List Row) → stands k row xs ≡ false → many (inserted k row xs) ≡ many xs + many (row ∷ [])
    unfolding inserted stands
    many_inserted [] f = omega (arith, h.nothing)
    many_inserted (x ∷ xs) f = go (key_order k row x) refl (many_inserted xs)
      where
        go : (o : Ordering) → key_order k row x ≡ o → (stands k row xs ≡ false → many (inserted k row xs) ≡ many xs + many (row ∷ [])) →
            many (inserted k row (x ∷ xs)) ≡ many (x ∷ xs) + many (row ∷ [])
        go Less e ih = rw e (omega (arith, h.nothing, h.more row (x ∷ xs), h.more row []))
        go Equal e ih = let t : true ≡ false = rw e at f in let z : ◌≡◌ {A = ℕ} 0 1 = cc in absurd (omega arith)
        go Greater e ih = rw e (omega (arith, h.more x (inserted k row xs), h.more x xs, ih (rw e at f)))

    pub many_replaced : (xs : List Row) → stands k row xs ≡ true → many (replaced k row xs) + many (found k row xs ∷ []) ≡ many xs + many (row ∷ [])
    unfolding replaced found stands
    many_replaced [] f = let z : ◌≡◌ {A = ℕ} 0 1 = cc in absurd (omega arith)
    many_replaced (x ∷ xs) f = go (same_key k row x) refl (many_replaced xs)
      where
        go : (q : Bool) → same_key k row x ≡ q →
            (stands k row xs ≡ true → many (replaced k row xs) + many (found k row xs ∷ []) ≡ many xs + many (row ∷ [])) →
            many (replaced k row (x ∷ xs)) + many (found k row (x ∷ xs) ∷ []) ≡ many (x ∷ xs) + many (row ∷ [])
        go true e ih = rw e (omega (arith, h.nothing, h.more row xs, h.more row [], h.more x xs, h.more x []))
        go false e ih = rw e (omega (arith, h.more x (replaced k row xs), h.more x xs, ih (rw e at f)))

    pub many_removed : (xs : List Row) → stands k row xs ≡ true → many (removed k row xs) + many (found k row xs ∷ []) ≡ many xs
    unfolding removed found stands
    many_removed [] f = let z : ◌≡◌ {A = ℕ} 0 1 = cc in absurd (omega arith)
    many_removed (x ∷ xs) f = go (same_key k row x) refl (many_removed xs)
      where
        go : (q : Bool) → same_key k row x ≡ q →
            (stands k row xs ≡ true → many (removed k row xs) + many (found k row xs ∷ []) ≡ many xs) →
            many (removed k row (x ∷ xs)) + many (found k row (x ∷ xs) ∷ []) ≡ many (x ∷ xs)
        go true e ih = rw e (omega (arith, h.nothing, h.more x xs, h.more x []))
        go false e ih = rw e (omega (arith, h.more x (removed k row xs), h.more x xs, ih (rw e at f)))
