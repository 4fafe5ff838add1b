-- A key by its numbers alone finds what the row of it finds; the references of a row, one by one. Assumes nothing.
use mathlib.Core.Path.{◌≡◌, refl, sym, ap, ◌∙◌}
use mathlib.Core.List.{List, [], ◌∷◌}
use mathlib.Core.Bool.{Bool, true, false}
use Prim.Native.Nat.{ℕ, zero, suc, ◌-◌, ◌≤◌, ◌<◌, ◌+◌}
use native.Mathlib.Omega.{arith}
use lib.ListN.{length, get_or, drop, drop_of_length-le}
use lib.Dec.{lit≤, ltb}
use borrow.Author.Tests.{ltb-true}
use Rattle.words.specs.Words.{Row}
use Rattle.words.proofs.Lists.{get_d_padded, drop_step, every, and_left, and_right}
use Rattle.refusals.specs.Verdicts.{no_row, passes, key_stands, ends_early, Check}
use Rattle.std.specs.Prelude.{Ok, Err}
use Rattle.rows.specs.Rows.{wide, order_from, same_key, stands, found, column}
use Rattle.tables.specs.Columns.{references, ref, key_width}
use Rattle.tables.specs.declared.Table.{Table}
use Rattle.tables.specs.declared.Table.TheVariants.{VehicleType, Depot, Stop, StopPoint, Block, Calendar}
use Rattle.tables.specs.declared.Reference.{Reference}
use Rattle.tables.specs.Parts.{part_of}
use Rattle.book.specs.Book.{Book, knows, rows, with_rows}
use Rattle.book.proofs.Laying.{rows_apart}
use Rattle.rules.specs.Rules.{named, unknown_of, finds, unknown, time_fault, ruled}

order_wide : (n i : ℕ) (xs : List ℕ) (y : Row) → order_from n i (wide xs) y ≡ order_from n i xs y
unfolding order_from
order_wide zero i xs y = refl
order_wide (suc n) i xs y = rw (get_d_padded xs (11 - length xs) i, order_wide n (suc i) xs y)

module _ (k : ℕ) (xs : List ℕ) where
  pub same_key_wide : (y : Row) → same_key k (wide xs) y ≡ same_key k xs y
  same_key_wide y = rw (order_wide k 0 xs y)

  pub stands_wide : (rs : List Row) → stands k (wide xs) rs ≡ stands k xs rs
  unfolding stands
  stands_wide [] = refl
  stands_wide (r ∷ rs) = rw (same_key_wide r, stands_wide rs)

  pub found_wide : (rs : List Row) → found k (wide xs) rs ≡ found k xs rs
  unfolding found
  found_wide [] = refl
  found_wide (r ∷ rs) = rw (same_key_wide r, found_wide rs)

-- the column of a reference is one of the row's, behind VERSION
abbrev pub reference_of : Table → ℕ → Reference
reference_of t i = get_or (references t) i (ref 0 VehicleType)

-- the references one by one
module _ (t : Table) (row : Row) (b : Book) (i : ℕ) where
  abbrev pub there : Bool
  there = knows (reference_of t i).to (named (reference_of t i).to (reference_of t i).column row) b

  abbrev pub unknown_from : Check
  unknown_from = unknown_of (drop i (references t)) row b

  pub unknown_next : i < length (references t) → there ≡ true → unknown_from ≡ unknown_of (drop (i + 1) (references t)) row b
  unfolding unknown_of
  unknown_next h e = rw (drop_step (ref 0 VehicleType) (references t) i h, e)

  pub unknown_here : i < length (references t) → there ≡ false → unknown_from ≡ no_row (reference_of t i).column
  unfolding unknown_of
  unknown_here h e = rw (drop_step (ref 0 VehicleType) (references t) i h, e)

  pub unknown_end : length (references t) ≤ i → unknown_from ≡ Ok tt
  unfolding unknown_of
  unknown_end h = rw (drop_of_length-le (references t) {i = i} h)

-- a check that passes has no fault
pub passed : (c : Check) → passes c ≡ true → c ≡ Ok tt
passed (Ok _) h = refl
passed (Err f) h = let z : ◌≡◌ {A = ℕ} 0 1 = cc in absurd (omega arith)

-- one reference that finds no row is enough for a fault
pub one_missing : (row : Row) (b : Book) (xs : List Reference) (i : ℕ) → i < length xs → finds (get_or xs i (ref 0 VehicleType)) row b ≡ false → passes (unknown_of xs row b) ≡ false
unfolding unknown_of
one_missing row b [] i h e = absurd (omega arith)
one_missing row b (x ∷ xs) zero h e = rw e
one_missing row b (x ∷ xs) (suc i) h e = go (finds x row b) refl (one_missing row b xs i (omega arith) e)
  where
    go : (r : Bool) → finds x row b ≡ r → passes (unknown_of xs row b) ≡ false → passes (unknown_of (x ∷ xs) row b) ≡ false
    go true f ih = rw f ih
    go false f ih = rw f

-- one reference, as the code asks for it
pub asked_there : (t : Table) (row : Row) (b : Book) (i : ℕ) (x : Reference) (k : Row) (r : Bool) → x ≡ reference_of t i
    → k ≡ wide (named x.to x.column row) → r ≡ knows x.to k b → there t row b i ≡ r
asked_there t row b i x k r e f g =
    ap (λ (y : Reference). knows y.to (named y.to y.column row) b) (sym e)
    ∙ sym (g ∙ ap (λ (l : Row). knows x.to l b) f ∙ stands_wide (key_width x.to) _ (rows x.to b))

-- what is referred to is read before
refers_back : (t : Table) → every (λ x. ltb (part_of x.to) (part_of t)) (references t) ≡ true
refers_back VehicleType = refl
refers_back Depot = refl
refers_back Stop = refl
refers_back StopPoint = refl
refers_back Block = refl
refers_back Calendar = refl

known_alike : (n : ℕ) (b c : Book) → ((u : Table) → part_of u < n → rows u b ≡ rows u c) → (xs : List Reference) → every (λ x. ltb (part_of x.to) n) xs ≡ true →
    (row : Row) → unknown_of xs row b ≡ unknown_of xs row c
unfolding unknown_of
known_alike n b c e [] h row = refl
known_alike n b c e (x ∷ xs) h row =
    let here : ltb (part_of x.to) n ≡ true = and_left (ltb (part_of x.to) n) (every (λ x. ltb (part_of x.to) n) xs) h in
    rw (e x.to (ltb-true (part_of x.to) n here), known_alike n b c e xs (and_right (ltb (part_of x.to) n) (every (λ x. ltb (part_of x.to) n) xs) h) row)

-- so a row's references depend on the tables before its own alone
pub unknown_before : (t : Table) (b c : Book) → ((u : Table) → part_of u < part_of t → rows u b ≡ rows u c) → (row : Row) → unknown t row b ≡ unknown t row c
unknown_before t b c e row = known_alike (part_of t) b c e (references t) (refers_back t) row

pub unknown_with : (t : Table) (row : Row) (xs : List Row) (b : Book) → unknown t row (with_rows t xs b) ≡ unknown t row b
unknown_with t row xs b = unknown_before t (with_rows t xs b) b (λ u l. rows_apart t u xs b (λ e. omega arith)) row

-- the rules of a row, in their order
module _ (t : Table) (row : Row) (b : Book) where
  pub ruled_early : time_fault t row ≡ true → ruled t row b ≡ ends_early
  ruled_early e = rw e

  pub ruled_stands : time_fault t row ≡ false → knows t row b ≡ true → ruled t row b ≡ key_stands
  ruled_stands e f = rw (e, f)

  pub ruled_unknown : time_fault t row ≡ false → knows t row b ≡ false → ruled t row b ≡ unknown t row b
  ruled_unknown e f = rw (e, f)
