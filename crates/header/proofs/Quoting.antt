-- A name in quotes is the name. Assumes nothing.
use mathlib.Core.Path.{◌≡◌, refl, ap, ◌∙◌}
use mathlib.Core.List.{[], ◌∷◌, List}
use mathlib.Core.Bool.{Bool, true, false, ◌&&◌, not}
use Prim.Native.Nat.{ℕ, suc, ◌-◌}
use lib.Dec.{eqb}
use lib.ListN.{length, take, drop}
use borrow.Author.Tests.{eqb-true, not-true}
use Rattle.words.specs.Words.{Bytes, same, whether◌then◌else◌}
use Rattle.words.proofs.Lists.{and_left, and_right, every}
use Rattle.cells.specs.Cells.{once, quoted, stretch, content}
use Rattle.editions.specs.declared.Edition.{Edition}
use Rattle.tables.specs.Columns.{Column, column_from, columns_of, column_number}
use Rattle.tables.specs.declared.Table.{Table}
use Rattle.tables.proofs.Names.{quoteless, unquoted, all_unquoted}

pub same_once : (s n : Bytes) → quoteless n ≡ true → same (once false s) n ≡ same s n
unfolding same once
same_once [] n q = refl
same_once (b ∷ bs) [] q = refl
same_once (b ∷ bs) (y ∷ ys) q = go (eqb b y) refl (same_once bs ys (and_right (not (eqb y 34)) (quoteless ys) q))
  where
    go : (t : Bool) → eqb b y ≡ t → same (once false bs) ys ≡ same bs ys → (t && same (once (eqb b 34) bs) ys) ≡ (t && same bs ys)
    go true e ih =
        let h : eqb b 34 ≡ false = ap (λ (m : ℕ). eqb m 34) (eqb-true b y e) ∙ not-true (eqb y 34) (and_left (not (eqb y 34)) (quoteless ys) q) in
        rw h ih
    go false e ih = refl

from_once : (k : ℕ) (xs : List Column) (s : Bytes) → every unquoted xs ≡ true → column_from k xs (once false s) ≡ column_from k xs s
unfolding column_from
from_once k [] s e = refl
from_once k (x ∷ xs) s e =
    let u = and_left (unquoted x) (every unquoted xs) e in
    rw (same_once s x.name (and_left (quoteless x.name) (quoteless x.other) u), same_once s x.other (and_right (quoteless x.name) (quoteless x.other) u), from_once (suc k) xs s (and_right (unquoted x) (every unquoted xs) e))

pub number_once : (ed : Edition) (t : Table) (s : Bytes) → column_number ed t (once false s) ≡ column_number ed t s
unfolding column_number
number_once ed t s = from_once 1 (columns_of ed t) s (all_unquoted ed t)

pub number_of_content : (ed : Edition) (t : Table) (cell : Bytes) → column_number ed t (content cell) ≡ column_number ed t (stretch cell)
number_of_content ed t cell = go (quoted cell)
  where
    go : (b : Bool) → column_number ed t (whether b then once false (whether b then take (length cell - 2) (drop 1 cell) else cell) else cell) ≡ column_number ed t (whether b then take (length cell - 2) (drop 1 cell) else cell)
    go true = number_once ed t (take (length cell - 2) (drop 1 cell))
    go false = refl
