-- A name is found among those that semicolons part, and a table's names so written are those of its columns. Assumes nothing.
use mathlib.Core.Path.{◌≡◌, refl, ◌∙◌, ap, sym}
use mathlib.Core.List.{[], ◌∷◌, List, map}
use mathlib.Core.Bool.{Bool, true, false, ◌||◌}
use Prim.Native.Nat.{ℕ, ◌<◌, zero, suc, ◌+◌, ◌≤◌}
use native.Mathlib.Omega.{arith}
use lib.ListN.{length, get_or}
use lib.Dec.{eqb}
use Rattle.std.specs.Prelude.{cond}
use Rattle.std.specs.Cmp.Lexicographic.{pointwise}
use Rattle.std.specs.List.{slice_split, onto_first, AllWithin, HoldsAt}
use Rattle.words.specs.Words.{Bytes, whether◌then◌else◌, same, bytes}
use Rattle.words.proofs.Lists.{every, same_true, and_left, and_right}
use Rattle.lines.specs.Lines.{onto}
use Rattle.cells.specs.Cells.{parted}
use Rattle.editions.specs.declared.Edition.{Edition}
use Rattle.editions.specs.declared.Edition.TheVariants.{Dino21, Dino23}
use Rattle.tables.specs.declared.Table.{Table}
use Rattle.tables.specs.Columns.{columns_of, column_from, column_number, Column}
use Rattle.tables.specs.declared.Table.TheVariants.{VehicleType, Depot, Stop, StopPoint, Block, Calendar}
use Rattle.column_names.specs.Naming.{names_in, number_in}

-- the test of two names byte for byte is `same`
pub alike : (xs ys : Bytes) → pointwise eqb xs ys ≡ same xs ys
unfolding same
alike [] [] = refl
alike [] (y ∷ ys) = refl
alike (x ∷ xs) [] = refl
alike (x ∷ xs) (y ∷ ys) = rw (alike xs ys)

-- the names are what the text parts into at its semicolons
names_split : (s : Bytes) → names_in s ≡ slice_split (λ b. eqb b 59) s
unfolding names_in
names_split [] = refl
names_split (b ∷ bs) = go (eqb b 59) (names_split bs)
  where
    first : (l : List Bytes) → onto b l ≡ onto_first b l
    first [] = refl
    first (x ∷ xs) = refl

    go : (t : Bool) → names_in bs ≡ slice_split (λ b. eqb b 59) bs
        → (whether t then [] ∷ names_in bs else onto b (names_in bs)) ≡ cond t ([] ∷ slice_split (λ b. eqb b 59) bs) (onto_first b (slice_split (λ b. eqb b 59) bs))
    go true ih = rw ih
    go false ih = rw ih (first (slice_split (λ b. eqb b 59) bs))

-- a name at a place, and at none before it; or at no place
number_at : (k : ℕ) (xs : List Bytes) (name : Bytes) (i : ℕ) → i < length xs → ((d : Bytes) → same name (get_or xs i d) ≡ true)
    → ((j : ℕ) (d : Bytes) → 0 ≤ j → j < i → same name (get_or xs j d) ≡ false) → number_in k xs name ≡ i + k
unfolding number_in
number_at k [] name i h e f = absurd (omega arith)
number_at k (x ∷ xs) name zero h e f = let t : same name x ≡ true = e [] in rw t (omega arith)
number_at k (x ∷ xs) name (suc i) h e f =
    let t : same name x ≡ false = f 0 [] (omega arith) (omega arith) in
    let s : i + suc k ≡ suc i + k = omega arith in
    rw t (number_at (suc k) xs name i (omega arith) (λ d. e d) (λ j d a b. f (suc j) d (omega arith) (omega arith)) ∙ s)

number_none : (k : ℕ) (xs : List Bytes) (name : Bytes) → ((j : ℕ) (d : Bytes) → 0 ≤ j → j < length xs → same name (get_or xs j d) ≡ false) → number_in k xs name ≡ 0
unfolding number_in
number_none k [] name f = refl
number_none k (x ∷ xs) name f =
    let t : same name x ≡ false = f 0 [] (omega arith) (omega arith) in
    rw t (number_none (suc k) xs name (λ j d a b. f (suc j) d (omega arith) (omega arith)))

module _ (s name : Bytes) where
  abbrev pub parts : List Bytes
  parts = slice_split (λ b. eqb b 59) s

  pub place_at : (i : ℕ) → (i < length parts) × HoldsAt (λ x. pointwise eqb name x ≡ true) parts i × AllWithin (λ x. pointwise eqb name x ≡ false) parts 0 i → i + 1 ≡ number_in 1 (names_in s) name
  place_at i h =
      sym (ap (λ (l : List Bytes). number_in 1 l name) (names_split s)
      ∙ number_at 1 parts name i h.0 (λ d. sym (alike name (get_or parts i d)) ∙ h.1 d) (λ j d a b. sym (alike name (get_or parts j d)) ∙ h.2 j d a b))

  pub place_none : AllWithin (λ x. pointwise eqb name x ≡ false) parts 0 (length parts) → 0 ≡ number_in 1 (names_in s) name
  place_none h =
      sym (ap (λ (l : List Bytes). number_in 1 l name) (names_split s) ∙ number_none 1 parts name (λ j d a b. sym (alike name (get_or parts j d)) ∙ h j d a b))

-- a table's names ------------------------------------------------------------------------------------------------------------

-- the names of a table's columns, as its header is written
abbrev pub header_of : Edition → Table → Bytes
header_of e t = parted 59 (map (λ x. x.name) (columns_of e t))

header_names : (e : Edition) (t : Table) → names_in (header_of e t) ≡ map (λ x. x.name) (columns_of e t)
unfolding names_in parted columns_of bytes
header_names Dino21 VehicleType = refl
header_names Dino23 VehicleType = refl
header_names Dino21 Depot = refl
header_names Dino23 Depot = refl
header_names Dino21 Stop = refl
header_names Dino23 Stop = refl
header_names Dino21 StopPoint = refl
header_names Dino23 StopPoint = refl
header_names Dino21 Block = refl
header_names Dino23 Block = refl
header_names Dino21 Calendar = refl
header_names Dino23 Calendar = refl

-- "Two other spellings are read as the same column": the other name of a table, if any, and the column for which it stands
abbrev pub other_name : Table → Bytes
other_name VehicleType = bytes "HANDICAP_PLACES"
other_name Depot = []
other_name Stop = []
other_name StopPoint = []
other_name Block = bytes "VEH_TYPE_NR"
other_name Calendar = []

abbrev pub other_column : Table → ℕ
other_column VehicleType = 5
other_column Depot = 0
other_column Stop = 0
other_column StopPoint = 0
other_column Block = 5
other_column Calendar = 0

other_number : (e : Edition) (t : Table) → column_number e t (other_name t) ≡ other_column t
unfolding column_number column_from columns_of bytes same
other_number Dino21 VehicleType = refl
other_number Dino23 VehicleType = refl
other_number Dino21 Depot = refl
other_number Dino23 Depot = refl
other_number Dino21 Stop = refl
other_number Dino23 Stop = refl
other_number Dino21 StopPoint = refl
other_number Dino23 StopPoint = refl
other_number Dino21 Block = refl
other_number Dino23 Block = refl
other_number Dino21 Calendar = refl
other_number Dino23 Calendar = refl

-- no column has a third name
abbrev spelled : Bytes → Column → Bool
spelled o x = same x.other x.name || same x.other o

all_spelled : (e : Edition) (t : Table) → every (spelled (other_name t)) (columns_of e t) ≡ true
unfolding columns_of bytes same
all_spelled Dino21 VehicleType = refl
all_spelled Dino23 VehicleType = refl
all_spelled Dino21 Depot = refl
all_spelled Dino23 Depot = refl
all_spelled Dino21 Stop = refl
all_spelled Dino23 Stop = refl
all_spelled Dino21 StopPoint = refl
all_spelled Dino23 StopPoint = refl
all_spelled Dino21 Block = refl
all_spelled Dino23 Block = refl
all_spelled Dino21 Calendar = refl
all_spelled Dino23 Calendar = refl

by_name : (o name : Bytes) (x : Column) → same name o ≡ false → spelled o x ≡ true → (same name x.name || same name x.other) ≡ same name x.name
by_name o name x h e = go (same x.other x.name) refl e
  where
    first : (a b : Bool) → b ≡ false → (a || b) ≡ a
    first true b q = refl
    first false b q = q

    both : (a : Bool) → (a || a) ≡ a
    both true = refl
    both false = refl

    go : (t : Bool) → same x.other x.name ≡ t → (t || same x.other o) ≡ true → (same name x.name || same name x.other) ≡ same name x.name
    go true q s = rw (same_true x.other x.name q) (both (same name x.name))
    go false q s = first (same name x.name) (same name x.other) (rw (same_true x.other o s) h)

by_names : (o name : Bytes) (k : ℕ) (xs : List Column) → same name o ≡ false → every (spelled o) xs ≡ true → column_from k xs name ≡ number_in k (map (λ x. x.name) xs) name
unfolding column_from number_in
by_names o name k [] h e = refl
by_names o name k (x ∷ xs) h e =
    rw (by_name o name x h (and_left (spelled o x) (every (spelled o) xs) e), by_names o name (suc k) xs h (and_right (spelled o x) (every (spelled o) xs) e))

-- what the code asks of a table's two texts is the column's number
pub named : (e : Edition) (t : Table) (name : Bytes) → (whether same name (other_name t) then other_column t else number_in 1 (names_in (header_of e t)) name) ≡ column_number e t name
unfolding column_number
named e t name = go (same name (other_name t)) refl
  where
    go : (b : Bool) → same name (other_name t) ≡ b → (whether b then other_column t else number_in 1 (names_in (header_of e t)) name) ≡ column_from 1 (columns_of e t) name
    go true q = rw (same_true name (other_name t) q) (sym (other_number e t))
    go false q = rw (header_names e t) (sym (by_names (other_name t) name 1 (columns_of e t) q (all_spelled e t)))

-- of a block by either edition
pub named_block : (e : Edition) (name : Bytes) → (whether same name (other_name Block) then other_column Block else number_in 1 (names_in (header_of Dino21 Block)) name) ≡ column_number e Block name
unfolding columns_of
named_block Dino21 name = named Dino21 Block name
named_block Dino23 name = named Dino23 Block name
