-- The figures of the tables: what the constant tables hold is what the definition lists, and the bounds that callers need. Assumes nothing.
use mathlib.Core.Path.{◌≡◌, refl, ap, sym, ◌∙◌}
use mathlib.Core.Bool.{Bool, true, false, ◌&&◌}
use mathlib.Core.List.{List, [], ◌∷◌}
use Prim.Native.Nat.{◌<◌, ℕ, zero, suc, ◌≤◌}
use native.Mathlib.Omega.{arith}
use lib.Dec.{lit≤, leb}
use lib.ListN.{length, get_or, take}
use lib.Seq.{get_or-take}
use borrow.Author.Tests.{leb-true}
use Rattle.words.proofs.Lists.{every, every_at, and_left, and_right}
use Rattle.editions.specs.declared.Edition.{Edition}
use Rattle.editions.specs.declared.Edition.TheVariants.{Dino21, Dino23}
use Rattle.tables.specs.declared.Table.{Table}
use Rattle.tables.specs.declared.Table.TheVariants.{VehicleType, Depot, Stop, StopPoint, Block, Calendar}
use Rattle.tables.specs.Parts.{part_of}
use Rattle.tables.specs.Columns.{columns_of, key_width, kept_width, column_at, version, Column, no_column}
use Rattle.tables.specs.declared.Sort.{Sort}
use Rattle.tables.specs.declared.Sort.TheVariants.{Decimal, Text}

-- the code's tables -----------------------------------------------------------------------------------------------------------

pub part_below : (t : Table) → part_of t < 6
part_below VehicleType = lit≤ tt
part_below Depot = lit≤ tt
part_below Stop = lit≤ tt
part_below StopPoint = lit≤ tt
part_below Block = lit≤ tt
part_below Calendar = lit≤ tt

-- bounds ----------------------------------------------------------------------------------------------------------------------

pub columns_few : (e : Edition) (t : Table) → length (columns_of e t) ≤ 12
unfolding columns_of
columns_few Dino21 VehicleType = lit≤ tt
columns_few Dino23 VehicleType = lit≤ tt
columns_few Dino21 Depot = lit≤ tt
columns_few Dino23 Depot = lit≤ tt
columns_few Dino21 Stop = lit≤ tt
columns_few Dino23 Stop = lit≤ tt
columns_few Dino21 StopPoint = lit≤ tt
columns_few Dino23 StopPoint = lit≤ tt
columns_few Dino21 Block = lit≤ tt
columns_few Dino23 Block = lit≤ tt
columns_few Dino21 Calendar = lit≤ tt
columns_few Dino23 Calendar = lit≤ tt

pub keys_some : (t : Table) → 1 ≤ key_width t
keys_some VehicleType = lit≤ tt
keys_some Depot = lit≤ tt
keys_some Stop = lit≤ tt
keys_some StopPoint = lit≤ tt
keys_some Block = lit≤ tt
keys_some Calendar = lit≤ tt

pub keys_kept : (t : Table) → key_width t ≤ kept_width t
keys_kept VehicleType = lit≤ tt
keys_kept Depot = lit≤ tt
keys_kept Stop = lit≤ tt
keys_kept StopPoint = lit≤ tt
keys_kept Block = lit≤ tt
keys_kept Calendar = lit≤ tt

pub kept_columns : (e : Edition) (t : Table) → kept_width t ≤ length (columns_of e t)
unfolding columns_of
kept_columns Dino21 VehicleType = lit≤ tt
kept_columns Dino23 VehicleType = lit≤ tt
kept_columns Dino21 Depot = lit≤ tt
kept_columns Dino23 Depot = lit≤ tt
kept_columns Dino21 Stop = lit≤ tt
kept_columns Dino23 Stop = lit≤ tt
kept_columns Dino21 StopPoint = lit≤ tt
kept_columns Dino23 StopPoint = lit≤ tt
kept_columns Dino21 Block = lit≤ tt
kept_columns Dino23 Block = lit≤ tt
kept_columns Dino21 Calendar = lit≤ tt
kept_columns Dino23 Calendar = lit≤ tt

pub kept_few : (t : Table) → kept_width t ≤ 11
kept_few VehicleType = lit≤ tt
kept_few Depot = lit≤ tt
kept_few Stop = lit≤ tt
kept_few StopPoint = lit≤ tt
kept_few Block = lit≤ tt
kept_few Calendar = lit≤ tt

-- the columns' rules ------------------------------------------------------------------------------------------------------------

-- VERSION comes first, from 1 on
pub first_version : (e : Edition) (t : Table) → column_at e t 0 ≡ version
unfolding columns_of
first_version e VehicleType = refl
first_version e Depot = refl
first_version e Stop = refl
first_version e StopPoint = refl
first_version e Block = refl
first_version e Calendar = refl

pub version_low : (e : Edition) (t : Table) → (column_at e t 0).rules.low ≡ 1
version_low e t = ap (λ (x : Column). x.rules.low) (first_version e t)

-- a decimal column has at most nine digits
abbrev narrow : Sort → ℕ → Bool
narrow Decimal w = leb w 9
narrow Text w = true

all_narrow : (e : Edition) (t : Table) → every (λ x. narrow x.rules.sort x.rules.width) (columns_of e t) ≡ true
unfolding columns_of
all_narrow Dino21 VehicleType = refl
all_narrow Dino23 VehicleType = refl
all_narrow Dino21 Depot = refl
all_narrow Dino23 Depot = refl
all_narrow Dino21 Stop = refl
all_narrow Dino23 Stop = refl
all_narrow Dino21 StopPoint = refl
all_narrow Dino23 StopPoint = refl
all_narrow Dino21 Block = refl
all_narrow Dino23 Block = refl
all_narrow Dino21 Calendar = refl
all_narrow Dino23 Calendar = refl

pub decimal_width : (e : Edition) (t : Table) (i : ℕ) → (column_at e t i).rules.sort ≡ Decimal → (column_at e t i).rules.width ≤ 9
decimal_width e t i d =
    let h : narrow (column_at e t i).rules.sort (column_at e t i).rules.width ≡ true = every_at (λ (x : Column). narrow x.rules.sort x.rules.width) no_column (columns_of e t) refl (all_narrow e t) i in
    leb-true (column_at e t i).rules.width 9 (rw d at h)

-- what the book keeps of a row, its key first, are required numbers
abbrev decimal : Sort → Bool
decimal Decimal = true
decimal Text = false

decimal_true : (s : Sort) → decimal s ≡ true → s ≡ Decimal
decimal_true Decimal e = refl
decimal_true Text e = cc

abbrev asked : Column → Bool
asked x = decimal x.rules.sort && x.rules.required

all_asked : (e : Edition) (t : Table) → every asked (take (kept_width t) (columns_of e t)) ≡ true
unfolding columns_of
all_asked Dino21 VehicleType = refl
all_asked Dino23 VehicleType = refl
all_asked Dino21 Depot = refl
all_asked Dino23 Depot = refl
all_asked Dino21 Stop = refl
all_asked Dino23 Stop = refl
all_asked Dino21 StopPoint = refl
all_asked Dino23 StopPoint = refl
all_asked Dino21 Block = refl
all_asked Dino23 Block = refl
all_asked Dino21 Calendar = refl
all_asked Dino23 Calendar = refl

kept_asked : (e : Edition) (t : Table) (i : ℕ) → i < kept_width t → asked (column_at e t i) ≡ true
kept_asked e t i h =
    let f : get_or (take (kept_width t) (columns_of e t)) i version ≡ get_or (columns_of e t) i version = get_or-take (kept_width t) (columns_of e t) i version h in
    ap asked (sym (f ∙ past (columns_of e t) i (omega (arith, kept_columns e t)))) ∙ every_at asked version (take (kept_width t) (columns_of e t)) refl (all_asked e t) i
  where
    past : (xs : List Column) (k : ℕ) → k < length xs → get_or xs k version ≡ get_or xs k no_column
    past [] k l = absurd (omega arith)
    past (x ∷ xs) zero l = refl
    past (x ∷ xs) (suc k) l = past xs k (omega arith)

pub kept_decimal : (e : Edition) (t : Table) (i : ℕ) → i < kept_width t → (column_at e t i).rules.sort ≡ Decimal
kept_decimal e t i h = decimal_true (column_at e t i).rules.sort (and_left (decimal (column_at e t i).rules.sort) (column_at e t i).rules.required (kept_asked e t i h))

pub kept_required : (e : Edition) (t : Table) (i : ℕ) → i < kept_width t → (column_at e t i).rules.required ≡ true
kept_required e t i h = and_right (decimal (column_at e t i).rules.sort) (column_at e t i).rules.required (kept_asked e t i h)
