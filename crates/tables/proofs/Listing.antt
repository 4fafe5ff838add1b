-- Columns that are listed as numbers are read back as they were. Assumes nothing.
use mathlib.Core.List.{List, [], ◌∷◌}
use mathlib.Core.Path.{◌≡◌, refl, ap, ◌∙◌}
use mathlib.Core.Bool.{Bool, true, false}
use Prim.Native.Nat.{ℕ, zero, suc, ◌<◌}
use native.Mathlib.Omega.{arith}
use lib.Dec.{eqb}
use lib.ListN.{get_or}
use Rattle.words.specs.Words.{whether◌then◌else◌}
use Rattle.tables.specs.declared.Sort.TheVariants.{Decimal, Text}
use Rattle.tables.specs.declared.Rules.{Rules}
use Rattle.tables.specs.declared.Sort.{Sort}
use Rattle.tables.specs.Listing.{seven, listing, listed, chosen}
use Rattle.tables.specs.Columns.{Column, no_column, columns_of, column_at}
use Rattle.editions.specs.declared.Edition.{Edition}
use Rattle.editions.specs.declared.Edition.TheVariants.{Dino21, Dino23}
use Rattle.tables.specs.declared.Table.{Table}

-- a column read back from its seven numbers
abbrev pub rules_of : List ℕ → Rules
rules_of ns =
    record { sort = whether eqb (get_or ns 0 0) 0 then Decimal else Text; width = get_or ns 1 0; low = get_or ns 2 0; high = get_or ns 3 0; key = eqb (get_or ns 4 0) 1; required = eqb (get_or ns 5 0) 1; date = eqb (get_or ns 6 0) 1 }

seven_back : (x : Rules) → rules_of (seven x) ≡ x
seven_back x = go x.sort x.width x.low x.high x.key x.required x.date
  where
    go : (s : Sort) (w l h : ℕ) (k q d : Bool) → rules_of (seven (record { sort = s; width = w; low = l; high = h; key = k; required = q; date = d })) ≡ record { sort = s; width = w; low = l; high = h; key = k; required = q; date = d }
    go Decimal w l h true true true = refl
    go Decimal w l h true true false = refl
    go Decimal w l h true false true = refl
    go Decimal w l h true false false = refl
    go Decimal w l h false true true = refl
    go Decimal w l h false true false = refl
    go Decimal w l h false false true = refl
    go Decimal w l h false false false = refl
    go Text w l h true true true = refl
    go Text w l h true true false = refl
    go Text w l h true false true = refl
    go Text w l h true false false = refl
    go Text w l h false true true = refl
    go Text w l h false true false = refl
    go Text w l h false false true = refl
    go Text w l h false false false = refl

listing_at : (n : ℕ) (xs : List Column) (i : ℕ) → i < n → get_or (listing n xs) i [] ≡ seven (get_or xs i no_column).rules
unfolding listing
listing_at zero xs i h = absurd (omega (arith, h))
listing_at (suc n) [] zero h = refl
listing_at (suc n) (x ∷ xs) zero h = refl
listing_at (suc n) [] (suc i) h = listing_at n [] i (omega (arith, h))
listing_at (suc n) (x ∷ xs) (suc i) h = listing_at n xs i (omega (arith, h))

-- a table's column, read from what the table hands out
pub listed_back : (e : Edition) (t : Table) (ns : List (List ℕ)) (i : ℕ) → i < 12 → ns ≡ listed e t → rules_of (get_or ns i []) ≡ (column_at e t i).rules
unfolding listed
listed_back e t ns i h q =
    ap (λ (l : List (List ℕ)). rules_of (get_or l i [])) q ∙ (ap rules_of (listing_at 12 (columns_of e t) i h) ∙ seven_back (column_at e t i).rules)

-- what differs by edition
pub chosen_listed : (e : Edition) (t : Table) → chosen e (listed Dino21 t) (listed Dino23 t) ≡ listed e t
chosen_listed Dino21 t = refl
chosen_listed Dino23 t = refl
