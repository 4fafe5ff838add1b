-- What the test of the rule shows of stop points. Assumes nothing.
use mathlib.Core.Path.{◌≡◌, refl}
use mathlib.Core.List.{List, [], ◌∷◌}
use mathlib.Core.Bool.{true, ◌&&◌, not}
use Prim.Native.Nat.{ℕ, zero, suc, ◌<◌}
use lib.ListN.{take, get_or}
use lib.Dec.{lit<}
use Rattle.words.specs.Words.{Row, same, all}
use Rattle.words.proofs.Lists.{and_left, and_right}
use Rattle.refusals.specs.Verdicts.{passes}
use Rattle.rows.specs.Rows.{wide}
use Rattle.tables.specs.Columns.{columns_of, kept_width}
use Rattle.tables.specs.declared.Table.TheVariants.{StopPoint, Calendar}
use Rattle.tables.specs.Parts.{tables}
use Rattle.book.specs.Book.{Book, rows}
use Rattle.rules.specs.Rules.{time_fault, unknown}
use Rattle.rules.specs.Points.{Referable}
use Rattle.keeping.specs.Keeping.{ranged, lawful}

-- the points of a lawful table all name their stops
pub points_named_lem : (b : Book) (xs : List Row) → all (lawful StopPoint b) xs ≡ true → all (λ x. passes (unknown StopPoint x b)) xs ≡ true
unfolding all
points_named_lem b [] e = refl
points_named_lem b (x ∷ xs) e =
    let front = same x (wide (take (kept_width StopPoint) x)) && ranged (columns_of b.edition StopPoint) (take (kept_width StopPoint) x) && not (time_fault StopPoint x) in
    let here : passes (unknown StopPoint x b) ≡ true = and_right front (passes (unknown StopPoint x b)) (and_left (lawful StopPoint b x) (all (lawful StopPoint b) xs) e) in
    rw (here, points_named_lem b xs (and_right (lawful StopPoint b x) (all (lawful StopPoint b) xs) e))

-- the tables are asked in their order: a block's references once the points have been
pub referable_next : (b : Book) (i : ℕ) → ((j : ℕ) → j < i → all (lawful (get_or tables j Calendar) b) (rows (get_or tables j Calendar) b) ≡ true) → Referable (get_or tables i Calendar) b
referable_next b zero h = tt
referable_next b (suc zero) h = tt
referable_next b (suc (suc zero)) h = tt
referable_next b (suc (suc (suc zero))) h = tt
referable_next b (suc (suc (suc (suc zero)))) h = points_named_lem b b.points (h 3 (lit< tt))
referable_next b (suc (suc (suc (suc (suc zero))))) h = tt
referable_next b (suc (suc (suc (suc (suc (suc i)))))) h = tt
