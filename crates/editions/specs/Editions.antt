-- The edition of a delivery.
use Rattle.std.specs.Prelude.{ℕ, eqb, Option, Some, None}
use Rattle.words.specs.Words.{whether◌then◌else◌}
use Rattle.editions.specs.declared.Edition.{Edition}
use Rattle.editions.specs.declared.Edition.TheVariants.{Dino21, Dino23}

-- "both editions stay, chosen by the caller for a whole delivery": 21 and 23 are their numbers
abbrev pub choice : ℕ → Option Edition
choice n = whether eqb n 21 then Some Dino21 else whether eqb n 23 then Some Dino23 else None
