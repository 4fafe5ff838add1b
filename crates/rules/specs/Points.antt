-- Books in which a known point's stop is known.
-- Inner: no promise and no contract of a public function speaks of it.
use Rattle.std.specs.Prelude.{Bool, true, ◌≡◌}
use Rattle.words.specs.Words.{all}
use Rattle.refusals.specs.Verdicts.{passes}
use Rattle.tables.specs.declared.Table.TheVariants.{StopPoint, VehicleType, Depot, Stop, Block, Calendar}
use Rattle.tables.specs.declared.Table.{Table}
use Rattle.book.specs.Book.{Book}
use Rattle.book.specs.Result.{Result, refused, leaves}
use Rattle.rules.specs.Rules.{unknown}

-- "A stop point must name a known stop": all of them do
abbrev pub points_named : Book → Bool
points_named b = all (λ x. passes (unknown StopPoint x b)) b.points

-- a block's stops need no search of their own where each known point names a known stop
abbrev pub Referable : Table → Book → Type 0
Referable VehicleType b = Unit {0}
Referable Depot b = Unit {0}
Referable Stop b = Unit {0}
Referable StopPoint b = Unit {0}
Referable Block b = points_named b ≡ true
Referable Calendar b = Unit {0}

-- a book that is left has no stop point without its stop
abbrev pub NamedIn : Result → Type 0
NamedIn (refused p) = Unit {0}
NamedIn (leaves b) = points_named b ≡ true
