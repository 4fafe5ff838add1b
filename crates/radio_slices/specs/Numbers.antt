-- What a call leaves in the slices: the numbers that it writes, in the order in which they are kept.
-- Inner: no promise and no contract of a public function speaks of it.
use Rattle.std.specs.Prelude.{List, [], ◌∷◌, ℕ, ◌+◌, ◌-◌}
use Rattle.refusals.specs.declared.Place.{Place}
use Rattle.editions.specs.declared.Edition.{Edition}
use Rattle.editions.specs.declared.Edition.TheVariants.{Dino21}
use Rattle.book.specs.Book.{empty_by}
use Rattle.book.specs.Room.{laid}
use Rattle.book.specs.Result.{refused}
use Rattle.radio.specs.Room.{Slices, laid_fault, two_lines, first_heard, turn_of, flag_of, place_of, laid_place}
use Rattle.radio_rule.specs.Lent.{slices}

-- the empty book of an edition, no line, and these numbers
abbrev pub empty_slices : Edition → List ℕ → Slices
empty_slices e ns = slices (laid (empty_by e)) ns (two_lines [] [])

-- behind a fault: the turn, the counts, and the fault; the book is of "2.1 after a refused reading"
abbrev pub stopped_slices : ℕ → ℕ → ℕ → Place → Slices
stopped_slices turn a n p = empty_slices Dino21 (turn ∷ a ∷ n ∷ 0 ∷ 0 ∷ 0 ∷ laid_fault (refused p))

-- a table is announced: its turn, its length, no byte; its first line, where there is no fault; and the fault as it stands
abbrev pub numbers_announced : ℕ → List ℕ → List ℕ
numbers_announced a ns =
    (turn_of ns + first_heard) ∷ a ∷ 0 ∷ (1 - flag_of ns) ∷ 0 ∷ 0
    ∷ flag_of ns ∷ laid_place (place_of ns)
