-- A shelf: rows in slots that do not move, and beside them the slots by rising key. The first n slots of the order are used, the others free.
-- Inner: no promise and no contract of a public function speaks of it.
use Rattle.std.specs.Prelude.{List, [], map, ◌∷◌, ◌≡◌, ℕ, zero, suc, ◌<◌, ◌≤◌, get_or, take, length}
use Rattle.words.specs.Words.{Row}

-- the rows of a shelf, by rising key
abbrev pub shelved : List Row → List ℕ → ℕ → List Row
shelved slots order n = map (λ i. get_or slots i []) (take n order)

-- i, i + 1, ..: n numbers
unfoldable pub up_from : ℕ → ℕ → List ℕ
up_from i zero = []
up_from i (suc n) = i ∷ up_from (suc i) n

-- a number is none of these
unfoldable pub NoneOf : ℕ → List ℕ → Type 0
NoneOf i [] = Unit {0}
NoneOf i (j ∷ js) = (i ≡ j → ⊥) × NoneOf i js

-- no number comes twice
unfoldable pub Apart : List ℕ → Type 0
Apart [] = Unit {0}
Apart (i ∷ is) = NoneOf i is × Apart is

-- each number is below m
unfoldable pub AllBelow : ℕ → List ℕ → Type 0
AllBelow m [] = Unit {0}
AllBelow m (i ∷ is) = (i < m) × AllBelow m is

-- the order names each slot once
pub record Shelf (slots : List Row) (order : List ℕ) (n : ℕ) : Type 0 where
  pub long : length order ≡ length slots
  pub within : AllBelow (length slots) order
  pub apart : Apart order
  pub few : n ≤ length slots
