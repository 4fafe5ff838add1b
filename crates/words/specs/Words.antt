-- Words that all the definitions use.
use Rattle.std.specs.Prelude.{List, [], ◌∷◌, Bool, true, false, ◌&&◌, ℕ, eqb}
use Prim.Native.String.{◌∷◌ as ◌then◌, String, [] as none}
use Prim.Native.Char.{code}

-- a text, a line, a cell, a field, a name: bytes
abbrev pub Bytes : Type 0
Bytes = List ℕ

-- a row's numbers, in the order of its table's columns
abbrev pub Row : Type 0
Row = List ℕ

abbrev pub whether◌then◌else◌ {ℓ} : {A : Type ℓ} → Bool → A → A → A
whether true then a else b = a
whether false then a else b = b

infix 10 whether◌then◌else◌
-- the bytes of a quoted text: a character stands for the byte of its code
unfoldable pub bytes : String → Bytes
bytes none = []
bytes (c then s) = code c ∷ bytes s

-- byte for byte, number for number
unfoldable pub same : List ℕ → List ℕ → Bool
same [] [] = true
same [] (y ∷ ys) = false
same (x ∷ xs) [] = false
same (x ∷ xs) (y ∷ ys) = eqb x y && same xs ys

unfoldable pub all {ℓ} : {A : Type ℓ} → (A → Bool) → List A → Bool
all f [] = true
all f (x ∷ xs) = f x && all f xs
