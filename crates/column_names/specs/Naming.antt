-- How a name is found in the text that holds a table's names: `columnNumber` is what a reader believes.
-- Inner: no promise and no contract of a public function speaks of it.
use Rattle.std.specs.Prelude.{List, [], ◌∷◌, ℕ, suc, eqb}
use Rattle.words.specs.Words.{Bytes, whether◌then◌else◌, same}
use Rattle.lines.specs.Lines.{onto}

-- the names of a text in which 59, the semicolon, parts them
unfoldable pub names_in : Bytes → List Bytes
names_in [] = [] ∷ []
names_in (b ∷ bs) = whether eqb b 59 then [] ∷ names_in bs else onto b (names_in bs)

-- the number of a name among others, the first of them being number k; 0 where it is none of them
unfoldable pub number_in : ℕ → List Bytes → Bytes → ℕ
number_in k [] name = 0
number_in k (x ∷ xs) name = whether same name x then k else number_in (suc k) xs name
