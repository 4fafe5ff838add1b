-- The fields of a slip line.
use Rattle.std.specs.Prelude.{List, [], ◌∷◌, eqb}
use Rattle.words.specs.Words.{Bytes, whether◌then◌else◌}
use Rattle.lines.specs.Lines.{onto}

-- "Lines of tab-parted fields": 9 is the tab
unfoldable pub fields : Bytes → List Bytes
fields [] = [] ∷ []
fields (b ∷ bs) = whether eqb b 9 then [] ∷ fields bs else onto b (fields bs)
