-- The words that several programs share.
-- Inner: no promise and no contract of a public function speaks of it.
use Rattle.std.specs.Prelude.{List, ℕ, ◌++◌, codes, decimal}
use Rattle.editions.specs.declared.Edition.{Edition}
use Rattle.editions.specs.declared.Edition.TheVariants.{Dino21, Dino23}
use Rattle.refusals.specs.declared.Place.{Place}

-- the name of an edition
abbrev pub edition_named : Edition → List ℕ
edition_named Dino21 = codes "DINO 2.1"
edition_named Dino23 = codes "DINO 2.3"

-- "`X` with number, table, line, column", parted by tabs, of which 9 is the byte
abbrev pub refusal_line : Place → List ℕ
refusal_line p =
    codes "X" ++ codes "\t" ++ decimal p.number ++ codes "\t" ++ decimal p.table ++ codes "\t" ++ decimal p.line ++ codes "\t"
    ++ decimal p.column
