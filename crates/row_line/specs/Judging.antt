-- What the code reads a line by, and what it finds there.
-- Inner: no promise and no contract of a public function speaks of it.
use Rattle.std.specs.Prelude.{List, ◌≡◌, ℕ, ◌≤◌, length, Ok}
use Rattle.words.specs.Words.{Bytes}
use Rattle.refusals.specs.Verdicts.{◌⊳◌, Check}
use Rattle.cells.specs.Cells.{cut, cells_of}
use Rattle.cells.specs.Numbered.{MarksOf}
use Rattle.editions.specs.declared.Edition.{Edition}
use Rattle.tables.specs.Columns.{columns_of}
use Rattle.tables.specs.declared.Table.{Table}
use Rattle.tables.specs.Listing.{listed}
use Rattle.values.specs.Values.{bad_cell}
use Rattle.values.specs.declared.Judged.{Judged}
use Rattle.values.specs.Judged.{rowed}
use Rattle.header.specs.Header.{Header, cut_check, contents, most_cells}
use Rattle.header.specs.Heading.{places, cells_kept}
use Rattle.row_line.specs.RowLine.{row_read}

-- 17, 6 and 7 of a row under a header of so many cells; where it passes, the bounds of its cells are kept
pub record CutOf (e : Edition) (line : Bytes) (count : ℕ) (bounds : List ℕ) (c : Check) : Type 0 where
  pub is : (h : Header) → count ≡ length h → c ≡ cut_check e h line
  pub marks : c ≡ Ok tt → MarksOf e line bounds count

-- what is wrong with a line's cells
abbrev pub cells_check : Edition → Table → Header → Bytes → Check
cells_check e t h line = bad_cell 1 (columns_of e t) (contents e t h (cells_of (cut e line)))

-- 17, 6, 7 and what is wrong with a cell, without a look at the book
abbrev pub read : Edition → Table → Header → Bytes → Judged
read e t h line = rowed (cut_check e h line ⊳ cells_check e t h line) (row_read e t h line)

-- rows are read by their table's columns and by the places of a header, which has few cells
pub record Guided (e : Edition) (t : Table) (columns : List (List ℕ)) (at : List ℕ) : Type 0 where
  pub rules : columns ≡ listed e t
  pub few : cells_kept at ≤ most_cells
  pub headed : (h : Header) × (at ≡ places h)
