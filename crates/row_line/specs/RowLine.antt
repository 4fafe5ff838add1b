-- The row of a line behind the header.
use Rattle.std.specs.Prelude.{List, map, take}
use Rattle.words.specs.Words.{Bytes, Row}
use Rattle.cells.specs.Cells.{cut, cells_of}
use Rattle.numbers.specs.Numbers.{value}
use Rattle.rows.specs.Rows.{wide}
use Rattle.editions.specs.declared.Edition.{Edition}
use Rattle.tables.specs.Columns.{kept_width}
use Rattle.tables.specs.declared.Table.{Table}
use Rattle.header.specs.Header.{Header, contents}

-- the row that the book keeps of contents
abbrev pub row_of : Table → List Bytes → Row
row_of t ss = wide (map value (take (kept_width t) ss))

-- the row of a line
abbrev pub row_read : Edition → Table → Header → Bytes → Row
row_read e t h line = row_of t (contents e t h (cells_of (cut e line)))
