-- The reading of a table.
use Rattle.words.specs.Words.{Bytes}
use Rattle.lines.specs.Lines.{line_after, lines, head_line, row_lines}
use Rattle.tables.specs.declared.Table.{Table}
use Rattle.book.specs.Book.{Book}
use Rattle.book.specs.Result.{Result, unless}
use Rattle.header.specs.Header.{header_of, top_faults}
use Rattle.table_lines.specs.Reading.{rows_read}

-- "then line by line", behind the header's line
unfoldable pub table_read : Table → Bytes → Book → Result
table_read t s b = unless (top_faults b.edition t s) (rows_read t (header_of b.edition t s) (line_after b.edition 1 (head_line (lines b.edition s))) (row_lines (lines b.edition s)) b)
