-- What the code finds at the top of a text.
-- Inner: no promise and no contract of a public function speaks of it.
use Rattle.std.specs.Prelude.{◌≡◌, ◌≤◌, length, drop, Ok}
use Rattle.words.specs.Words.{Bytes}
use Rattle.lines.specs.Lines.{line_after, head_line, lines, row_lines, line_start, most_bytes}
use Rattle.editions.specs.declared.Edition.{Edition}
use Rattle.tables.specs.declared.Table.{Table}
use Rattle.header.specs.Header.{header_of, top_faults, most_cells}
use Rattle.header.specs.Heading.{places, cells_kept}
use Rattle.header.specs.declared.Top.{Top}

-- the top of a text that has no fault: it is not too long, its header is kept, and its rows begin at `next`, where the line begins on which the
-- first one starts
pub record TopKept (e : Edition) (t : Table) (s : Bytes) (top : Top) : Type 0 where
  pub short : length s ≤ most_bytes
  pub few : cells_kept top.at ≤ most_cells
  pub headed : top.at ≡ places (header_of e t s)
  pub inside : top.next ≤ length s
  pub rest : lines e (drop top.next s) ≡ row_lines (lines e s)
  pub first : top.line ≡ line_after e 1 (head_line (lines e s))
  pub start : top.next ≡ line_start top.line s

pub record TopOf (e : Edition) (t : Table) (s : Bytes) (top : Top) : Type 0 where
  pub is : top.verdict ≡ top_faults e t s
  pub kept : top.verdict ≡ Ok tt → TopKept e t s top
