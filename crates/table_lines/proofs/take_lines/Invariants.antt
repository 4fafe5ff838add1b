-- `table_lines::take_lines` meets its contract: each line is taken on the book as the earlier ones left it. Assumes nothing.
use mathlib.Core.Path.{◌≡◌}
use mathlib.Core.List.{List}
use Prim.Native.Nat.{ℕ, ◌+◌, ◌-◌, ◌≤◌}
use lib.ListN.{length, drop}
use Rattle.std.specs.Prelude.{Ok}
use Rattle.lines.specs.Lines.{lines}
use Rattle.tables.specs.Columns.{number}
use Rattle.book.specs.Room.{book_of}
use Rattle.intake.specs.Shelving.{shelf_book, OnShelf}
use Rattle.header.specs.Heading.{places}
use Rattle.table_lines.specs.Reading.{rows_read}
use Rattle.table_lines.specs.Taking.{lines_after}
use Rattle.table_lines.proofs.take_lines.Given as goal

abbrev pub invariant-rows : goal.invariant-rows
invariant-rows l =
    (l.i ≤ length l.bytes) × (l.line ≤ l.initial.line + l.i) × (l.verdict ≡ Ok tt) × OnShelf l.t l.book l.slots l.order l.count × (length l.bounds ≡ length l.initial.bounds) × (l.table ≡ number l.t)
    × ((h : List ℕ) → l.at ≡ places h → rows_read l.t h l.initial.line (lines (book_of l.book).edition l.bytes) (shelf_book l.t l.book l.initial.slots l.initial.order l.initial.count) ≡ rows_read l.t h l.line (lines (book_of l.book).edition (drop l.i l.bytes)) (shelf_book l.t l.book l.slots l.order l.count))
    × (lines_after (book_of l.book).edition l.initial.line (lines (book_of l.book).edition l.bytes) ≡ lines_after (book_of l.book).edition l.line (lines (book_of l.book).edition (drop l.i l.bytes)))
    × (l.edition ≡ (book_of l.book).edition)

abbrev pub decreases-rows : goal.decreases-rows
decreases-rows l = length l.bytes - l.i
