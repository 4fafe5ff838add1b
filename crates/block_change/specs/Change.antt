-- A line of a slip, judged on a book, and what it leaves.
use Rattle.std.specs.Prelude.{not, List}
use Rattle.words.specs.Words.{Row, Bytes}
use Rattle.refusals.specs.Verdicts.{◌when◌, no_block, ◌⊳◌, too_many_rows, ends_early, unknown_line, Check}
use Rattle.fields.specs.Fields.{fields}
use Rattle.rows.specs.Rows.{replaced, removed}
use Rattle.tables.specs.Columns.{key_width}
use Rattle.tables.specs.declared.Table.TheVariants.{Block}
use Rattle.book.specs.Book.{Book, knows, full, entered, with_rows}
use Rattle.rules.specs.Rules.{time_fault, unknown, ruled}
use Rattle.slip_line.specs.declared.Wish.{Wish}
use Rattle.slip_line.specs.declared.Wish.TheVariants.{Add, Replace, Delete, Unknown}
use Rattle.slip_line.specs.SlipLine.{bad_field, numbers, wish, row_in}

-- 13: "slip names a block not in the book"
abbrev pub missing_block : Row → Book → Check
missing_block row b = no_block when not (knows Block row b)

-- "per line: A: 12, 5, 8, 11, 9, 10. R: 12, 8, 11, 13, 10. D: 12, 8, 13."; 19, 20 and 21 "keep 8's place". `row` are the numbers of the fields `fs`,
-- "slips being judged by the delivery's edition, which the book keeps"
abbrev pub line_judged : Wish → List Bytes → Row → Book → Check
line_judged Unknown fs row b = unknown_line
line_judged Add fs row b =
    too_many_rows when full Block b
    ⊳ bad_field b.edition fs
    ⊳ ruled Block row b
line_judged Replace fs row b =
    bad_field b.edition fs
    ⊳ ends_early when time_fault Block row
    ⊳ missing_block row b
    ⊳ unknown Block row b
line_judged Delete fs row b =
    bad_field b.edition fs
    ⊳ missing_block row b

-- the book behind a line that is accepted
abbrev pub granted : Wish → Row → Book → Book
granted Unknown row b = b
granted Add row b = entered Block row b
granted Replace row b = with_rows Block (replaced (key_width Block) row b.blocks) b
granted Delete row b = with_rows Block (removed (key_width Block) row b.blocks) b

-- a line, and what it leaves
abbrev pub slip_check : Bytes → Book → Check
slip_check line b = line_judged (wish (fields line)) (numbers (fields line)) (row_in line) b

abbrev pub slip_leaves : Bytes → Book → Book
slip_leaves line b = granted (wish (fields line)) (row_in line) b
