-- The definitions set to run: under `unfolding computed` antt computes them.
use Rattle.words.specs.Words.{bytes, same, all}
use Rattle.lines.specs.Lines.{lines_from, slip_lines, feeds, line_after, starts_on, row_on, line_start}
use Rattle.cells.specs.Cells.{cut_from, once, parted}
use Rattle.numbers.specs.Numbers.{all_digits, value_from, digits}
use Rattle.fields.specs.Fields.{fields}
use Rattle.rows.specs.Rows.{order_from, stands, found, inserted, replaced, removed, rising}
use Rattle.rows.specs.Room.{used, same_rows}
use Rattle.tables.specs.Columns.{columns_of, column_from, column_number}
use Rattle.values.specs.Values.{bad_cell}
use Rattle.rules.specs.Rules.{unknown_of}
use Rattle.keeping.specs.Keeping.{ranged}
use Rattle.questions.specs.Questions.{total}
use Rattle.header.specs.Header.{member, repeated, missing_from, header_check, under, offset, contents_from}
use Rattle.table_lines.specs.Reading.{judged, rows_read}
use Rattle.table_reading.specs.Reading.{table_read}
use Rattle.delivery.specs.Delivery.{reading}
use Rattle.cell_question.specs.CellQuestion.{first_above, cell_verdict, table_cell, cell_asked}
use Rattle.slips.specs.Slips.{lines_posted, posting}
use Rattle.writer.specs.Writing.{lines_written}
use Rattle.promises.specs.Sheet.{sheet}

unfoldable pub computed {ℓ} : {A : Type ℓ} → A → A
unfolding bytes same lines_from slip_lines feeds starts_on row_on line_start cut_from once all_digits value_from digits fields parted columns_of column_from column_number
    order_from stands found inserted replaced removed rising used same_rows unknown_of total ranged all member repeated missing_from header_check
    under offset contents_from bad_cell judged line_after rows_read table_read reading first_above cell_verdict table_cell cell_asked lines_posted posting lines_written sheet
computed x = x
