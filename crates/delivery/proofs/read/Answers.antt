-- `delivery::read` meets its contract: 16, 22, and the reading by the edition that was chosen. Assumes nothing.
use Rattle.std.specs.Prelude.{Err}
use mathlib.Core.Path.{sym, ap, ◌∙◌}
use Rattle.refusals.specs.Verdicts.{nowhere}
use Rattle.delivery.specs.Calls.{delivery}
use Rattle.delivery.proofs.Reading.{read_sized, read_unknown, read_chosen}
use Rattle.delivery.proofs.read.Goals as goal

pub returns-then-book-ne-BOOK_ROWS : goal.returns-then-book-ne-BOOK_ROWS
returns-then-book-ne-BOOK_ROWS c =
    let a = c.args in
    read_sized a.edition (delivery a.vehicle_type.now a.depot.now a.stop.now a.stop_point.now a.vehicle_block.now a.day_type_calendar.now) a.book.now c.if-book-ne-BOOK_ROWS.true (Err c.on.result) (c.on.ensures ∙ ap nowhere c.bad_loan.ensures)

pub returns-in-Some : goal.returns-in-Some
returns-in-Some c =
    let a = c.args in
    read_chosen a.edition (delivery a.vehicle_type.now a.depot.now a.stop.now a.stop_point.now a.vehicle_block.now a.day_type_calendar.now) a.book.now c.if-book-ne-BOOK_ROWS.false c.in-Some.e (sym c.in-Some.ensures) _ c.read_by.ensures

pub returns-in-None : goal.returns-in-None
returns-in-None c =
    let a = c.args in
    read_unknown a.edition (delivery a.vehicle_type.now a.depot.now a.stop.now a.stop_point.now a.vehicle_block.now a.day_type_calendar.now) a.book.now c.if-book-ne-BOOK_ROWS.false (sym c.in-None.ensures) (Err c.on-in-None.result) (c.on-in-None.ensures ∙ ap nowhere c.unknown_edition.ensures) _ c.clear.ensures
