-- `delivery::read_by` meets its contract: what the tables come to on a book without rows, and the empty book behind a refusal. Assumes nothing.
use Rattle.table_reading.proofs.Taking.{sound_empty, book_empty}
use Rattle.delivery.specs.Calls.{delivery}
use Rattle.delivery.proofs.Reading.{begun_again, read_accepted, read_refused}
use Rattle.delivery.proofs.read_by.Goals as goal

pub take_tables-verdict-requires : goal.take_tables-verdict-requires
take_tables-verdict-requires c = let e = c.args.edition in (sound_empty e _ c.begin.ensures, begun_again e _ (book_empty e _ c.begin.ensures))

pub returns-in-Ok : goal.returns-in-Ok
returns-in-Ok c =
    let a = c.args in
    read_accepted a.edition (delivery a.types.now a.depots.now a.stops.now a.points.now a.blocks.now a.days.now) _ (book_empty a.edition _ c.begin.ensures) c.take_tables-verdict.result _ c.take_tables-verdict.ensures.1 c.in-Ok.is c.take_tables-verdict.ensures.0

pub returns-in-Err : goal.returns-in-Err
returns-in-Err c =
    let a = c.args in
    read_refused a.edition (delivery a.types.now a.depots.now a.stops.now a.points.now a.blocks.now a.days.now) _ (book_empty a.edition _ c.begin.ensures) c.take_tables-verdict.result _ c.take_tables-verdict.ensures.1 _ c.in-Err.is _ c.clear.ensures
