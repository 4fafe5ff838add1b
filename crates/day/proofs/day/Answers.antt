-- `day::day` meets its contract: 16 of the working area, the reading, and the slip behind an accepted one. Assumes nothing.
use Rattle.std.specs.Prelude.{Err}
use mathlib.Core.Path.{ap, ◌∙◌}
use Rattle.refusals.specs.Verdicts.{placed}
use Rattle.slips.proofs.Posting.{work_cleared}
use Rattle.day.proofs.Days.{day_unsized, day_slip, day_refused}
use Rattle.day.proofs.day.Goals as goal

pub returns-then-work-ne-ROWS : goal.returns-then-work-ne-ROWS
returns-then-work-ne-ROWS c =
    let st = c in
    let s = st.args.slip.now in
    let xs = st.args.book.now in
    let work = st.args.work.now in
    let emptying = c.empty_book in
    day_unsized st.args.edition _ s xs work (Err c.on.result) emptying.new.book c.if-work-ne-ROWS.true (c.on.ensures ∙ ap (placed 0 0) c.bad_loan.ensures) emptying.ensures

pub returns-in-Ok : goal.returns-in-Ok
returns-in-Ok c =
    let st = c in
    let s = st.args.slip.now in
    let xs = st.args.book.now in
    let work = st.args.work.now in
    let read = c.read in
    day_slip st.args.edition _ s xs work c.if-work-ne-ROWS.false read.result read.new.book read.ensures _ c.in-Ok.is c.slip.ensures

pub returns-in-Err : goal.returns-in-Err
returns-in-Err c =
    let st = c in
    let s = st.args.slip.now in
    let xs = st.args.book.now in
    let work = st.args.work.now in
    let read = c.read in
    let sized = c.if-work-ne-ROWS.false in
    day_refused st.args.edition _ s xs work sized read.result read.new.book read.ensures c.in-Err.place _ c.in-Err.is (work_cleared work _ _ sized sized c.clear.ensures)
