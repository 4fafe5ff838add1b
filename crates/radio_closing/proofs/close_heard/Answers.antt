-- `radio_closing::close_heard` meets its contract. Assumes nothing.
use Rattle.radio_closing.proofs.Settled.{closed}
use borrow.Author.Rules.{rules}
use Rattle.radio_closing.proofs.close_heard.Goals as goal

pub settle-requires : goal.settle-requires
settle-requires c =
    let h = c.requires in
    record { rows = search rules; numbers = h.numbers; bytes = search rules; heard = h.heard; last = h.last; sound = λ e. c.close_table-verdict.ensures.sound e }

pub returns : goal.returns
returns c =
    let a = c.args in
    closed a.book.now a.kept.now a.lines.now _ c.table_heard-t.ensures _ _ c.close_table-verdict.ensures _ c.settle.ensures
