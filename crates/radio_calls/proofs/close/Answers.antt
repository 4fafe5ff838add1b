-- `radio_calls::close` meets its contract: it is not let in, or the table is closed. Assumes nothing.
use Rattle.std.proofs.lemmas.Result.{err_from_is_err_and}
use mathlib.Core.Path.{sym, ◌∙◌}
use Rattle.radio.specs.Room.{first_heard, last_heard}
use Rattle.radio_rule.specs.Lent.{slices}
use Rattle.radio_slices.proofs.Hearing.{hears_so}
use Rattle.radio_calls.proofs.Turns.{let_in, no_close, close_in_turn}
use Rattle.radio_calls.proofs.close.Goals as goal

pub close_heard-requires : goal.close_heard-requires
close_heard-requires c =
    let a = c.args in
    let l = let_in first_heard last_heard (slices a.book.now a.kept.now a.lines.now) _ c.admit.ensures c.in_ok-admit.was in
    hears_so a.book.now a.kept.now a.lines.now l.keeps l.low

pub returns-in_err-admit : goal.returns-in_err-admit
returns-in_err-admit c =
    let a = c.args in
    let p = err_from_is_err_and c.from_residual.result c.from_residual.ensures.1 in
    rw (p.1, p.2) (no_close (slices a.book.now a.kept.now a.lines.now) _ _ c.in_err-admit.was c.admit.ensures)

pub returns : goal.returns
returns c =
    let a = c.args in
    let l = let_in first_heard last_heard (slices a.book.now a.kept.now a.lines.now) _ c.admit.ensures c.in_ok-admit.was in
    c.close_heard.ensures ∙ sym (close_in_turn (slices a.book.now a.kept.now a.lines.now) l.keeps l.low)
