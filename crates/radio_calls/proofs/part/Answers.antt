-- `radio_calls::part` meets its contract: it is not let in, or the bytes are taken. Assumes nothing.
use Rattle.std.proofs.lemmas.Result.{err_from_is_err_and}
use mathlib.Core.Path.{ap, sym, ◌∙◌}
use Rattle.std.specs.Prelude.{Ok}
use Rattle.radio.specs.Room.{outcome, first_heard, last_heard}
use Rattle.radio_rule.specs.Lent.{slices}
use Rattle.radio_slices.proofs.Hearing.{hears_so}
use Rattle.radio_calls.proofs.Turns.{let_in, no_part, part_in_turn}
use Rattle.radio_calls.proofs.part.Goals as goal

pub take_part-requires : goal.take_part-requires
take_part-requires c =
    let a = c.args in
    let l = let_in first_heard last_heard (slices a.book.now a.kept.now a.lines.now) _ c.admit-admitted.ensures c.in_ok-admitted.was in
    hears_so a.book.now a.kept.now a.lines.now l.keeps l.low

pub returns-in_err-admitted : goal.returns-in_err-admitted
returns-in_err-admitted c =
    let a = c.args in
    let p = err_from_is_err_and c.from_residual.result c.from_residual.ensures.1 in
    rw (p.1, p.2) (no_part (slices a.book.now a.kept.now a.lines.now) _ _ c.in_err-admitted.was c.admit-admitted.ensures a.bytes.now)

pub returns : goal.returns
returns c =
    let a = c.args in
    let l = let_in first_heard last_heard (slices a.book.now a.kept.now a.lines.now) _ c.admit-admitted.ensures c.in_ok-admitted.was in
    ap (outcome (Ok tt)) c.take_part.ensures ∙ sym (part_in_turn (slices a.book.now a.kept.now a.lines.now) l.keeps l.low a.bytes.now)
