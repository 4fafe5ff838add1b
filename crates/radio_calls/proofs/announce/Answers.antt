-- `radio_calls::announce` meets its contract: it is not let in, or the table begins. Assumes nothing.
use Rattle.std.proofs.lemmas.Result.{err_from_is_err_and}
use mathlib.Core.Path.{ap, ◌∙◌}
use mathlib.Core.List.{List}
use Prim.Native.Nat.{ℕ, ◌-◌}
use native.Mathlib.Omega.{arith}
use Rattle.std.specs.Prelude.{Ok}
use Rattle.radio.specs.Room.{outcome, all_closed}
use Rattle.radio_rule.specs.Lent.{slices}
use Rattle.radio_slices.proofs.Keeping.{numbers_long, fault_flag}
use Rattle.radio_calls.proofs.Turns.{let_in, not_announced}
use Rattle.radio_calls.proofs.Opening.{announced}
use Rattle.radio_calls.proofs.announce.Goals as goal

pub begin_table-requires : goal.begin_table-requires
begin_table-requires c =
    let a = c.args in
    let l = let_in 0 (all_closed - 1) (slices a.book.now a.kept.now a.lines.now) _ c.admit.ensures c.in_ok-admit.was in
    (numbers_long a.book.now a.kept.now a.lines.now l.keeps, omega (arith, l.high), fault_flag a.book.now a.kept.now a.lines.now l.keeps)

pub returns-in_err-admit : goal.returns-in_err-admit
returns-in_err-admit c =
    let a = c.args in
    let p = err_from_is_err_and c.from_residual.result c.from_residual.ensures.1 in
    rw (p.1, p.2) (not_announced (slices a.book.now a.kept.now a.lines.now) _ _ c.in_err-admit.was c.admit.ensures a.length)

pub returns : goal.returns
returns c =
    let a = c.args in
    let l = let_in 0 (all_closed - 1) (slices a.book.now a.kept.now a.lines.now) _ c.admit.ensures c.in_ok-admit.was in
    ap (λ (k : List ℕ). outcome (Ok tt) (slices a.book.now k a.lines.now)) c.begin_table.ensures
    ∙ announced (slices a.book.now a.kept.now a.lines.now) l.keeps a.length (omega (arith, l.high))
