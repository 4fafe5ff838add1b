-- `radio_closing::close_table` meets its contract. Assumes nothing.
use mathlib.Core.Path.{ap, sym, ◌∙◌}
use Prim.Native.Nat.{ℕ}
use Rattle.std.proofs.lemmas.Result.{err_from_is_err_and}
use Rattle.radio_closing.specs.Closing.{earlier_fault}
use Rattle.radio_closing.proofs.Finishing.{closed_before, closed_length, closed_finished}
use Rattle.radio_closing.proofs.close_table.Goals as goal

pub returns-then-faulty_before : goal.returns-then-faulty_before
returns-then-faulty_before c =
    let a = c.args in
    closed_before a.t a.book.now a.kept.now a.lines.now (ap (λ (n : ℕ). earlier_fault n a.kept.now) (sym c.number.ensures) ∙ sym c.faulty_before.ensures ∙ c.if-faulty_before.true) _ c.kept_fault.ensures

pub returns-in_err-placed : goal.returns-in_err-placed
returns-in_err-placed c =
    let a = c.args in
    let p = err_from_is_err_and c.from_residual.result c.from_residual.ensures.1 in
    rw (p.1, p.2) (closed_length a.t a.book.now a.kept.now a.lines.now (ap (λ (n : ℕ). earlier_fault n a.kept.now) (sym c.number.ensures) ∙ sym c.faulty_before.ensures ∙ c.if-faulty_before.false) _
    (sym (c.placed.ensures ∙ rw (c.judge_length-check.ensures, c.number-2.ensures)) ∙ c.in_err-placed.was))

pub returns : goal.returns
returns c =
    let a = c.args in
    closed_finished a.t a.book.now a.kept.now a.lines.now (ap (λ (n : ℕ). earlier_fault n a.kept.now) (sym c.number.ensures) ∙ sym c.faulty_before.ensures ∙ c.if-faulty_before.false)
    (sym (c.placed.ensures ∙ rw (c.judge_length-check.ensures, c.number-2.ensures)) ∙ c.in_ok-placed.was) _ _ c.finish.ensures
