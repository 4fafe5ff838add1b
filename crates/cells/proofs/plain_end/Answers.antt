use mathlib.Core.Path.{◌≡◌, sym, ap, ◌∙◌}
use native.Mathlib.Omega.{arith}
use Rattle.std.specs.Prelude.{Some}
use Prim.Native.Nat.{ℕ}
use Rattle.cells.proofs.Ending.{plain_on, plain_stop, plain_last}
use Rattle.cells.proofs.plain_end.Goals as goal

pub returns-then-not-stays_plain : goal.returns-then-not-stays_plain
returns-then-not-stays_plain c = λ e. c.end_at.ensures ∙ sym (plain_stop e c.args.line.now c.loop-i.i c.loop-i-test.true (sym c.stays_plain.ensures ∙ c.if-not-stays_plain.true)) ∙ c.loop-i.invariant.0 e

pub loop-i-preserved : goal.loop-i-preserved
loop-i-preserved c = (λ e. sym (plain_on e c.args.line.now c.loop-i.i c.loop-i-test.true (sym c.stays_plain.ensures ∙ c.if-not-stays_plain.false)) ∙ c.loop-i.invariant.0 e, omega arith)

pub returns : goal.returns
returns c =
    let m : c.max.result ≡ c.loop-i.i = omega (arith, c.max.ensures, c.loop-i.invariant.1, c.loop-i.auto.i) in
    λ e. ap (λ (i : ℕ). Some i) m ∙ sym (plain_last e c.args.line.now c.loop-i.i c.loop-i-test.false) ∙ c.loop-i.invariant.0 e
