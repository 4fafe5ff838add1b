use mathlib.Core.Bool.{true, false}
use mathlib.Core.Path.{◌≡◌, refl, sym, ap, ◌∙◌}
use Prim.Native.Nat.{◌<◌}
use native.Mathlib.Omega.{arith}
use lib.ListN.{get_or}
use borrow.Author.Rules.{rules}
use Rattle.tables.specs.declared.Rules.{Rules}
use Rattle.tables.specs.Columns.{kept_width, column_at, in_range}
use Rattle.tables.proofs.Figures.{kept_few}
use Rattle.keeping.proofs.Keeping as keeping
use Rattle.keeping.proofs.in_ranges.Goals as goal

pub loop-i-init : goal.loop-i-init
loop-i-init c = record { whole = c.kept-i-end.ensures; few = omega (arith, c.kept-i-end.ensures, kept_few c.args.t); left = λ e q. refl }

pub loop-i-preserved : goal.loop-i-preserved
loop-i-preserved c =
    let at = c.loop-i in
    let row = c.args.row in
    record {
      whole = at.invariant.whole;
      few = at.invariant.few;
      left = λ e q.
          let more : at.i < kept_width c.args.t = omega arith in
          let here : in_range (column_at e c.args.t at.i).rules (get_or row at.i 0) ≡ true = ap (λ (x : Rules). in_range x (get_or row at.i 0)) (sym (c.rules_at-rules.ensures e c.args.t q)) ∙ sym c.takes.ensures ∙ c.if-not-takes.false in
          at.invariant.left e q ∙ keeping.ranged_next e c.args.t row (search rules) at.i more here;
    }

pub returns : goal.returns
returns c = λ e q. sym (c.loop-i.invariant.left e q ∙ keeping.ranged_end e c.args.t c.args.row (search rules) c.loop-i.i (omega arith))

pub returns-then-not-takes : goal.returns-then-not-takes
returns-then-not-takes c = λ e q.
    let at = c.loop-i in
    let row = c.args.row in
    let more : at.i < kept_width c.args.t = omega arith in
    let here : in_range (column_at e c.args.t at.i).rules (get_or row at.i 0) ≡ false = ap (λ (x : Rules). in_range x (get_or row at.i 0)) (sym (c.rules_at-rules.ensures e c.args.t q)) ∙ sym c.takes.ensures ∙ c.if-not-takes.true in
    sym (at.invariant.left e q ∙ keeping.ranged_not e c.args.t row (search rules) at.i more here)
