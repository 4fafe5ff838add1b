-- `header::cut_line` meets its contract: a line that is too long, a faulty one, and any other. Assumes nothing.
use mathlib.Core.Path.{ap, ◌∙◌}
use Prim.Native.Nat.{ℕ}
use Rattle.std.specs.Prelude.{Err}
use Rattle.refusals.specs.Verdicts.{fault}
use Rattle.header.proofs.Cutting.{cut_long, cut_faulty, cut_cells}
use Rattle.header.proofs.cut_line.Goals as goal

pub returns-then-line-gt-MOST_LINE : goal.returns-then-line-gt-MOST_LINE
returns-then-line-gt-MOST_LINE c = cut_long c.args.edition c.args.line.now _ c.if-line-gt-MOST_LINE.true (Err c.line_too_long.result) 0 c.line_too_long.ensures

pub returns-in-Err : goal.returns-in-Err
returns-in-Err c =
    let r = c.cells_of in
    cut_faulty c.args.edition c.args.line.now _ c.if-line-gt-MOST_LINE.false r.result r.ensures.0 c.in-Err.cell c.in-Err.is (Err c.quote_fault.result) 0 (c.quote_fault.ensures ∙ ap (λ (m : ℕ). Err (fault 6 m)) c.wide.ensures)

pub returns-in-Ok : goal.returns-in-Ok
returns-in-Ok c =
    let r = c.cells_of in
    cut_cells c.args.edition c.args.line.now _ c.if-line-gt-MOST_LINE.false r.result r.ensures.0 c.in-Ok.cells r.ensures.1 c.in-Ok.is
