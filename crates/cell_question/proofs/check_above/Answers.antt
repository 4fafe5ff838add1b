-- `cell_question::check_above` meets its contract: by 2.3 the row is cut. Assumes nothing.
use mathlib.Core.Path.{sym, ap, ◌∙◌}
use Rattle.editions.specs.declared.Edition.{Edition}
use Rattle.cell_question.specs.Asking.{fault_above}
use Rattle.cell_question.proofs.check_above.Goals as goal

pub returns-in-Dino23 : goal.returns-in-Dino23
returns-in-Dino23 c =
    let a = c.args in
    c.cut_line-cut.ensures.is ∙ ap (λ (e : Edition). fault_above e a.row.now) (sym c.in-Dino23.is)
