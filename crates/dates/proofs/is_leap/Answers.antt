-- `dates::is_leap` meets its contract. Assumes nothing.
use mathlib.Core.Path.{sym, ◌∙◌}
use Rattle.dates.proofs.Dates.{leap_century, leap_plain}
use Rattle.dates.proofs.is_leap.Goals as goal
use Rattle.dates.proofs.is_leap.Goals.{then-year-eq0, else-year-eq0}

pub returns : goal.returns
returns c =
    let a = c.args in
    c.by_four.ensures
    ∙ elim c.if-year-eq0.branch [
      | then-year-eq0 w ↦ rw w.by_four-is (sym (leap_century a.century a.year w.if-year-eq0.true))
      | else-year-eq0 w ↦ rw w.by_four-is (sym (leap_plain a.century a.year c.requires w.if-year-eq0.false))
    ]
