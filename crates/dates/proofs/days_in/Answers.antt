-- `dates::days_in` meets its contract. Assumes nothing.
use Prim.Native.Nat.{◌+◌, ◌*◌}
use mathlib.Core.Path.{sym, ◌∙◌}
use Rattle.dates.proofs.Dates.{not_february, february_long, february_short}
use Rattle.dates.proofs.days_in.Goals as goal
use Rattle.dates.proofs.days_in.Goals.{else-month-eq2-via-then-month-eq2+else-is_leap, else-month-eq2-via-else-month-eq2}

pub returns-then-is_leap : goal.returns-then-is_leap
returns-then-is_leap c =
    let a = c.args in
    sym (february_long (a.century * 100 + a.year) a.month c.if-month-eq2.true (sym c.if-is_leap.ensures))

pub returns-else-month-eq2 : goal.returns-else-month-eq2
returns-else-month-eq2 c =
    let a = c.args in
    c.month_days.ensures
    ∙ elim c.else-month-eq2.branch [
      | else-month-eq2-via-then-month-eq2+else-is_leap w ↦ sym (february_short (a.century * 100 + a.year) a.month w.if-month-eq2.true (sym w.if-is_leap.ensures))
      | else-month-eq2-via-else-month-eq2 w ↦ sym (not_february (a.century * 100 + a.year) a.month w.if-month-eq2.false)
    ]
