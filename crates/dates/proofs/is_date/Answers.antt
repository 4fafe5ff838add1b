-- `dates::is_date` meets its contract. Assumes nothing.
use Prim.Native.Nat.{ℕ}
use native.Mathlib.Omega.{arith}
use lib.Dec.{leb}
use mathlib.Core.Path.{sym, ap, ◌∙◌}
use borrow.Author.Tests.{lt-leb}
use Rattle.dates.proofs.Dates.{Parted, too_early, too_late, no_day, some_day}
use Rattle.dates.proofs.is_date.Goals as goal
use Rattle.dates.proofs.is_date.Goals.{After-two_digits-month, then-n-lt-FIRST-via-then-n-lt-FIRST, then-n-lt-FIRST-via-else-n-lt-FIRST+then-n-gt-LAST}

-- the number is its four parts
parted : (c : After-two_digits-month) → Parted c.args.n c.two_digits-century.result.0 c.two_digits-year.result.0 c.two_digits-month.result.0 c.two_digits-month.result.1
parted c =
    let century = c.two_digits-century.ensures in
    let year = c.two_digits-year.ensures in
    let month = c.two_digits-month.ensures in
    (c.if-n-lt-FIRST.false, c.if-n-gt-LAST.false, omega (arith, century.0, year.0, month.0), year.2, month.2, month.1)

pub returns-then-n-lt-FIRST : goal.returns-then-n-lt-FIRST
returns-then-n-lt-FIRST c =
    elim c.then-n-lt-FIRST.branch [
      | then-n-lt-FIRST-via-then-n-lt-FIRST w ↦ sym (too_early c.args.n w.if-n-lt-FIRST.true)
      | then-n-lt-FIRST-via-else-n-lt-FIRST+then-n-gt-LAST w ↦ sym (too_late c.args.n w.if-n-gt-LAST.true)
    ]

pub returns-then-day-ge1 : goal.returns-then-day-ge1
returns-then-day-ge1 c =
    let day = c.two_digits-month.result.1 in
    ap (λ (d : ℕ). leb day d) c.days_in.ensures ∙ sym (some_day _ _ _ _ _ (parted (goal.at.returns-then-day-ge1 c).After-two_digits-month) c.if-day-ge1.true)

pub returns-else-day-ge1 : goal.returns-else-day-ge1
returns-else-day-ge1 c =
    lt-leb 1 c.two_digits-month.result.1 c.if-day-ge1.false ∙ sym (no_day _ _ _ _ _ (parted (goal.at.returns-else-day-ge1 c).After-two_digits-month) c.if-day-ge1.false)
