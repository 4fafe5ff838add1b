-- What the call for a day answers, and what everything lent to it holds behind the call.
use Rattle.std.specs.Prelude.{◌≡◌, List, ℕ, eqb, length, Ok, Err}
use Rattle.words.specs.Words.{Row, whether◌then◌else◌, Bytes}
use Rattle.refusals.specs.Verdicts.{nowhere, bad_loan, Verdict}
use Rattle.tables.specs.Parts.{book_rows}
use Rattle.book.specs.Book.{empty}
use Rattle.book.specs.Room.{laid}
use Rattle.delivery.specs.Delivery.{Delivery}
use Rattle.delivery.specs.Calls.{read_call}
use Rattle.slips.specs.Calls.{Outcome, outcome, cleared, slip_call, work_sized}

-- a day: the delivery, then the slip -------------------------------------------------------------------------------------------

-- "A refused reading leaves an empty book"; a book of another length "stays as it came"
abbrev pub emptied : List Row → List Row
emptied book = whether eqb (length book) book_rows then laid empty else book

-- the slip is judged only on the book that an accepted delivery leaves
abbrev pub then_slip : Verdict → Bytes → List Row → List Row → Outcome
then_slip (Ok _) s book work = slip_call s book work
then_slip (Err p) s book work = outcome (Err p) book (cleared work)

-- 16 for a book or a working area of another length, "before all else"; `n` is the edition's number
abbrev pub day_call : ℕ → Delivery → Bytes → List Row → List Row → Outcome
day_call n d s book work =
    whether work_sized work then then_slip (read_call n d book).verdict s (read_call n d book).book work
    else outcome (nowhere bad_loan) (emptied book) work

-- what the contract of `day` permits: one verdict, one book and one working area behind it
abbrev pub DayPermits : ℕ → Delivery → Bytes → List Row → List Row → Outcome → Type 0
DayPermits n d s book work o = o ≡ day_call n d s book work
