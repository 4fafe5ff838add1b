-- What the slip call answers, and what everything lent to it holds behind the call.
use Rattle.std.specs.Prelude.{◌≡◌, List, Bool, ◌&&◌, not, ℕ, eqb, length, replicate, Ok, Err}
use Rattle.words.specs.Words.{Row, whether◌then◌else◌, Bytes}
use Rattle.refusals.specs.Verdicts.{◌when◌, nowhere, bad_loan, Verdict}
use Rattle.rows.specs.Room.{zeros}
use Rattle.tables.specs.Parts.{room}
use Rattle.tables.specs.declared.Table.TheVariants.{Block}
use Rattle.book.specs.Room.{laid, book_of}
use Rattle.book.specs.Result.{Result, refused, leaves, unless}
use Rattle.keeping.specs.Keeping.{keeps_rule}
use Rattle.slips.specs.Slips.{posting}

-- a verdict, and what the lent book and working area hold
pub record Outcome : Type 0 where
  pub verdict : Verdict
  pub book : List Row
  pub work : List Row

abbrev pub outcome : Verdict → List Row → List Row → Outcome
outcome v book work = record { verdict = v; book = book; work = work }

-- "Book and working area each have one fixed size": the working area has room for the blocks
abbrev pub work_rows : ℕ
work_rows = room Block

abbrev pub work_sized : List Row → Bool
work_sized work = eqb (length work) work_rows

-- "A working area lent to a call ends all zero"; "one lent at another length .. stays as it came"
abbrev pub cleared : List Row → List Row
cleared work = whether work_sized work then replicate work_rows zeros else work

-- "All other refusals leave book and output as handed in."
abbrev pub slip_outcome : Result → List Row → List Row → Outcome
slip_outcome (refused p) book work = outcome (Err p) book (cleared work)
slip_outcome (leaves b) book work = outcome (Ok tt) (laid b) (cleared work)

-- "Order: 16; 1; per line"
abbrev pub slip_call : Bytes → List Row → List Row → Outcome
slip_call s book work =
    slip_outcome (unless (nowhere (bad_loan when not (keeps_rule book && work_sized work))) (posting s (book_of book))) book work

-- what the contract of `slip` permits: one verdict, one book and one working area behind it
abbrev pub SlipPermits : Bytes → List Row → List Row → Outcome → Type 0
SlipPermits s book work o = o ≡ slip_call s book work
