-- What the read call answers, and what the lent book holds behind it.
use Rattle.std.specs.Prelude.{◌≡◌, List, ℕ, eqb, length, Option, Some, None, Ok, Err}
use Rattle.words.specs.Words.{Row, whether◌then◌else◌, Bytes}
use Rattle.refusals.specs.Verdicts.{nowhere, bad_loan, unknown_edition, Verdict}
use Rattle.editions.specs.Editions.{choice}
use Rattle.editions.specs.declared.Edition.{Edition}
use Rattle.tables.specs.Parts.{book_rows}
use Rattle.book.specs.Book.{empty}
use Rattle.book.specs.Room.{laid}
use Rattle.book.specs.Result.{Result, refused, leaves}
use Rattle.delivery.specs.Delivery.{Delivery, reading}

-- a verdict, and what the lent book holds
pub record Outcome : Type 0 where
  pub verdict : Verdict
  pub book : List Row

abbrev pub outcome : Verdict → List Row → Outcome
outcome v slice = record { verdict = v; book = slice }

-- "A refused reading leaves an empty book", and "2.1 after a refused reading"
abbrev pub read_outcome : Result → Outcome
read_outcome (refused p) = outcome (Err p) (laid empty)
read_outcome (leaves b) = outcome (Ok tt) (laid b)

-- "an unknown edition is 22", and the reading is refused
abbrev pub read_by : Option Edition → Delivery → Outcome
read_by (Some e) d = read_outcome (reading e d)
read_by None d = outcome (nowhere unknown_edition) (laid empty)

-- "Book and working area each have one fixed size; one lent at another length is 16, before all else: that one stays as it came"; 22 is "right
-- after 16". The caller says the edition's number
abbrev pub read_call : ℕ → Delivery → List Row → Outcome
read_call n d slice =
    whether eqb (length slice) book_rows then read_by (choice n) d else outcome (nowhere bad_loan) slice

abbrev pub delivery : Bytes → Bytes → Bytes → Bytes → Bytes → Bytes → Delivery
delivery a b c d e f = record { types = a; depots = b; stops = c; points = d; blocks = e; days = f }

-- what the contract of `read` permits of an edition's number, a delivery and a lent book: one verdict, and one book behind it
abbrev pub ReadPermits : ℕ → Delivery → List Row → Outcome → Type 0
ReadPermits n d slice o = o ≡ read_call n d slice
