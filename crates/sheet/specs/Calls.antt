-- What the sheet call answers, and what the lent output holds behind it.
use Rattle.std.specs.Prelude.{◌≡◌, List, not, ltb, length, Ok, Err}
use Rattle.words.specs.Words.{Bytes, Row}
use Rattle.refusals.specs.Verdicts.{◌when◌, nowhere, output_short, ◌before◌, bad_loan, Verdict}
use Rattle.book.specs.Room.{book_of}
use Rattle.keeping.specs.Keeping.{keeps_rule}
use Rattle.writer.specs.Calls.{Outcome, wrote}
use Rattle.sheet.specs.Sheet.{sheet_text, refusal_text}

-- 14: "output shorter than the text to write"
abbrev pub short_for : Bytes → Bytes → Verdict
short_for s out = nowhere (output_short when ltb (length out) (length s))

-- the sheet of a day whose delivery and slip had this verdict: the sheet of the book, or the refusal's line. As the writer, 16 and then 14
abbrev pub sheet_call : Verdict → List Row → Bytes → Outcome
sheet_call (Err p) book out = wrote (short_for (refusal_text p) out) (refusal_text p) out
sheet_call (Ok _) book out =
    wrote (nowhere (bad_loan when not (keeps_rule book)) before short_for (sheet_text (book_of book)) out) (sheet_text (book_of book)) out

-- what the contract of `day_sheet` permits: one verdict, one length and one output behind it
abbrev pub SheetPermits : Verdict → List Row → Bytes → Outcome → Type 0
SheetPermits v book out o = o ≡ sheet_call v book out
