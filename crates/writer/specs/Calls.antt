-- What the write call answers, and what the lent output holds behind it.
use Rattle.std.specs.Prelude.{◌≡◌, List, not, ℕ, length, ltb, Ok, Err}
use Rattle.words.specs.Words.{Bytes, Row}
use Rattle.refusals.specs.Verdicts.{◌when◌, ◌before◌, nowhere, bad_loan, output_short, Verdict}
use Rattle.numbers.specs.Putting.{put}
use Rattle.book.specs.Room.{book_of}
use Rattle.keeping.specs.Keeping.{keeps_rule}
use Rattle.writer.specs.Writing.{written}

-- a verdict, the text's length, and what the lent output holds
pub record Outcome : Type 0 where
  pub verdict : Verdict
  pub size : ℕ
  pub out : Bytes

abbrev pub outcome : Verdict → ℕ → Bytes → Outcome
outcome v n out = record { verdict = v; size = n; out = out }

-- "The answer is the text's length, 0 if refused."
abbrev pub wrote : Verdict → Bytes → Bytes → Outcome
wrote (Ok _) s out = outcome (Ok tt) (length s) (put s out)
wrote (Err p) s out = outcome (Err p) 0 out

-- "Order: 16, 14."
abbrev pub write_call : List Row → Bytes → Outcome
write_call book out =
    wrote (nowhere (bad_loan when not (keeps_rule book)) before nowhere (output_short when ltb (length out) (length (written (book_of book)))))
    (written (book_of book)) out

-- what the contract of `write` permits: one verdict, one length and one output behind it
abbrev pub WritePermits : List Row → Bytes → Outcome → Type 0
WritePermits book out o = o ≡ write_call book out
