-- What comes of a reading or of a slip.
use Rattle.refusals.specs.declared.Place.{Place}
use Rattle.std.specs.Prelude.{Ok, Err}
use Rattle.refusals.specs.Verdicts.{Verdict}
use Rattle.book.specs.Book.{Book}

-- what comes of a reading or a slip: a refusal, or the book that it leaves
pub data Result : Type 0 where
  refused : Place → Result
  leaves : Book → Result

-- go on unless there is a refusal
abbrev pub unless : Verdict → Result → Result
unless (Ok _) r = r
unless (Err p) r = refused p

infixl 15 ◌▹◌
-- go on with the book that is left
abbrev pub ◌▹◌ : Result → (Book → Result) → Result
refused p ▹ f = refused p
leaves b ▹ f = f b
