-- What the questions answer. Nothing that is lent to them changes.
use Rattle.std.specs.Prelude.{◌≡◌, List, [], ◌∷◌, Bool, not, ℕ, replicate, Ok, Err}
use Rattle.words.specs.Words.{Row}
use Rattle.refusals.specs.Verdicts.{◌when◌, ◌before◌, nowhere, bad_loan, not_there, Verdict}
use Rattle.rows.specs.Rows.{found}
use Rattle.tables.specs.Columns.{key_width}
use Rattle.tables.specs.declared.Table.TheVariants.{VehicleType, Block}
use Rattle.book.specs.Book.{knows}
use Rattle.book.specs.Room.{book_of}
use Rattle.keeping.specs.Keeping.{keeps_rule}
use Rattle.questions.specs.declared.TypeAnswer.{TypeAnswer}
use Rattle.questions.specs.Questions.{seconds_of, count_of, seven}
use Rattle.questions.specs.declared.BlockAnswer.{BlockAnswer}

-- "16, 15"
abbrev pub asked_verdict : List Row → Bool → Verdict
asked_verdict book there = nowhere (bad_loan when not (keeps_rule book)) before nowhere (not_there when not there)

-- "every refusal zeros for numbers"
abbrev pub type_answered : Verdict → ℕ → ℕ → TypeAnswer
type_answered (Ok _) seconds count = record { verdict = Ok tt; seconds = seconds; count = count }
type_answered (Err p) seconds count = record { verdict = Err p; seconds = 0; count = 0 }

-- "Type: 16, 15, or seconds and count of its blocks."
abbrev pub type_call : List Row → ℕ → ℕ → TypeAnswer
type_call book version type =
    let b = book_of book in
    type_answered (asked_verdict book (knows VehicleType (version ∷ type ∷ []) b)) (seconds_of version type b.blocks) (count_of version type b.blocks)

abbrev pub block_answered : Verdict → List ℕ → BlockAnswer
block_answered (Ok _) ns = record { verdict = Ok tt; numbers = ns }
block_answered (Err p) ns = record { verdict = Err p; numbers = replicate 7 0 }

-- "Block: 16, 15, or its seven non-key numbers."
abbrev pub block_call : List Row → ℕ → ℕ → ℕ → ℕ → BlockAnswer
block_call book version day depot block =
    let b = book_of book in
    let key = version ∷ day ∷ depot ∷ block ∷ [] in
    block_answered (asked_verdict book (knows Block key b)) (seven (found (key_width Block) key b.blocks))

-- what the contracts of `type_answer` and `block_answer` permit: one answer
abbrev pub TypePermits : List Row → ℕ → ℕ → TypeAnswer → Type 0
TypePermits book version type a = a ≡ type_call book version type

abbrev pub BlockPermits : List Row → ℕ → ℕ → ℕ → ℕ → BlockAnswer → Type 0
BlockPermits book version day depot block a = a ≡ block_call book version day depot block
