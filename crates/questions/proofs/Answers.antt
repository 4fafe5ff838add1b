-- The answers for a type and for a block: 16, 15, or the numbers. Assumes nothing.
use mathlib.Core.Path.{◌≡◌, refl, sym, ◌∙◌}
use mathlib.Core.List.{List, [], ◌∷◌}
use mathlib.Core.Bool.{true, false}
use Prim.Native.Nat.{ℕ}
use lib.ListN.{replicate}
use Rattle.words.specs.Words.{Row}
use Rattle.std.specs.Prelude.{Ok, Err}
use Rattle.refusals.specs.Verdicts.{nowhere, bad_loan, not_there, Verdict}
use Rattle.rows.specs.Rows.{wide, found}
use Rattle.rows.specs.Spots.{row_of}
use Rattle.rows.proofs.Changes.{row_of_found}
use Rattle.tables.specs.declared.Table.TheVariants.{VehicleType, Block}
use Rattle.book.specs.Book.{knows}
use Rattle.book.specs.Room.{book_of}
use Rattle.book.specs.Holding.{Sound}
use Rattle.book.proofs.Laying.{orderly_book}
use Rattle.rules.proofs.Referring.{stands_wide, found_wide}
use Rattle.keeping.specs.Keeping.{keeps_rule}
use Rattle.questions.specs.Calls.{type_answered, block_answered, type_call, block_call}
use Rattle.questions.specs.declared.TypeAnswer.{TypeAnswer}
use Rattle.questions.specs.declared.BlockAnswer.{BlockAnswer}
use Rattle.questions.specs.Questions.{seconds_of, count_of, seven}

-- a refusal has zeros for numbers
pub type_refused : (v : Verdict) → ◌≡◌ {A = TypeAnswer} (record { verdict = v; seconds = 0; count = 0 }) (type_answered v 0 0)
type_refused (Ok _) = refl
type_refused (Err p) = refl

pub block_refused : (v : Verdict) → ◌≡◌ {A = BlockAnswer} (record { verdict = v; numbers = replicate 7 0 }) (block_answered v (replicate 7 0))
block_refused (Ok _) = refl
block_refused (Err p) = refl

module _ (xs : List Row) (version type : ℕ) where
  abbrev type_key : Row
  type_key = version ∷ type ∷ []

  pub type_bad : keeps_rule xs ≡ false → type_answered (nowhere bad_loan) 0 0 ≡ type_call xs version type
  type_bad e = rw e

  pub type_missing : keeps_rule xs ≡ true → knows VehicleType (wide type_key) (book_of xs) ≡ false → type_answered (nowhere not_there) 0 0 ≡ type_call xs version type
  type_missing e f = rw (e, sym (stands_wide 2 type_key (book_of xs).types) ∙ f)

  pub type_there : keeps_rule xs ≡ true → knows VehicleType (wide type_key) (book_of xs) ≡ true
      → type_answered (Ok tt) (seconds_of version type (book_of xs).blocks) (count_of version type (book_of xs).blocks) ≡ type_call xs version type
  type_there e f = rw (e, sym (stands_wide 2 type_key (book_of xs).types) ∙ f)

module _ (xs : List Row) (version day depot block : ℕ) where
  abbrev block_key : Row
  block_key = version ∷ day ∷ depot ∷ block ∷ []

  pub block_bad : keeps_rule xs ≡ false → block_answered (nowhere bad_loan) (replicate 7 0) ≡ block_call xs version day depot block
  block_bad e = rw e

  pub block_missing : keeps_rule xs ≡ true → knows Block (wide block_key) (book_of xs) ≡ false → block_answered (nowhere not_there) (replicate 7 0) ≡ block_call xs version day depot block
  block_missing e f = rw (e, sym (stands_wide 4 block_key (book_of xs).blocks) ∙ f)

  pub block_there : Sound xs → keeps_rule xs ≡ true → knows Block (wide block_key) (book_of xs) ≡ true
      → block_answered (Ok tt) (seven (row_of (found 4 (wide block_key) (book_of xs).blocks))) ≡ block_call xs version day depot block
  block_there s e f =
      let g : row_of (found 4 (wide block_key) (book_of xs).blocks) ≡ found 4 block_key (book_of xs).blocks =
      row_of_found 4 (wide block_key) (book_of xs).blocks ((orderly_book xs s).versioned Block) f ∙ found_wide 4 block_key (book_of xs).blocks in
      rw (g, e, sym (stands_wide 4 block_key (book_of xs).blocks) ∙ f)
