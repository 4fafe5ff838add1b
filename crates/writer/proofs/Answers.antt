-- What a call that writes a text answers: 16, 14, or the text at the head of the output. Assumes nothing.
use mathlib.Core.Path.{◌≡◌, sym, refl, ap, ◌∙◌}
use mathlib.Core.Bool.{Bool, true, false, not}
use mathlib.Core.List.{List, [], ◌∷◌, ◌++◌, append_assoc, map}
use Prim.Native.Nat.{ℕ, ◌≤◌, ◌<◌, ◌+◌}
use native.Mathlib.Omega.{arith}
use lib.Dec.{ltb}
use lib.ListN.{length, length-append, take}
use borrow.Author.Tests.{lt-ltb, le-ltb}
use Rattle.words.specs.Words.{Bytes, bytes, Row}
use Rattle.refusals.specs.Verdicts.{◌when◌, nowhere, output_short, ◌before◌, bad_loan, Verdict}
use Rattle.std.specs.Prelude.{Ok}
use Rattle.cells.specs.Cells.{parted}
use Rattle.numbers.specs.Putting.{put}
use Rattle.rows.proofs.Room.{used_take}
use Rattle.editions.specs.declared.Edition.{Edition}
use Rattle.editions.specs.declared.Edition.TheVariants.{Dino21, Dino23}
use Rattle.tables.specs.Columns.{columns_of}
use Rattle.tables.specs.declared.Table.TheVariants.{Block}
use Rattle.book.specs.Room.{part, book_of}
use Rattle.keeping.specs.Keeping.{keeps_rule}
use Rattle.writer.specs.Calls.{outcome, wrote, Outcome, write_call}
use Rattle.writer.specs.Writing.{lines_written, names_line, row_line, written}

module _ (s out : Bytes) (size : ℕ) (long : size ≡ length s) where
  -- 14
  pub too_short : (v : Verdict) (n : ℕ) → length out < size → v ≡ nowhere output_short → n ≡ 0
      → outcome v n out ≡ wrote (nowhere (output_short when ltb (length out) (length s))) s out
  too_short v n h ev en = rw (ev, en, lt-ltb (length out) (length s) (omega arith))

  -- the text
  pub all_written : (p : Bytes) → size ≤ length out → p ≡ put s out → outcome (Ok tt) size p ≡ wrote (nowhere (output_short when ltb (length out) (length s))) s out
  all_written p h ep = rw (ep, long, le-ltb (length out) (length s) (omega arith))

module _ (keeps : Bool) (next : Verdict) (s out : Bytes) where
  -- 16
  pub bad_book : (v : Verdict) (n : ℕ) → keeps ≡ false → v ≡ nowhere bad_loan → n ≡ 0 → outcome v n out ≡ wrote (nowhere (bad_loan when not keeps) before next) s out
  bad_book v n e ev en = rw (ev, en, e)

  -- what the book does not refuse
  pub good_book : keeps ≡ true → wrote next s out ≡ wrote (nowhere (bad_loan when not keeps) before next) s out
  good_book e = rw e

-- a line, and the lines behind it
pub line_first : (l : Bytes) (ls : List Bytes) → lines_written (l ∷ ls) ≡ (l ++ (10 ∷ [])) ++ lines_written ls
unfolding lines_written
line_first l ls = sym (append_assoc l (10 ∷ []) (lines_written ls))

pub line_first_length : (l : Bytes) (ls : List Bytes) → length (lines_written (l ∷ ls)) ≡ length l + 1 + length (lines_written ls)
line_first_length l ls = rw (line_first l ls) (simp length-append)

-- "The written table has the 11 names above in order": by every edition a block's columns have these names
pub names_alike : (e : Edition) → map (λ x. x.name) (columns_of e Block) ≡ map (λ x. x.name) (columns_of Dino21 Block)
unfolding columns_of
names_alike Dino21 = refl
names_alike Dino23 = refl

pub header_length : length names_line + 1 ≡ 145
unfolding columns_of parted bytes
header_length = refl

-- the blocks are the first rows of their part
blocks_lent : (xs lent : List Row) (n : ℕ) → lent ≡ part Block xs → n ≡ length (book_of xs).blocks → take n lent ≡ (book_of xs).blocks
blocks_lent xs lent n e en = rw (e, en) (used_take (part Block xs))

-- so what is written of their part is what the call answers
abbrev answered : List Row → Bytes → Outcome
answered ls out =
    wrote (nowhere (output_short when ltb (length out) (length (lines_written (names_line ∷ map row_line ls))))) (lines_written (names_line ∷ map row_line ls)) out

pub blocks_written : (xs lent : List Row) (out : Bytes) (n : ℕ) → lent ≡ part Block xs → n ≡ length (book_of xs).blocks → keeps_rule xs ≡ true → answered (take n lent) out ≡ write_call xs out
blocks_written xs lent out n e en k =
    ap (λ (ls : List Row). answered ls out) (blocks_lent xs lent n e en)
    ∙ good_book (keeps_rule xs) (nowhere (output_short when ltb (length out) (length (written (book_of xs))))) (written (book_of xs)) out k
