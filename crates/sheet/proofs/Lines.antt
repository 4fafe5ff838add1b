-- The lines of the day sheet: a letter and a tab before the numbers, a line for each type, and the sums behind them. Assumes nothing.
use mathlib.Core.Path.{◌≡◌, refl, ap, ◌∙◌}
use mathlib.Core.List.{List, [], ◌∷◌, ◌++◌, map, append_assoc}
use mathlib.Core.Bool.{true}
use Prim.Native.Nat.{ℕ, ◌+◌, ◌≤◌}
use native.Mathlib.Omega.{arith}
use lib.ListN.{length, set, length-append}
use Rattle.words.specs.Words.{Bytes, Row, bytes}
use Rattle.cells.specs.Cells.{parted}
use Rattle.numbers.specs.Numbers.{decimal}
use Rattle.numbers.specs.Putting.{put}
use Rattle.numbers.proofs.Putting.{put_byte, rest, back, lent}
use Rattle.rows.specs.Rows.{column}
use Rattle.tables.specs.declared.Table.TheVariants.{VehicleType}
use Rattle.book.specs.Book.{Book}
use Rattle.book.specs.Room.{book_of}
use Rattle.book.proofs.Laying.{orderly_book}
use Rattle.keeping.specs.Keeping.{keeps_rule}
use Rattle.keeping.proofs.Keeping.{keeps_sound}
use Rattle.questions.specs.Questions.{seconds_of, count_of}
use Rattle.writer.specs.Writing.{lines_written}
use Rattle.sheet.specs.Sheet.{sheet_line, type_line, sum_line, sheet_text}

-- a line of a letter and numbers
module _ (letter : ℕ) (ns : List ℕ) (some : 1 ≤ length ns) where
  line_is : sheet_line (letter ∷ []) ns ≡ letter ∷ (9 ∷ parted 9 (map decimal ns))
  unfolding parted
  line_is = go ns some
    where
      go : (ns : List ℕ) → 1 ≤ length ns → sheet_line (letter ∷ []) ns ≡ letter ∷ (9 ∷ parted 9 (map decimal ns))
      go [] h = absurd (omega arith)
      go (n ∷ rest) h = refl

  pub line_length_is : length (sheet_line (letter ∷ []) ns) ≡ 2 + length (parted 9 (map decimal ns))
  line_length_is = rw line_is (omega arith)

  -- the letter and the tab are put at the head, and the rest is lent on
  pub line_written : (o ys : Bytes) → 2 ≤ length o → ys ≡ put (parted 9 (map decimal ns) ++ (10 ∷ [])) (rest (set (set o 0 letter) 1 9) 2)
      → back (set (set o 0 letter) 1 9) 2 ys ≡ put (sheet_line (letter ∷ []) ns ++ (10 ∷ [])) o
  line_written o ys h e =
      let first : set o 0 letter ≡ put (letter ∷ []) o = put_byte [] o o 0 letter refl refl (omega arith) in
      let begun : set (set o 0 letter) 1 9 ≡ put (letter ∷ (9 ∷ [])) o = put_byte (letter ∷ []) o (set o 0 letter) 1 9 refl first (omega arith) in
      rw line_is (lent (letter ∷ (9 ∷ [])) (parted 9 (map decimal ns) ++ (10 ∷ [])) o (set (set o 0 letter) 1 9) ys 2 refl begun e)

-- the line of a type, by its row and its sums
pub type_line_is : (blocks : List Row) (x row : Row) (s n : ℕ) → row ≡ x → s ≡ seconds_of (column 1 row) (column 2 row) blocks → n ≡ count_of (column 1 row) (column 2 row) blocks
    → type_line blocks x ≡ sheet_line (bytes "T") (column 1 row ∷ column 2 row ∷ s ∷ n ∷ [])
type_line_is blocks x row s n e es en = rw (es, en, e)

-- and of the sums
pub sum_line_is : (b : Book) (n m : ℕ) → n ≡ length b.types → m ≡ length b.blocks → sum_line b ≡ sheet_line (bytes "S") (n ∷ m ∷ [])
sum_line_is b n m en em = rw (en, em)

pub types_few : (xs : List Row) → keeps_rule xs ≡ true → length (book_of xs).types ≤ 512
types_few xs k = (orderly_book xs (keeps_sound xs k)).few VehicleType

-- the sums stand behind the types
lines_more : (ls ms : List Bytes) → lines_written (ls ++ ms) ≡ lines_written ls ++ lines_written ms
unfolding lines_written
lines_more [] ms = refl
lines_more (l ∷ ls) ms = rw (lines_more ls ms, append_assoc)

pub line_alone : (l : Bytes) → lines_written (l ∷ []) ≡ l ++ (10 ∷ [])
unfolding lines_written
line_alone l = refl

pub sheet_is : (b : Book) → sheet_text b ≡ lines_written (map (type_line b.blocks) b.types) ++ (sum_line b ++ (10 ∷ []))
sheet_is b = lines_more (map (type_line b.blocks) b.types) (sum_line b ∷ []) ∙ ap (λ (l : Bytes). lines_written (map (type_line b.blocks) b.types) ++ l) (line_alone (sum_line b))

pub sheet_length : (b : Book) → length (sheet_text b) ≡ length (lines_written (map (type_line b.blocks) b.types)) + (length (sum_line b) + 1)
sheet_length b = rw (sheet_is b) (simp length-append)
