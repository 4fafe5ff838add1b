-- Where the lines of a text end.
-- Inner: no promise and no contract of a public function speaks of it.
use Rattle.std.specs.Prelude.{List, [], ◌∷◌, ◌≡◌, true, false, ◌&&◌, ℕ, suc, ◌+◌, ◌<◌, eqb, drop, length}
use Rattle.words.specs.Words.{Bytes, whether◌then◌else◌}
use Rattle.editions.specs.declared.Edition.{Edition}
use Rattle.cells.specs.declared.State.{State}
use Rattle.cells.specs.declared.State.TheVariants.{Fresh}
use Rattle.lines.specs.Lines.{ends_row, end_next, quoting, lines, starts_on, row_on, line_start}
use Rattle.lines.specs.declared.Line.{Line}

-- a slip's lines ------------------------------------------------------------------------------------------------------------

-- the length of the first line of a slip, and how many bytes it has together with its line end
unfoldable pub slip_length : Bytes → ℕ
slip_length [] = 0
slip_length (b ∷ bs) = whether eqb b 10 then 0 else suc (slip_length bs)

unfoldable pub slip_room : Bytes → ℕ
slip_room [] = 0
slip_room (b ∷ bs) = whether eqb b 10 then 1 else suc (slip_room bs)

-- a table's lines -----------------------------------------------------------------------------------------------------------

-- how many bytes stand before the line feed that ends a row whose quotes stand so, or before the text's end
unfoldable pub feed_from : Edition → State → Bytes → ℕ
feed_from e s [] = 0
feed_from e s (b ∷ bs) = whether ends_row e s b then 0 else suc (feed_from e (quoting s b) bs)

-- "A line's length leaves its line end out"
unfoldable pub line_length : Edition → State → Bytes → ℕ
line_length e s [] = 0
line_length e s (b ∷ bs) = whether ends_row e s b then 0 else whether eqb b 13 && end_next e s bs then 0 else suc (line_length e (quoting s b) bs)

-- together with its line end
unfoldable pub line_room : Edition → State → Bytes → ℕ
line_room e s [] = 0
line_room e s (b ∷ bs) = whether ends_row e s b then 1 else suc (line_room e (quoting s b) bs)

-- the line that begins at a place of a text: where it ends, and where the next one begins
abbrev pub line_at : Edition → Bytes → ℕ → Line
line_at e s at = record { end = at + line_length e Fresh (drop at s); next = at + line_room e Fresh (drop at s) }

abbrev pub slip_line_at : Bytes → ℕ → Line
slip_line_at s at = record { end = at + slip_length (drop at s); next = at + slip_room (drop at s) }

-- where the row begins that starts on a line, or the text's end where no row does
pub record RowBegin (e : Edition) (line : ℕ) (s : Bytes) (r : ℕ) : Type 0 where
  pub none : starts_on e line 1 (lines e s) ≡ false → r ≡ length s
  pub inside : starts_on e line 1 (lines e s) ≡ true → r < length s
  pub start : starts_on e line 1 (lines e s) ≡ true → r ≡ line_start line s
  pub first : starts_on e line 1 (lines e s) ≡ true → (ls : List Bytes) × (lines e (drop r s) ≡ row_on e line 1 (lines e s) ∷ ls)
