-- Correction slips.
use Rattle.std.specs.Prelude.{List, [], ◌∷◌, ℕ, suc}
use Rattle.words.specs.Words.{Bytes}
use Rattle.refusals.specs.Verdicts.{placed, ◌when◌, in_text, text_too_long}
use Rattle.lines.specs.Lines.{slip_lines, overlong}
use Rattle.book.specs.Book.{Book}
use Rattle.book.specs.Result.{Result, leaves, unless, refused}
use Rattle.block_change.specs.Change.{slip_check, slip_leaves}

-- "its lines are judged in turn on what the earlier ones left"; `i` is the number of the first. 5 is the slip's table number in places
unfoldable pub lines_posted : ℕ → List Bytes → Book → Result
lines_posted i [] b = leaves b
lines_posted i (l ∷ ls) b = unless (placed 5 i (slip_check l b)) (lines_posted (suc i) ls (slip_leaves l b))

-- "1; per line"
unfoldable pub posting : Bytes → Book → Result
posting s b = unless (in_text 5 (text_too_long when overlong s)) (lines_posted 1 (slip_lines s) b)

-- the book that is left, or `old` where there is a refusal
abbrev pub kept : Book → Result → Book
kept old (refused p) = old
kept old (leaves b) = b

-- "A slip is taken whole or not at all": the book behind it, accepted or not
abbrev pub posted : Bytes → Book → Book
posted s b = kept b (posting s b)
