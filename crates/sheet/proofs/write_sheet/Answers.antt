-- `sheet::write_sheet` meets its contract: the lines of the types, and behind them the sums. Assumes nothing.
use mathlib.Core.Path.{◌≡◌, sym, ap, ◌∙◌}
use mathlib.Core.List.{[], ◌∷◌, ◌++◌, map}
use Prim.Native.Nat.{◌+◌}
use native.Mathlib.Omega.{arith}
use lib.ListN.{length}
use borrow.Author.Rules.{rules}
use Rattle.words.specs.Words.{Bytes, bytes}
use Rattle.refusals.specs.Verdicts.{nowhere, Check}
use Rattle.numbers.specs.Putting.{put}
use Rattle.numbers.proofs.Putting.{rest, lent, length_rest}
use Rattle.book.specs.Book.{Book}
use Rattle.book.specs.Room.{book_of}
use Rattle.keeping.proofs.Keeping.{keeps_sound}
use Rattle.writer.specs.Writing.{lines_written}
use Rattle.writer.proofs.Answers.{too_short, all_written}
use Rattle.sheet.specs.Sheet.{sheet_line, type_line, sum_line, sheet_text}
use Rattle.sheet.proofs.Lines.{sum_line_is, sheet_is, sheet_length}
use Rattle.sheet.proofs.write_sheet.Goals as goal
use Rattle.sheet.proofs.write_sheet.Goals.{After-line_length}

abbrev book : After-line_length → Book
book c = book_of c.args.book.now

sums : (c : After-line_length) → sum_line (book c) ≡ sheet_line (bytes "S") (length c.rows_of-types.result.now ∷ length c.rows_of-blocks.result.now ∷ [])
sums c = sum_line_is (book c) (length c.rows_of-types.result.now) (length c.rows_of-blocks.result.now) (ap length c.rows_of-types.ensures) (ap length c.rows_of-blocks.ensures)

counted : (c : After-line_length) → c.types_length.result + c.line_length.result ≡ length (sheet_text (book c))
unfolding bytes
counted c = omega (arith, c.types_length.ensures.0, c.line_length.ensures.0 83, sheet_length (book c), ap length (sums c))

pub rows_of-types-requires : goal.rows_of-types-requires
rows_of-types-requires c = keeps_sound c.args.book.now c.requires

pub rows_of-blocks-requires : goal.rows_of-blocks-requires
rows_of-blocks-requires c = keeps_sound c.args.book.now c.requires

pub returns-then-out-size : goal.returns-then-out-size
returns-then-out-size c =
    let l = c in
    let o = l.args.out.now in
    too_short (sheet_text (book (goal.at.returns-then-out-size c).After-line_length)) o (l.types_length.result + l.line_length.result) (counted (goal.at.returns-then-out-size c).After-line_length) c.unwritten.result.verdict c.unwritten.result.size (omega arith)
    (c.unwritten.ensures.0 ∙ ap (λ (k : Check). nowhere k) c.output_short.ensures) c.unwritten.ensures.1

pub write_line-requires : goal.write_line-requires
write_line-requires c =
    let l = c in
    let t = c.write_types-at in
    let left = c.if-out-size.false in
    (search rules, rw (length_rest t.new.out t.result) (omega (arith, left, l.line_length.ensures.0 83, t.ensures.0, t.auto.out, l.types_length.ensures.0)))

pub returns : goal.returns
unfolding bytes
returns c =
    let l = c in
    let t = c.write_types-at in
    let w = c.write_line in
    let b = book (goal.at.returns c).After-line_length in
    let o = l.args.out.now in
    let left = c.if-out-size.false in
    let line : w.new.out ≡ put (sum_line b ++ (10 ∷ [])) (rest t.new.out t.result) =
    w.ensures.1 ∙ ap (λ (s : Bytes). put (s ++ (10 ∷ [])) (rest t.new.out t.result)) (sym (sums (goal.at.returns c).After-line_length)) in
    let whole = lent (lines_written (map (type_line b.blocks) b.types)) (sum_line b ++ (10 ∷ [])) o t.new.out w.new.out t.result t.ensures.0 t.ensures.1 line in
    all_written (sheet_text b) o (l.types_length.result + l.line_length.result) (counted (goal.at.returns c).After-line_length) _ (omega (arith, left))
    (whole ∙ ap (λ (s : Bytes). put s o) (sym (sheet_is b)))

pub types_length-requires : goal.types_length-requires
types_length-requires c = (c.requires, c.rows_of-types.ensures)

pub write_types-at-requires : goal.write_types-at-requires
write_types-at-requires c = (c.requires, c.rows_of-types.ensures, omega (arith, c.types_length.ensures.0, c.if-out-size.false))
