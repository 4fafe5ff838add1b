use mathlib.Core.Path.{refl, ap, ◌∙◌}
use mathlib.Core.List.{[]}
use Prim.Native.Nat.{◌≤◌}
use native.Mathlib.Omega.{arith}
use lib.ListN.{length}
use Rattle.words.specs.Words.{bytes}
use Rattle.words.proofs.Lists.{ended}
use Rattle.cells.proofs.Joining.{ended_more_length}
use Rattle.book.specs.Room.{book_of}
use Rattle.writer.proofs.RowLines.{all_lines}
use Rattle.sheet.specs.Sheet.{type_line}
use Rattle.sheet.proofs.Lines.{types_few}
use Rattle.sheet.proofs.types_length.Goals as goal

pub loop-row-init : goal.loop-row-init
unfolding ended
loop-row-init c = (omega arith, refl)

pub loop-row-preserved : goal.loop-row-preserved
unfolding bytes
loop-row-preserved c =
    let a = c.args in (
      omega (arith, c.line_length-size.ensures.1),
      omega (
        arith,
        ended_more_length (type_line (book_of a.book.now).blocks) [] 10 a.types.now c.loop-row.row-index c.loop-row-test.true,
        c.line_length-size.ensures.0 84,
        ap length c.type_numbers-numbers.ensures,
      ),
    )

pub returns : goal.returns
returns c =
    let a = c.args in
    let l = c.loop-row in
    let few : length a.types.now ≤ 512 = rw c.requires.1 (types_few a.book.now c.requires.0) in (
      rw c.requires.1 at (l.invariant.1 ∙ ap length (all_lines (type_line (book_of a.book.now).blocks) a.types.now l.row-index c.loop-row-test.false)),
      omega arith,
    )
