-- `radio_lines::too_long` meets its contract: of each line that is too long, the same fault. Assumes nothing.
use Rattle.std.specs.Prelude.{Err}
use mathlib.Core.Path.{ap, ◌∙◌}
use Prim.Native.Nat.{ℕ}
use native.Mathlib.Omega.{arith}
use Rattle.refusals.specs.Verdicts.{placed}
use Rattle.tables.specs.Columns.{number}
use Rattle.book.specs.Room.{book_of}
use Rattle.radio_lines.proofs.Lines.{long_head, long_full, long_row}
use Rattle.radio_lines.proofs.too_long.Goals as goal
use Rattle.radio_lines.proofs.too_long.Goals.{else-line-ne-HEADER_LINE-via-then-line-ne-HEADER_LINE+else-room-count_rows, else-line-ne-HEADER_LINE-via-else-line-ne-HEADER_LINE}

pub returns-then-room-count_rows : goal.returns-then-room-count_rows
returns-then-room-count_rows c =
    let a = c.args in
    let so = c.on.ensures ∙ ap (λ (k : ℕ). placed k a.line (Err c.too_many_rows.result)) c.number.ensures ∙ ap (placed (number a.t) a.line) c.too_many_rows.ensures in
    λ l head long. long_full a.t l (book_of a.book.now) a.line head (Err c.on.result) long c.if-line-ne-HEADER_LINE.true (omega (arith, c.room.ensures, c.count_rows.ensures.0)) so

pub returns : goal.returns
returns c =
    let a = c.args in
    let so = c.on-2.ensures ∙ ap (λ (k : ℕ). placed k a.line (Err c.line_too_long.result)) c.number-2.ensures ∙ ap (placed (number a.t) a.line) c.line_too_long.ensures in
    λ l head long.
    elim c.else-line-ne-HEADER_LINE.branch [
      | else-line-ne-HEADER_LINE-via-then-line-ne-HEADER_LINE+else-room-count_rows w ↦ long_row a.t l (book_of a.book.now) a.line head (Err c.on-2.result) long w.if-line-ne-HEADER_LINE.true (omega (arith, w.room.ensures, w.count_rows.ensures.0)) so
      | else-line-ne-HEADER_LINE-via-else-line-ne-HEADER_LINE w ↦ long_head a.t l (book_of a.book.now) a.line head (Err c.on-2.result) long w.if-line-ne-HEADER_LINE.false so
    ]
