-- `writer::write_table` meets its contract: the header line, and behind it the lines of the rows. Assumes nothing.
use mathlib.Core.Path.{◌≡◌, sym, ap, ◌∙◌}
use mathlib.Core.List.{[], ◌∷◌, ◌++◌, map}
use Prim.Native.Nat.{◌+◌}
use native.Mathlib.Omega.{arith}
use lib.ListN.{length, take, length-append}
use Rattle.words.specs.Words.{Bytes}
use Rattle.refusals.specs.Verdicts.{nowhere, Check}
use Rattle.numbers.specs.Putting.{put}
use Rattle.numbers.proofs.Putting.{lent, length_rest, length_back}
use Rattle.writer.specs.Writing.{lines_written, names_line, row_line}
use Rattle.writer.proofs.Answers.{too_short, all_written, line_first, line_first_length, header_length}
use Rattle.writer.proofs.write_table.Goals as goal
use Rattle.writer.proofs.write_table.Goals.{After-lines_length-size}

-- the lines of the rows, and the whole text
abbrev lines : After-lines_length-size → Bytes
lines c = lines_written (map row_line (take c.args.n c.args.list.now))

abbrev text : After-lines_length-size → Bytes
text c = lines_written (names_line ∷ map row_line (take c.args.n c.args.list.now))

counted : (c : After-lines_length-size) → 145 + c.lines_length-size.result ≡ length (text c)
counted c =
    omega (
      arith,
      c.lines_length-size.ensures.0,
      header_length,
      line_first_length names_line (map row_line (take c.args.n c.args.list.now)),
    )

pub returns-then-out-size : goal.returns-then-out-size
returns-then-out-size c =
    let l = c in
    too_short (text (goal.at.returns-then-out-size c).After-lines_length-size) l.args.out.now (145 + l.lines_length-size.result) (counted (goal.at.returns-then-out-size c).After-lines_length-size) c.unwritten.result.verdict c.unwritten.result.size (omega arith)
    (c.unwritten.ensures.0 ∙ ap (λ (k : Check). nowhere k) c.output_short.ensures) c.unwritten.ensures.1

pub write_header-at-requires : goal.write_header-at-requires
write_header-at-requires c = omega (arith, header_length)

pub slice_bounds-write_rows-count : goal.slice_bounds-write_rows-count
slice_bounds-write_rows-count c = omega (arith, header_length, c.write_header-at.ensures.0)

pub slice_bounds-write_rows-start : goal.slice_bounds-write_rows-start
slice_bounds-write_rows-start c = omega (arith, header_length, c.write_header-at.ensures.0)

pub write_rows-requires : goal.write_rows-requires
write_rows-requires c =
    let h = c.write_header-at in
    let l = c in
    (l.requires.0, rw (length_rest h.new.out h.result) (omega (arith, header_length, h.ensures.0, h.auto.out, l.lines_length-size.ensures.0)))

pub shape_of-out : goal.shape_of-out
shape_of-out c =
    let h = c.write_header-at in
    let w = c.write_rows in
    length_back h.new.out w.new.out h.result w.auto.out ∙ h.auto.out

pub returns : goal.returns
returns c =
    let h = c.write_header-at in
    let l = c in
    let w = c.write_rows in
    let o = l.args.out.now in
    let head = names_line ++ (10 ∷ []) in
    let at : h.result ≡ length head = simp length-append h.ensures.0 in
    all_written (text (goal.at.returns c).After-lines_length-size) o (145 + l.lines_length-size.result) (counted (goal.at.returns c).After-lines_length-size) _ (omega arith)
    (lent head (lines (goal.at.returns c).After-lines_length-size) o h.new.out w.new.out h.result at h.ensures.1 w.ensures.1
    ∙ ap (λ (t : Bytes). put t o) (sym (line_first names_line (map row_line (take l.args.n l.args.list.now)))))
