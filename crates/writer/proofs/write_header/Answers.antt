-- `writer::write_header` meets its contract: the names of the blocks' columns, as one text, are the line. Assumes nothing.
use native.Mathlib.Omega.{arith}
use borrow.Author.Rules.{rules}
use Rattle.words.specs.Words.{bytes}
use Rattle.cells.specs.Cells.{parted}
use Rattle.numbers.proofs.Putting.{put_byte}
use Rattle.tables.specs.Columns.{columns_of}
use Rattle.writer.specs.Writing.{names_line}
use Rattle.writer.proofs.Answers.{header_length}
use Rattle.writer.proofs.write_header.Goals as goal

pub write_bytes-at-requires : goal.write_bytes-at-requires
write_bytes-at-requires c = omega (arith, header_length)

pub bounds-out-at : goal.bounds-out-at
bounds-out-at c = search (rules, header_length)

pub returns : goal.returns
unfolding columns_of parted bytes
returns c =
    let s = c in
    let w = c.write_bytes-at in
    (omega (arith, header_length, w.ensures.0), put_byte names_line s.args.out.now w.new.out w.result 10 w.ensures.0 w.ensures.1 (omega (arith, header_length, w.ensures.0, s.requires)))
