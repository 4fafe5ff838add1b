-- `sheet::type_numbers` meets its contract: the sums of the type's blocks. Assumes nothing.
use mathlib.Core.Path.{refl}
use Rattle.book.specs.Room.{book_of}
use Rattle.sheet.proofs.Lines.{type_line_is}
use Rattle.sheet.proofs.type_numbers.Goals as goal

pub returns : goal.returns
returns c =
    let a = c.args in
    let sums = c.blocks_summed-sums in
    type_line_is (book_of a.book.now).blocks a.row a.row sums.result.seconds sums.result.count refl sums.ensures.0 sums.ensures.1
