-- `rules::finds` meets its contract: the key that the reference names is asked for. Assumes nothing.
use mathlib.Core.Path.{sym}
use Rattle.book.specs.Room.{book_of}
use Rattle.rules.proofs.Referring.{asked_there}
use Rattle.rules.proofs.finds.Goals as goal

pub returns : goal.returns
returns c =
    let x = c.reference-reference in
    sym (asked_there c.args.t c.args.row (book_of c.args.book.now) c.args.i x.result c.named.result c.knowing.result x.ensures c.named.ensures c.knowing.ensures)
