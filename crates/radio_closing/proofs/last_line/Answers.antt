-- `radio_closing::last_line` meets its contract. Assumes nothing.
use mathlib.Core.Path.{ap}
use lib.ListN.{take}
use Rattle.words.specs.Words.{Bytes}
use Rattle.book.specs.Room.{book_of}
use Rattle.radio.specs.Radio.{line_heard}
use Rattle.radio_closing.proofs.Finishing.{comes_last, last_copied}
use Rattle.radio_closing.proofs.last_line.Goals as goal

pub returns : goal.returns
returns c =
    let at = c in
    let a = at.args in
    comes_last _ _ _ _ _ c.hear_line-heard.ensures.0 _
    (ap (λ (x : Bytes). line_heard a.t x (book_of a.book.now) a.from.line (take a.from.head a.lines.now))
    (last_copied a.from.rest a.lines.now _ _ at.requires.0.long at.requires.0.rests c.write_bytes.ensures.1))
