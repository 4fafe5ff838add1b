-- `radio_slices::settle` meets its contract: by the verdict. Assumes nothing.
use mathlib.Core.Path.{◌∙◌}
use Rattle.radio_slices.proofs.Slices.{no_lines}
use Rattle.radio_slices.proofs.Settling.{settled_fault, settled_book}
use Rattle.radio_slices.proofs.settle.Goals as goal

pub returns-in-Err : goal.returns-in-Err
returns-in-Err c =
    let at = c in
    settled_fault _ at.requires.heard at.requires.last at.args.verdict at.args.book.now _ c.in-Err.is _ c.stop.ensures

pub returns-in-Ok : goal.returns-in-Ok
returns-in-Ok c =
    let at = c in
    settled_book at.args.verdict at.args.book.now at.args.kept.now at.args.lines.now at.requires c.in-Ok.is _ _ c.copy_numbers.ensures
    (c.clear_bytes.ensures ∙ no_lines _ at.requires.bytes)
