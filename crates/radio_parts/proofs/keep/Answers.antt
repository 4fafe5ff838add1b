-- `radio_parts::keep` meets its contract: by the verdict. Assumes nothing.
use Rattle.radio_parts.proofs.Keeping.{kept_fault, kept_going}
use Rattle.radio_parts.proofs.keep.Goals as goal

pub clear_behind-requires : goal.clear_behind-requires
clear_behind-requires c =
    let at = c in
    let o = at.requires.holds c.in-Ok.is in
    (at.requires.bytes, o.heads, o.rests)

pub returns-in-Err : goal.returns-in-Err
returns-in-Err c =
    let at = c in
    let a = at.args in
    kept_fault a.heard a.book.now a.kept.now a.lines.now at.requires a.come _ c.in-Err.is _ c.stop.ensures

pub returns-in-Ok : goal.returns-in-Ok
returns-in-Ok c =
    let at = c in
    let a = at.args in
    kept_going a.heard a.book.now a.kept.now a.lines.now at.requires a.come c.in-Ok.is _ _ c.copy_numbers.ensures c.clear_behind.ensures
