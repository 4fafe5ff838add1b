-- `radio_parts::take_part` meets its contract. Assumes nothing.
use Rattle.radio_parts.proofs.Parting.{only_counted, hear_asks, part_kept, holds_by}
use borrow.Author.Rules.{rules}
use Rattle.radio_parts.proofs.take_part.Goals as goal

pub returns-then-kept-ne0 : goal.returns-then-kept-ne0
returns-then-kept-ne0 c =
    let at = c in
    let a = at.args in
    only_counted a.bytes.now a.book.now a.kept.now a.lines.now at.requires c.if-kept-ne0.true _ c.counted-come.ensures

pub hear-heard-requires : goal.hear-heard-requires
hear-heard-requires c =
    let at = c in
    let a = at.args in
    hear_asks a.bytes.now a.book.now a.kept.now a.lines.now at.requires c.if-kept-ne0.false _ c.table_heard-t.ensures _ c.take_up-from.ensures _ c.to_be_read.ensures

pub keep-requires : goal.keep-requires
keep-requires c =
    let at = c in
    let a = at.args in
    let h = at.requires in
    record { rows = search rules; numbers = h.numbers; bytes = search rules; least = h.heard; last = h.last; holds = λ e. holds_by _ _ c.table_heard-t.ensures _ _ _ (c.hear-heard.ensures.holds e) }

pub returns : goal.returns
returns c =
    let at = c in
    let a = at.args in
    part_kept a.bytes.now a.book.now a.kept.now a.lines.now at.requires c.if-kept-ne0.false _ c.table_heard-t.ensures _ c.take_up-from.ensures _ c.to_be_read.ensures _ _ _ c.keep.ensures c.counted-come.ensures c.hear-heard.ensures.is
