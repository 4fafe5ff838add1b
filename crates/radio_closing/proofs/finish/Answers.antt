-- `radio_closing::finish` meets its contract. Assumes nothing.
use mathlib.Core.Path.{sym, subst, ◌∙◌}
use Prim.Native.Nat.{◌+◌, ◌<◌, ◌^◌}
use Rattle.radio_lines.specs.Lines.{Holding}
use Rattle.radio_lines.specs.declared.Heard.{Heard}
use Rattle.radio_closing.proofs.Finishing.{finish_fault, finish_none, finish_last, last_asks}
use Rattle.radio_closing.proofs.finish.Goals as goal

pub returns-then-kept-ne0 : goal.returns-then-kept-ne0
returns-then-kept-ne0 c =
    let at = c in
    let a = at.args in
    finish_fault a.t a.book.now a.kept.now a.lines.now at.requires.0 c.if-kept-ne0.true _ c.kept_fault.ensures

pub returns-then-none_left : goal.returns-then-none_left
returns-then-none_left c =
    let at = c in
    let a = at.args in
    finish_none a.t a.book.now a.kept.now a.lines.now at.requires.0 c.if-kept-ne0.false (sym c.none_left.ensures ∙ c.if-none_left.true)

pub last_line-requires : goal.last_line-requires
last_line-requires c =
    let at = c in
    let a = at.args in
    subst (λ (x : Heard). Holding a.t x a.book.now a.lines.now × (x.line + x.rest + 1 < 2 ^ 64)) (sym c.take_up-from.ensures)
    (last_asks a.t a.book.now a.kept.now a.lines.now at.requires.0 c.if-kept-ne0.false at.requires.1)

pub returns : goal.returns
returns c =
    let at = c in
    let a = at.args in
    finish_last a.t a.book.now a.kept.now a.lines.now at.requires.0 c.if-kept-ne0.false (sym c.none_left.ensures ∙ c.if-none_left.false) _ c.take_up-from.ensures _ _ c.last_line.ensures
