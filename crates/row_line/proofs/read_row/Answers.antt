-- `row_line::read_row` meets its contract: 17, 6 and 7, and the columns of any other line. Assumes nothing.
use mathlib.Core.Path.{◌≡◌, sym, ap, ◌∙◌}
use Rattle.refusals.specs.Verdicts.{◌⊳◌, Check}
use Rattle.std.specs.Prelude.{Ok, Err}
use Rattle.values.specs.Judged.{rowed, unkept}
use Rattle.header.specs.Header.{cut_check}
use Rattle.header.specs.Heading.{cells_kept}
use Rattle.row_line.specs.RowLine.{row_read}
use Rattle.row_line.specs.Judging.{cells_check}
use Rattle.row_line.proofs.read_row.Goals as goal

pub read_columns-requires : goal.read_columns-requires
read_columns-requires c = (c.cut_row-check.ensures.marks c.in-Ok.is, c.requires.0)

pub returns-in-Ok : goal.returns-in-Ok
returns-in-Ok c =
    let a = c.args in
    let line = a.line.now in
    λ h k.
    let e : cut_check a.edition h line ≡ (Ok tt) = sym (c.cut_row-check.ensures.is h (ap cells_kept k)) ∙ c.in-Ok.is in
    let z : (cut_check a.edition h line ⊳ cells_check a.edition a.t h line) ≡ cells_check a.edition a.t h line = rw e in
    c.read_columns.ensures h k ∙ ap (λ (q : Check). rowed q (row_read a.edition a.t h line)) (sym z)

pub returns-in-Err : goal.returns-in-Err
returns-in-Err c =
    let a = c.args in
    let line = a.line.now in
    λ h k.
    let e : cut_check a.edition h line ≡ Err c.in-Err.fault = sym (c.cut_row-check.ensures.is h (ap cells_kept k)) ∙ c.in-Err.is in
    let z : (cut_check a.edition h line ⊳ cells_check a.edition a.t h line) ≡ Err c.in-Err.fault = rw e in
    c.no_row.ensures ∙ ap (λ (q : Check). rowed q (row_read a.edition a.t h line)) (sym z)
