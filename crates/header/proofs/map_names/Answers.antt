-- `header::map_names` meets its contract: a column that comes twice, and one that is missing. Assumes nothing.
use mathlib.Core.Path.{sym, ap, ◌∙◌}
use native.Mathlib.Omega.{arith}
use Rattle.refusals.specs.Verdicts.{Check}
use Rattle.cells.specs.Cells.{cut, cells_of}
use Rattle.header.specs.Header.{header}
use Rattle.header.specs.Heading.{headed}
use Rattle.header.proofs.Names.{names_twice, names_missing}
use Rattle.header.proofs.map_names.Goals as goal

pub returns-then-twice-ne0 : goal.returns-then-twice-ne0
returns-then-twice-ne0 c =
    let a = c.args in
    let h = header a.edition a.t (cells_of (cut a.edition a.line.now)) in
    let n = c.note_names-twice in
    c.no_heading.ensures h ∙ ap (λ (q : Check). headed q h) (c.column_twice.ensures ∙ sym (names_twice a.edition a.t h n.result.twice (sym n.ensures.twice) (omega (arith, c.if-twice-ne0.true))))

pub returns-then-lowest-ne0 : goal.returns-then-lowest-ne0
returns-then-lowest-ne0 c =
    let a = c.args in
    let h = header a.edition a.t (cells_of (cut a.edition a.line.now)) in
    let n = c.note_names-twice.ensures in
    let low = c.lowest_missing-lowest in
    c.no_heading-then-lowest-ne0.ensures h ∙ ap (λ (q : Check). headed q h) (c.column_missing.ensures ∙ sym (names_missing a.edition a.t h (sym n.twice ∙ c.if-twice-ne0.false) low.result (sym (low.ensures h (n.noted c.if-twice-ne0.false))) c.if-lowest-ne0.true))
