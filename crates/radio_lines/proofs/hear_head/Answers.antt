-- `radio_lines::hear_head` meets its contract: a header that passes is kept. Assumes nothing.
use Rattle.std.specs.Prelude.{Err}
use mathlib.Core.Path.{sym, ◌∙◌}
use native.Mathlib.Omega.{arith}
use Rattle.std.proofs.lemmas.Result.{err_from_is_err_and}
use Rattle.refusals.proofs.Placing.{placed_passes}
use Rattle.tables.specs.Columns.{number}
use Rattle.header.specs.Header.{header_check}
use Rattle.table_reading.proofs.Taking.{not_accepted}
use Rattle.radio_lines.proofs.Lines.{head_verdict, head_short}
use Rattle.radio_lines.proofs.hear_head.Goals as goal

pub write_bytes-requires : goal.write_bytes-requires
write_bytes-requires c =
    let st = c in
    let so = head_verdict st.args.edition st.args.t st.args.line.now c.read_header-heading.result c.number.result c.placed.result c.read_header-heading.ensures c.number.ensures c.placed.ensures in
    omega (arith, head_short st.args.edition st.args.t st.args.line.now (placed_passes (number st.args.t) 1 (header_check st.args.edition st.args.t st.args.line.now) (sym so ∙ c.in_ok-placed.was)), st.requires)

pub returns : goal.returns
returns c =
    let st = c in
    let so = head_verdict st.args.edition st.args.t st.args.line.now c.read_header-heading.result c.number.result c.placed.result c.read_header-heading.ensures c.number.ensures c.placed.ensures in
    (sym c.in_ok-placed.was ∙ so, λ e. c.write_bytes.ensures.1)

pub returns-in_err-placed : goal.returns-in_err-placed
returns-in_err-placed c =
    let st = c in
    let so = head_verdict st.args.edition st.args.t st.args.line.now c.read_header-heading.result c.number.result c.placed.result c.read_header-heading.ensures c.number.ensures c.placed.ensures in
    let p = err_from_is_err_and c.from_residual.result c.from_residual.ensures.1 in
    rw (p.1, p.2) (sym c.in_err-placed.was ∙ so, λ e. not_accepted _ e)
