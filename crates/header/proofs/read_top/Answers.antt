-- `header::read_top` meets its contract: a text that is too long, and the header of any other. Assumes nothing.
use Rattle.std.specs.Prelude.{Err}
use mathlib.Core.Path.{◌≡◌, ap, ◌∙◌}
use Prim.Native.Nat.{ℕ}
use native.Mathlib.Omega.{arith}
use Prim.Native.Nat.{◌≤◌, ◌-◌}
use lib.ListN.{length, take, drop}
use Rattle.words.proofs.Lists.{part_length}
use Rattle.refusals.specs.Verdicts.{placed}
use Rattle.tables.specs.Columns.{number}
use Rattle.lines.proofs.Lining.{head_within}
use Rattle.header.proofs.Kept.{top_long, top_headed}
use Rattle.header.proofs.read_top.Goals as goal
use Rattle.header.proofs.read_top.Goals.{After-placed-verdict}

-- the header's line ends in the text
inside : (c : After-placed-verdict) → let st = c in c.next_line-l.result.end ≤ length st.args.bytes.now
inside c =
    let st = c in
    let next = c.next_line-l in
    head_within st.args.edition st.args.bytes.now next.result next.ensures

pub returns-then-bytes-gt-MOST_BYTES : goal.returns-then-bytes-gt-MOST_BYTES
returns-then-bytes-gt-MOST_BYTES c =
    let st = c in
    top_long st.args.edition st.args.t st.args.bytes.now c.if-bytes-gt-MOST_BYTES.true _
    (c.on.ensures ∙ ap (λ (n : ℕ). placed n 0 (Err c.text_too_long.result)) c.number.ensures ∙ ap (placed (number st.args.t) 0) c.text_too_long.ensures)

pub slice_bounds-read_header-end : goal.slice_bounds-read_header-end
slice_bounds-read_header-end c = omega (arith, head_within c.args.edition c.args.bytes.now c.next_line-l.result c.next_line-l.ensures)

pub read_header-heading-requires : goal.read_header-heading-requires
read_header-heading-requires c = c.requires

pub slice_bounds-line_after-end : goal.slice_bounds-line_after-end
slice_bounds-line_after-end c = omega (arith, inside (goal.at.slice_bounds-line_after-end c).After-placed-verdict)

pub line_after-line-requires : goal.line_after-line-requires
line_after-line-requires c =
    let n = c.next_line-l.result.end in
    let s = c.args.bytes.now in
    let l : length (take (n - 0) (drop 0 s)) ≡ n - 0 = part_length s 0 n (inside (goal.at.line_after-line-requires c).After-placed-verdict) in
    omega (arith, l, inside (goal.at.line_after-line-requires c).After-placed-verdict, c.if-bytes-gt-MOST_BYTES.false)

pub returns : goal.returns
returns c =
    let st = c in
    let next = c.next_line-l in
    let g = c.read_header-heading in
    top_headed st.args.edition st.args.t st.args.bytes.now c.if-bytes-gt-MOST_BYTES.false next.result next.ensures g.result g.ensures c.placed-verdict.result c.line_after-line.result c.line_after-line.ensures
    (c.placed-verdict.ensures ∙ ap (λ (n : ℕ). placed n 1 g.result.check) c.number-2.ensures)
