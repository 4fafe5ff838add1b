use mathlib.Core.Path.{◌≡◌, refl, ap, sym, subst, ◌∙◌}
use mathlib.Core.List.{[]}
use Prim.Native.Nat.{◌≤◌, ◌<◌, ◌+◌}
use native.Mathlib.Omega.{arith}
use lib.ListN.{length, take, drop, length-set}
use lib.Seq.{take-suc-set}
use Rattle.cells.specs.Cells.{faulty, cells, cut}
use Rattle.cells.specs.Ends.{end_from}
use Rattle.cells.specs.declared.State.TheVariants.{Fresh}
use Rattle.std.specs.Prelude.{Some, None}
use Rattle.std.proofs.lemmas.Result.{err_from_is_err_and}
use Rattle.cells.proofs.Marking.{Sofar, nothing_yet, cells_bounded, good_answer, bad_answer, no_cells}
use Rattle.cells.proofs.Ending.{faulty_cell_lem, cell_ended, ends_behind, ends_within, following_last, following_next}
use Rattle.cells.proofs.cells_of.Goals as goal
use Rattle.cells.proofs.cells_of.Goals.{In_ok-i}

-- where the cell ends
told : (c : In_ok-i) → end_from c.args.edition Fresh c.cells.from (drop c.cells.from c.args.line.now) ≡ Some c.in_ok-i.i
told c = let o : c.cell_end.result ≡ Some c.in_ok-i.i = grind arith in sym c.cell_end.ensures ∙ o

behind : (c : In_ok-i) → c.cells.from ≤ c.in_ok-i.i
behind c = ends_behind c.args.edition c.args.line.now c.cells.from c.in_ok-i.i c.cells.invariant.2 (told c)

within : (c : In_ok-i) → c.in_ok-i.i ≤ length c.args.line.now
within c = ends_within c.args.edition c.args.line.now c.cells.from c.in_ok-i.i c.cells.invariant.2 (told c)

pub cells-init : goal.cells-init
cells-init c =
    let b = c.args.bounds.now in
    let e = c.note.ensures in
    (nothing_yet _ _ _ refl (λ h. ap (take 1) e ∙ take-suc-set b 0 0 (omega (arith, ap length e, length-set b 0 0))), omega arith, omega arith)

pub returns-in_err-i : goal.returns-in_err-i
returns-in_err-i c =
    let p = err_from_is_err_and c.from_residual.result c.from_residual.ensures.1 in
    let n : c.cell_end.result ≡ None = grind arith in
    let line = c.args.line.now in
    let at = c.cells in
    let e : cut c.args.edition (drop at.from line) ≡ faulty 1 = faulty_cell_lem c.args.edition line at.from (sym c.cell_end.ensures ∙ n) in
    let s = subst (Sofar _ _ _ _ _) e at.invariant.0 in
    let m : c.in_err-i.field-0.0 ≡ at.n + 1 = grind arith in
    rw (p.1, p.2, m) (bad_answer _ _ _ _ _ s, λ cs w. absurd (no_cells _ _ _ _ _ cs w s))

pub overflow_add-from : goal.overflow_add-from
overflow_add-from c = omega (arith, within (goal.at.overflow_add-from c).In_ok-i)

pub returns-then-i-line : goal.returns-then-i-line
returns-then-i-line c =
    let k = c in
    let line = c.args.line.now in
    let at = c.cells in
    let s = cell_ended c.args.edition line at.from k.in_ok-i.i at.invariant.2 (told (goal.at.returns-then-i-line c).In_ok-i) _ at.bounds _ at.n at.invariant.0 c.note-in-cells.ensures (cells []) (following_last c.args.edition line k.in_ok-i.i (omega (arith, c.if-i-line.true))) in
    (good_answer _ _ _ _ _ s, λ cs w. rw s.long (cells_bounded _ _ _ _ _ cs w s))

pub cells-smaller : goal.cells-smaller
cells-smaller c = omega (arith, within (goal.at.cells-smaller c).In_ok-i, behind (goal.at.cells-smaller c).In_ok-i, c.if-i-line.false)

pub cells-preserved : goal.cells-preserved
cells-preserved c =
    let k = c in
    let line = c.args.line.now in
    let at = c.cells in
    let h : k.in_ok-i.i < length line = omega (arith, c.if-i-line.false, within (goal.at.cells-preserved c).In_ok-i) in (
      cell_ended c.args.edition line at.from k.in_ok-i.i at.invariant.2 (told (goal.at.cells-preserved c).In_ok-i) _ at.bounds _ at.n at.invariant.0 c.note-in-cells.ensures _ (following_next c.args.edition line k.in_ok-i.i h),
      omega (arith, behind (goal.at.cells-preserved c).In_ok-i, at.invariant.1),
      omega arith,
    )
