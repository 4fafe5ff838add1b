-- `keeping::marked` meets its contract: the first number is a mark, and the others are zero. Assumes nothing.
use mathlib.Core.Path.{sym, ◌∙◌}
use Prim.Native.Nat.{◌<◌}
use native.Mathlib.Omega.{arith}
use lib.ListN.{get_or}
use mathlib.Core.List.{[]}
use borrow.Author.Tests.{lt-leb}
use Rattle.keeping.proofs.Keeping.{marks_above}
use Rattle.keeping.proofs.marked.Goals as goal

pub returns-else-row-le-MARK_23 : goal.returns-else-row-le-MARK_23
returns-else-row-le-MARK_23 c =
    let row = get_or c.args.book.now 3360 [] in
    let h : 1 < get_or row 0 0 = omega (arith, c.if-row-le-MARK_23.false) in
    lt-leb (get_or row 0 0) 1 h ∙ sym (marks_above row h)
