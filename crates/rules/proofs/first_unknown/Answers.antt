use mathlib.Core.Path.{sym, ap, ◌∙◌}
use Prim.Native.Nat.{◌<◌}
use native.Mathlib.Omega.{arith}
use lib.ListN.{length}
use Rattle.refusals.specs.Verdicts.{no_row}
use Rattle.tables.specs.declared.Reference.{Reference}
use Rattle.tables.specs.Columns.{references}
use Rattle.book.specs.Room.{book_of}
use Rattle.rules.proofs.Referring.{unknown_next, unknown_here, unknown_end}
use Rattle.rules.proofs.first_unknown.Goals as goal

pub references-preserved : goal.references-preserved
references-preserved c =
    let at = c.references in
    let more : at.i < length (references c.args.t) = omega arith in
    record {
      whole = at.invariant.whole;
      left = at.invariant.left ∙ unknown_next c.args.t c.args.row (book_of c.args.book.now) at.i more (sym c.finds.ensures ∙ c.if-not-finds.false);
      passing = at.invariant.passing;
    }

pub returns-then-not-finds : goal.returns-then-not-finds
returns-then-not-finds c =
    let at = c.references in
    let more : at.i < length (references c.args.t) = omega arith in
    c.no_row.ensures
    ∙ sym (at.invariant.left ∙ unknown_here c.args.t c.args.row (book_of c.args.book.now) at.i more (sym c.finds.ensures ∙ c.if-not-finds.true) ∙ ap (λ (y : Reference). no_row y.column) (sym c.reference.ensures))

pub returns-after-references : goal.returns-after-references
returns-after-references c = c.references.invariant.passing ∙ sym (c.references.invariant.left ∙ unknown_end c.args.t c.args.row (book_of c.args.book.now) c.references.i (omega arith))
