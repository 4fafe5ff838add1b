-- `rules::block_finds` meets its contract: a known point's stop is known. Assumes nothing.
use mathlib.Core.Path.{sym, ◌∙◌}
use lib.Dec.{lit<}
use Rattle.tables.specs.Columns.{references}
use Rattle.tables.specs.declared.Table.TheVariants.{Block}
use Rattle.book.specs.Room.{book_of}
use Rattle.rules.proofs.Referring.{one_missing}
use Rattle.rules.proofs.Points.{block_passes}
use Rattle.rules.proofs.block_finds.Goals as goal
use Rattle.rules.proofs.block_finds.Goals.{then-finds, else-finds, then-finds-2, else-finds-2}

pub returns-then-finds-3 : goal.returns-then-finds-3
returns-then-finds-3 c =
    elim c.if-finds-2.branch [
      | then-finds-2 w ↦
          elim c.if-finds.branch [
            | then-finds v ↦
                sym (block_passes (book_of c.args.book.now) c.args.row c.requires.1
                (sym c.finds.ensures ∙ v.if-finds.true) (sym v.finds-then-finds.ensures ∙ sym v.value-is ∙ w.if-finds-2.true)
                (sym w.finds-then-finds-2.ensures ∙ sym w.value-is ∙ c.if-finds-3.true) _ (sym c.finds-then-finds-3.ensures))
            | else-finds v ↦ cc
          ]
      | else-finds-2 w ↦ cc
    ]

pub returns-else-finds-3 : goal.returns-else-finds-3
returns-else-finds-3 c =
    elim c.if-finds-2.branch [
      | then-finds-2 w ↦
          c.if-finds-3.false ∙ sym (one_missing c.args.row (book_of c.args.book.now) (references Block) 3 (lit< tt) (sym w.finds-then-finds-2.ensures ∙ sym w.value-is ∙ c.if-finds-3.false))
      | else-finds-2 w ↦
          elim c.if-finds.branch [
            | then-finds v ↦
                c.if-finds-3.false ∙ sym (one_missing c.args.row (book_of c.args.book.now) (references Block) 1 (lit< tt) (sym v.finds-then-finds.ensures ∙ sym v.value-is ∙ w.if-finds-2.false))
            | else-finds v ↦ c.if-finds-3.false ∙ sym (one_missing c.args.row (book_of c.args.book.now) (references Block) 0 (lit< tt) (sym c.finds.ensures ∙ v.if-finds.false))
          ]
    ]
