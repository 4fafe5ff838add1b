-- `rules::unknown_reference` meets its contract: a block whose references are all known passes, any other row's are sought one by one. Assumes nothing.
use mathlib.Core.Path.{◌≡◌, sym, ap, subst, ◌∙◌}
use Rattle.tables.specs.declared.Table.{Table}
use Rattle.tables.specs.declared.Table.TheVariants.{Block}
use Rattle.book.specs.Room.{book_of}
use Rattle.rules.specs.Rules.{unknown}
use Rattle.rules.specs.Points.{Referable}
use Rattle.rules.proofs.Referring.{passed}
use Rattle.rules.proofs.unknown_reference.Goals as goal
use denote.Enum.Bare.{same_true}
use Rattle.tables.specs.contracts.Table.{the_type}
use borrow.Author.Rules.{rules}

pub block_finds-requires : goal.block_finds-requires
block_finds-requires c =
    let is : c.args.t ≡ Block = same_true the_type (search rules) _ _ (sym c.if-eq.ensures) in
    (c.requires.0, subst (λ (x : Table). Referable x (book_of c.args.book.now)) is c.requires.1)

pub returns-then-block_finds : goal.returns-then-block_finds
returns-then-block_finds c =
    let b = book_of c.args.book.now in
    let is : c.args.t ≡ Block = same_true the_type (search rules) _ _ (sym c.if-eq.ensures) in
    sym (ap (λ (x : Table). unknown x c.args.row b) is ∙ passed (unknown Block c.args.row b) (sym c.block_finds.ensures ∙ c.if-block_finds.true))
