-- `slips::take_whole` meets its contract: all lines, or the book as it was. Assumes nothing.
use mathlib.Core.Path.{ap, ◌∙◌}
use Rattle.editions.specs.declared.Edition.{Edition}
use Rattle.tables.specs.Listing.{listed}
use Rattle.tables.specs.declared.Table.TheVariants.{Block}
use Rattle.slips.proofs.Posting.{whole}
use Rattle.slips.proofs.take_whole.Goals as goal

pub edition_of-edition-requires : goal.edition_of-edition-requires
edition_of-edition-requires c = c.requires.0.long

pub take_lines-posted-requires : goal.take_lines-posted-requires
take_lines-posted-requires c =
    let rules = c.column_rules-columns in
    let edition = c.edition_of-edition in
    let st = c in
    (c.shelve-n.ensures.0, st.requires.2, rules.ensures ∙ ap (λ (e : Edition). listed e Block) edition.ensures)

pub returns : goal.returns
returns c =
    let st = c in
    let t = c.take_lines-posted in
    whole st.args.slip.now st.args.book.now st.args.work.now _ _ t.result.verdict _ c.shelve-n.ensures.1 t.ensures.result c.lay_accepted.ensures
