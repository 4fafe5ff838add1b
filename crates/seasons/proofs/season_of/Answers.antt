-- `seasons::season_of` meets its contract. Assumes nothing.
use mathlib.Core.Path.{refl, ◌∙◌}
use Rattle.book.specs.Room.{book_of}
use Rattle.seasons.proofs.Summing.{season_tallied}
use Rattle.seasons.proofs.season_of.Goals as goal

pub days_summed-requires : goal.days_summed-requires
days_summed-requires c =
    let t = c.tally_blocks-at in
    (c.requires, t.ensures.rises, t.ensures.within, t.ensures.most)

pub returns : goal.returns
returns c =
    let a = c.args in
    let t = c.tally_blocks-at in
    c.days_summed.ensures ∙ season_tallied a.first a.last a.version a.number (book_of a.book.now).blocks _ t.result t.ensures (book_of a.book.now).days

pub tally_blocks-at-requires : goal.tally_blocks-at-requires
tally_blocks-at-requires c = (c.requires, refl)
