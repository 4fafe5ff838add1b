-- `radio_hearing::first_feed` meets its contract. Assumes nothing.
use mathlib.Core.Path.{◌∙◌}
use native.Mathlib.Nat.{zero-add}
use Rattle.radio_hearing.proofs.first_feed.Goals as goal

pub returns : goal.returns
returns c = c.row_feed.ensures ∙ zero-add _ ∙ c.quotes_of-state.ensures c.args.part.now
