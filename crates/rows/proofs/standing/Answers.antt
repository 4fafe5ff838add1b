-- `rows::standing` meets its contract: a key stands where its place is taken. Assumes nothing.
use mathlib.Core.Path.{sym, ap, ◌∙◌}
use Rattle.std.specs.Prelude.{is_ok}
use Rattle.rows.specs.Room.{used}
use Rattle.rows.proofs.Places.{stands_spot}
use Rattle.rows.proofs.standing.Goals as goal

pub returns : goal.returns
returns c = c.is_ok.ensures.value ∙ ap is_ok c.seek.ensures ∙ sym (stands_spot c.args.k c.args.row (used c.args.list.now) c.requires.rises)
