-- A book that keeps the book rule has its tables, and a season can be asked of it.
use Rattle.std.proofs.Common.{sym, ◌∙◌}
use Rattle.keeping.proofs.Keeping.{keeps_sound}
use Rattle.season.proofs.tell_types.Goals as goal

pub rows_of-row-items-requires : goal.rows_of-row-items-requires
rows_of-row-items-requires g c = keeps_sound c.args.book.now (sym c.keeps_rule.ensures ∙ c.if-not-keeps_rule.false)

pub season_of-seconds-requires : goal.season_of-seconds-requires
season_of-seconds-requires g c = sym c.keeps_rule.ensures ∙ c.if-not-keeps_rule.false
