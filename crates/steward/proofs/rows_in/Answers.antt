-- A book that keeps the book rule can be counted.
use Rattle.std.proofs.Common.{sym, ◌∙◌}
use Rattle.keeping.proofs.Keeping.{keeps_sound}
use Rattle.steward.proofs.rows_in.Goals as goal

pub count_rows-requires : goal.count_rows-requires
count_rows-requires c = keeps_sound c.args.book.now (sym c.keeps_rule.ensures ∙ c.if-keeps_rule.true)
