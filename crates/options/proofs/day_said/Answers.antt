-- A day is what the word is read as.
use Rattle.std.proofs.Common.{◌∙◌, ap, ℕ}
use Rattle.std.specs.Prelude.{Option}
use Rattle.std.specs.Option.{unwrap_or}
use Rattle.options.proofs.Saying.{day_or_none}
use Rattle.options.proofs.day_said.Goals as goal

pub returns : goal.returns
returns c = c.unwrap_or.ensures ∙ ap (λ (o : Option ℕ). unwrap_or o 0) c.number_of.ensures ∙ day_or_none c.args.word.now
