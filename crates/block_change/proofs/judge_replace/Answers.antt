-- `block_change::judge_replace` meets its contract: 8, 11, 13, 10. Assumes nothing.
use mathlib.Core.Path.{◌∙◌}
use Rattle.block_change.proofs.judge_replace.Goals as goal

pub returns : goal.returns
returns c = c.and-3.ensures ∙ rw (c.and-2.ensures, c.and.ensures, c.early.ensures, c.unknown_reference-references.ensures)
