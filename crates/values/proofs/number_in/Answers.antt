-- `values::number_in` meets its contract: a content and its stretch are read as the same number. Assumes nothing.
use mathlib.Core.Path.{ap, sym, ◌∙◌}
use Rattle.numbers.specs.Decimals.{decimal_of}
use Rattle.values.proofs.Decimals.{decimal_content}
use Rattle.values.proofs.number_in.Goals as goal

pub returns : goal.returns
returns c =
    let args = c.args in
    c.number_of.ensures ∙ ap (decimal_of args.width) c.stretch_of.ensures ∙ sym (decimal_content args.width args.cell.now)
