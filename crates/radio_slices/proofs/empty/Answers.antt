-- `radio_slices::empty` meets its contract, slice by slice. Assumes nothing.
use mathlib.Core.Path.{◌∙◌}
use Rattle.radio_slices.proofs.Slices.{slices_are, no_lines}
use Rattle.radio_slices.proofs.empty.Goals as goal

pub returns : goal.returns
returns c =
    slices_are _ _ _ _ _ _ c.begin.ensures c.copy_numbers.ensures (c.clear_bytes.ensures ∙ no_lines _ c.requires.3)
