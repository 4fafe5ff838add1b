-- `radio_parts::clear_behind` meets its contract. Assumes nothing.
use mathlib.Core.Path.{refl}
use Rattle.lines.specs.Lines.{most_line}
use Rattle.radio.specs.Radio.{kept_line}
use Rattle.radio_parts.proofs.Lines.{zeros_behind}
use Rattle.radio_parts.proofs.clear_behind.Goals as goal

pub returns : goal.returns
returns c =
    let at = c in
    zeros_behind most_line kept_line at.args.head at.args.rest at.args.lines.now at.requires.0 at.requires.1 at.requires.2 _ _ _ c.clear_bytes.ensures refl c.clear_bytes-2.ensures
