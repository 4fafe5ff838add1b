-- `radio_slices::begin_table` meets its contract. Assumes nothing.
use mathlib.Core.Path.{◌≡◌, ap, ◌∙◌}
use Prim.Native.Nat.{ℕ, ◌+◌}
use native.Mathlib.Omega.{arith}
use Rattle.radio.specs.Radio.{counted}
use Rattle.radio_slices.specs.Numbers.{numbers_announced}
use Rattle.radio_slices.proofs.begin_table.Goals as goal

pub returns : goal.returns
returns c =
    let a = c.args in
    let z : 0 + a.length ≡ a.length = omega arith in
    c.copy_numbers.ensures ∙ ap (λ (n : ℕ). numbers_announced n a.kept.now) (c.counted.ensures ∙ ap counted z)
