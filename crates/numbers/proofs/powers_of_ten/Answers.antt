-- `numbers::powers_of_ten` meets its contract. Assumes nothing.
use mathlib.Core.Path.{refl}
use Rattle.numbers.specs.Powers.{powers_from, powers_of_ten}
use Rattle.numbers.proofs.powers_of_ten.Goals as goal

pub returns : goal.returns
unfolding powers_of_ten powers_from
returns c = refl
