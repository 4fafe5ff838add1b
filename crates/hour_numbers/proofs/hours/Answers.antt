-- `hour_numbers::hours` meets its contract: the machine's 3600.0 is the whole number 3,600. Assumes nothing.
use mathlib.Core.Path.{◌≡◌, refl, ap}
use Prim.Native.Nat.{◌^◌}
use native.Mathlib.Omega.{arith}
use lib.Dec.{le→leb}
use lib.IntN.{pos}
use lib.Ieee.{div, binary64, of_bits, in_float, of_int}
use Rattle.hour_numbers.proofs.hours.Goals as goal

hour : of_bits binary64 4660134898793709568 ≡ of_int binary64 (pos 3600)
unfolding of_bits of_int
hour = refl

pub int_to_float-result : goal.int_to_float-result
unfolding in_float
int_to_float-result c = le→leb c.args.seconds (2 ^ 53) (omega arith)

pub returns : goal.returns
returns c = ap (div binary64 (of_int binary64 (pos c.args.seconds))) hour
