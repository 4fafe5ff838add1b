-- `numbers::number_of` meets its contract: the number so far has fewer places than bytes are read, and the digits behind it read on. Assumes nothing.
use mathlib.Core.Path.{◌≡◌}
use Prim.Native.Nat.{◌^◌, ◌≤◌, ◌<◌}
use lib.ListN.{length, drop}
use Rattle.numbers.specs.Decimals.{decimal_of}
use Rattle.numbers.proofs.Decimals.{read_from}
use Rattle.numbers.proofs.number_of.Given as goal

abbrev pub invariant-loop-byte : goal.invariant-loop-byte
invariant-loop-byte l = (length l.digits ≤ 19) × (l.v < 10 ^ l.byte-index) × (read_from l.v (drop l.byte-index l.digits) ≡ decimal_of l.width l.digits)
