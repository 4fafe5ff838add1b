-- How many digits a number has, by the powers of ten that it reaches. Assumes nothing.
use mathlib.Core.Path.{◌≡◌}
use Prim.Native.Nat.{ℕ, zero, suc, ◌+◌, ◌*◌, ◌/◌, ◌^◌, ◌≤◌, ◌<◌}
use native.Mathlib.Nat.{pow-suc}
use native.Mathlib.Omega.{arith}
use native.Mathlib.Numerals.{add-one}
use lib.ListN.{length}
use Rattle.numbers.specs.Numbers.{decimal}
use Rattle.numbers.proofs.Decimals.{power_le}
use Rattle.numbers.proofs.Writing.{decimal_more_length, decimal_some, decimal_width}

-- a number that reaches a power of ten has more digits than the power
pub decimal_long : (w n : ℕ) → 10 ^ w ≤ n → w + 1 ≤ length (decimal n)
decimal_long zero n h = decimal_some n
decimal_long (suc w) n h =
    let power : 10 ^ suc w ≡ 10 ^ w * 10 = pow-suc 10 w in
    let some : 1 ≤ 10 ^ w = power_le 0 w (omega arith) in
    omega (arith, decimal_more_length n (omega arith), decimal_long w (n / 10) (omega arith))

pub decimal_exact : (w n : ℕ) → 1 ≤ w → w ≤ length (decimal n) → n < 10 ^ w → w ≡ length (decimal n)
decimal_exact zero n some long h = absurd (omega arith)
decimal_exact (suc w) n some long h = omega (arith, decimal_width w n h)

pub power_next : (b w : ℕ) → b ≡ 10 ^ w → b * 10 ≡ 10 ^ (w + 1)
power_next b w e = rw (add-one, pow-suc) (omega arith)
