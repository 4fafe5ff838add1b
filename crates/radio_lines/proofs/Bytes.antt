-- Bytes lent from the begin or to the end, and put into a room. Assumes nothing.
use mathlib.Core.Path.{◌≡◌, ap, ◌∙◌}
use Prim.Native.Nat.{ℕ, ◌+◌, ◌-◌, ◌≤◌}
use native.Mathlib.Omega.{arith}
use lib.ListN.{length, take, drop, length-append, length-drop}
use lib.Seq.{take_all}
use Rattle.words.specs.Words.{Bytes}
use Rattle.numbers.specs.Putting.{put}

pub from_begin : (s : Bytes) (n : ℕ) → take (n - 0) (drop 0 s) ≡ take n s
from_begin s n = let z : n - 0 ≡ n = omega arith in ap (λ (k : ℕ). take k s) z

pub to_end : (s : Bytes) (n : ℕ) → take (length s - n) (drop n s) ≡ drop n s
to_end s n = take_all (length s - n) (drop n s) (rw length-drop (omega arith))

pub length_put : (s o : Bytes) → length s ≤ length o → length (put s o) ≡ length o
length_put s o h = length-append s (drop (length s) o) ∙ (let z : length s + length (drop (length s) o) ≡ length o = omega (arith, length-drop (length s) o) in z)
