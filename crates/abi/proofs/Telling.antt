-- A verdict that was put on paper is told. Assumes nothing.
use mathlib.Core.Path.{◌≡◌, ap, ◌∙◌}
use mathlib.Core.List.{List}
use Prim.Native.Nat.{ℕ}
use lib.ListN.{get_or}
use Rattle.refusals.specs.Verdicts.{paper, Verdict}
use Rattle.abi.specs.Telling.{Tells}

pub telling : (told : List ℕ) (v w : Verdict) → told ≡ paper v → v ≡ w → Tells (get_or told 0 0) told w
telling told v w written e =
    let same : told ≡ paper w = written ∙ ap paper e in
    (ap (λ l. get_or l 0 0) same, same)
