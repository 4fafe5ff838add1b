-- A table that is closed. Assumes nothing.
use mathlib.Core.Path.{◌≡◌}
use Prim.Native.Nat.{ℕ, ◌<◌, ◌≤◌}
use borrow.Author.Tests.{lt-ltb, le-ltb, eq-eqb, ne_eqb}
use Rattle.refusals.specs.Verdicts.{text_too_long, length_differs}
use Rattle.std.specs.Prelude.{Ok}
use Rattle.lines.specs.Lines.{most_bytes}
use Rattle.radio.specs.Radio.{length_check}

-- the lengths -----------------------------------------------------------------------------------------------------------------------

module _ (a n : ℕ) where
  pub length_over : most_bytes < a → text_too_long ≡ length_check a n
  length_over h = rw (lt-ltb most_bytes a h)

  pub length_differs_lem : a ≤ most_bytes → (a ≡ n → ⊥) → length_differs ≡ length_check a n
  length_differs_lem h d = rw (le-ltb most_bytes a h, ne_eqb a n d)

  pub length_right : a ≤ most_bytes → a ≡ n → (Ok tt) ≡ length_check a n
  length_right h e = rw (le-ltb most_bytes a h, eq-eqb a n e)
