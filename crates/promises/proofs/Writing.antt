-- A number that is written: its digits, its width, and that it is read back; and cells put together, each with a byte behind it. Assumes nothing.
use mathlib.Core.Path.{◌≡◌, refl}
use mathlib.Core.List.{[], ◌∷◌}
use Prim.Native.Nat.{ℕ, ◌≤◌}
use native.Mathlib.Omega.{arith}
use borrow.Author.Tests.{le-ltb, ne_eqb}
use Rattle.words.specs.Words.{Bytes}
use Rattle.cells.specs.Cells.{kind, content}
use Rattle.cells.specs.declared.Kind.TheVariants.{Other}
use Rattle.numbers.proofs.Writing.{EachDigit}

pub digit_kind : (b : ℕ) → 48 ≤ b → b ≤ 57 → kind b ≡ Other
digit_kind b p q = rw (ne_eqb b 34 (λ e. omega arith), ne_eqb b 59 (λ e. omega arith), le-ltb b 32 (omega arith), ne_eqb b 127 (λ e. omega arith))

pub digits_content : (s : Bytes) → EachDigit s → content s ≡ s
unfolding EachDigit
digits_content [] h = refl
digits_content (b ∷ bs) h = let p : 48 ≤ b = h.0 in rw (ne_eqb b 34 (λ e. omega arith))
