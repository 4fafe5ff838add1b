-- A number that is written is a plain cell on an unbroken line, and fits a column of its width. Assumes nothing.
use mathlib.Core.List.{[], ◌∷◌}
use mathlib.Core.Path.{◌≡◌}
use mathlib.Core.Bool.{true, ◌&&◌}
use Prim.Native.Nat.{◌≤◌, ℕ, suc, ◌^◌, ◌<◌}
use native.Mathlib.Omega.{arith}
use lib.Dec.{leb}
use lib.ListN.{length}
use borrow.Author.Tests.{ne_eqb, le-ltb, leb-true}
use Rattle.words.specs.Words.{Bytes}
use Rattle.words.proofs.Lists.{and_left, and_right}
use Rattle.std.specs.Prelude.{Ok}
use Rattle.numbers.specs.Numbers.{all_digits, decimal}
use Rattle.numbers.proofs.Writing.{EachDigit, decimal_some, decimal_is, read_back}
use Rattle.tables.specs.Columns.{in_range}
use Rattle.tables.specs.declared.Rules.{Rules}
use Rattle.tables.specs.declared.Sort.TheVariants.{Decimal}
use Rattle.values.specs.Values.{cell_check}
use Rattle.promises.proofs.Writing.{digit_kind}
use Rattle.promises.proofs.CutLaws.{AllPlain}
use Rattle.promises.proofs.LineLaws.{Unbroken}

pub digits_plain : (s : Bytes) → EachDigit s → AllPlain s
unfolding AllPlain EachDigit
digits_plain [] h = tt
digits_plain (b ∷ bs) h = (digit_kind b h.0 h.1, digits_plain bs h.2)

pub digits_unbroken : (s : Bytes) → EachDigit s → Unbroken s
unfolding Unbroken EachDigit
digits_unbroken [] h = tt
digits_unbroken (b ∷ bs) h =
    let p : 48 ≤ b = h.0 in
    (ne_eqb b 10 (λ e. omega arith), ne_eqb b 13 (λ e. omega arith), ne_eqb b 34 (λ e. omega arith), digits_unbroken bs h.2)

-- a number of the column's width and range has no fault
pub cell_good : (k : ℕ) (x : Rules) (w n : ℕ) → x.sort ≡ Decimal → x.width ≡ suc w → n < 10 ^ suc w → in_range x n ≡ true → cell_check k x (decimal n) ≡ Ok tt
cell_good k x w n s e h r =
    let d = decimal_is w n h in
    let long = leb 1 (length (decimal n)) && leb (length (decimal n)) (suc w) in
    let short = leb-true (length (decimal n)) (suc w) (and_right (leb 1 (length (decimal n))) (leb (length (decimal n)) (suc w)) (and_left long (all_digits (decimal n)) d)) in
    rw (ne_eqb (length (decimal n)) 0 (λ z. omega (arith, decimal_some n)), s, e, le-ltb (suc w) (length (decimal n)) short, and_right long (all_digits (decimal n)) d, read_back n, r)
