-- `sheet::line_length` meets its contract: a letter, a tab, and the numbers. Assumes nothing.
use native.Mathlib.Omega.{arith}
use Rattle.sheet.proofs.Lines.{line_length_is}
use Rattle.sheet.proofs.line_length.Goals as goal

pub returns : goal.returns
returns c =
    let a = c.args in
    let e = c.numbers_length.ensures in
    ((λ letter. omega (arith, e.0 9, line_length_is letter a.numbers.now c.requires.0)), omega (arith, e.1))
