-- `writer::line_length` meets its contract: a row has 11 numbers. Assumes nothing.
use native.Mathlib.Omega.{arith}
use Rattle.writer.proofs.line_length.Goals as goal

pub returns : goal.returns
returns c = (c.numbers_length.ensures.0 59, omega (arith, c.numbers_length.ensures.1, c.well_formed.0.1.0.1))
