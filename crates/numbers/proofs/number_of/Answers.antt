use mathlib.Core.Path.{sym, ◌∙◌}
use native.Mathlib.Omega.{arith}
use borrow.Author.Tests.{eqb-true, eqb-false}
use Rattle.numbers.proofs.Decimals.{decimal_empty, decimal_long, decimal_read, read_end, read_none, read_digit, digit_more, power_le}
use Rattle.numbers.proofs.number_of.Goals as goal
use Rattle.numbers.proofs.number_of.Goals.{then-is_empty-via-then-is_empty, then-is_empty-via-else-is_empty+then-width-digits}

pub returns-then-is_empty : goal.returns-then-is_empty
returns-then-is_empty c =
    elim c.then-is_empty.branch [
      | then-is_empty-via-then-is_empty w ↦ sym (decimal_empty c.args.width c.args.digits.now (eqb-true _ 0 (sym w.if-is_empty.ensures)))
      | then-is_empty-via-else-is_empty+then-width-digits w ↦ sym (decimal_long c.args.width c.args.digits.now w.if-width-digits.true)
    ]

pub loop-byte-init : goal.loop-byte-init
loop-byte-init c =
    (omega arith, omega arith, decimal_read c.args.width c.args.digits.now (eqb-false _ 0 (sym c.if-is_empty.ensures)) c.if-width-digits.false)

pub returns-then-not-is_ascii_digit : goal.returns-then-not-is_ascii_digit
returns-then-not-is_ascii_digit c =
    sym (read_none _ _ c.loop-byte.v c.loop-byte-test.true (sym c.if-not-is_ascii_digit.ensures.value)) ∙ c.loop-byte.invariant.2

pub overflow_mul-v : goal.overflow_mul-v
overflow_mul-v c = omega (arith, power_le c.loop-byte.byte-index 18 (omega arith))

pub overflow_add-v : goal.overflow_add-v
overflow_add-v c = omega (arith, power_le c.loop-byte.byte-index 18 (omega arith), c.from.ensures, c.if-not-is_ascii_digit.ensures)

pub loop-byte-preserved : goal.loop-byte-preserved
loop-byte-preserved c =
    let here = c.loop-byte in (
      here.invariant.0,
      digit_more _ _ _ here.invariant.1 (omega (arith, c.from.ensures, c.if-not-is_ascii_digit.ensures)),
      rw c.from.ensures (sym (read_digit _ _ here.v c.loop-byte-test.true (sym c.if-not-is_ascii_digit.ensures.value)) ∙ here.invariant.2),
    )

pub returns : goal.returns
returns c = sym (read_end _ _ c.loop-byte.v c.loop-byte-test.false) ∙ c.loop-byte.invariant.2
