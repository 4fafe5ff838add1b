-- `slip_line::kind_of` meets its contract: one byte, by which letter it is. Assumes nothing.
use native.Mathlib.Omega.{arith}
use Rattle.slip_line.proofs.Asking.{letter_add, letter_replace, letter_delete, letter_unknown, letter_other}
use Rattle.slip_line.proofs.kind_of.Goals as goal

pub returns-in-65 : goal.returns-in-65
returns-in-65 c = letter_add c.args.field.now (omega arith) (omega arith)

pub returns-in-82 : goal.returns-in-82
returns-in-82 c = letter_replace c.args.field.now (omega arith) (omega arith)

pub returns-in-68 : goal.returns-in-68
returns-in-68 c = letter_delete c.args.field.now (omega arith) (omega arith)

pub returns-in_default : goal.returns-in_default
returns-in_default c = letter_other c.args.field.now (λ e. omega arith)

pub returns-in_default-2 : goal.returns-in_default-2
returns-in_default-2 c = letter_unknown c.args.field.now (omega arith) (λ e. omega arith) (λ e. omega arith) (λ e. omega arith)

pub returns-in_default-3 : goal.returns-in_default-3
returns-in_default-3 c = letter_other c.args.field.now (λ e. omega arith)
