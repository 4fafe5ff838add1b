-- `hours::type_hours` meets its contract: 16, 15, or the two numbers. Assumes nothing.
use lib.Ieee.{of_bits, binary64}
use Rattle.hours.proofs.Answers.{seconds_fit, keeps_there, hours_there, hours_refused, zero_bits}
use Rattle.hours.proofs.type_hours.Goals as goal

pub hours-hours-requires : goal.hours-hours-requires
hours-hours-requires c =
    let a = c.args in
    rw c.type_answer-found.ensures (seconds_fit a.book.now a.version a.number)

pub hours_summed-summed-requires : goal.hours_summed-summed-requires
hours_summed-summed-requires c =
    let h = c in
    let f = h in
    let a = f.args in
    keeps_there a.book.now a.version a.number f.type_answer-found.result h.hours-hours.result f.type_answer-found.ensures h.hours-hours.ensures c.in-Ok.is

pub returns-in-Ok : goal.returns-in-Ok
returns-in-Ok c =
    let h = c in
    let f = h in
    let a = f.args in
    hours_there a.book.now a.version a.number f.type_answer-found.result h.hours-hours.result f.type_answer-found.ensures h.hours-hours.ensures c.in-Ok.is c.hours_summed-summed.result c.hours_summed-summed.ensures

pub returns-in-Err : goal.returns-in-Err
returns-in-Err c =
    let h = c in
    let f = h in
    let a = f.args in
    hours_refused a.book.now a.version a.number f.type_answer-found.result h.hours-hours.result f.type_answer-found.ensures h.hours-hours.ensures c.in-Err.field-0 c.in-Err.is (of_bits binary64 0) zero_bits
