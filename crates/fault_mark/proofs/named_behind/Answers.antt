use mathlib.Core.Path.{◌≡◌, sym, ◌∙◌}
use Prim.Native.Nat.{◌<◌, ◌≤◌}
use native.Mathlib.Omega.{arith}
use lib.ListN.{length, get_or}
use Rattle.cells.specs.Cells.{cut, cells_of}
use Rattle.header.specs.Header.{header}
use Rattle.header.proofs.Names.{header_length, name_read}
use Rattle.fault_mark.proofs.Marking.{place_here, place_on, place_end}
use Rattle.fault_mark.proofs.named_behind.Goals as goal

pub returns-then-wide-column : goal.returns-then-wide-column
returns-then-wide-column c =
    let a = c.args in
    let w = c.loop-i in
    let cs = cells_of (cut a.edition a.head.now) in
    let l : w.i < length cs = omega (arith, c.requires.counted, c.loop-i-test.true) in
    let n : w.i < length (header a.edition a.t cs) = omega (arith, header_length a.edition a.t cs) in
    let e : get_or (header a.edition a.t cs) w.i 0 ≡ c.column_of-named.result = name_read a.edition a.t cs w.i c.cell_of.result.now c.stretch_of.result.now c.column_of-named.result l c.cell_of.ensures c.stretch_of.ensures c.column_of-named.ensures in
    sym (place_here a.column w.i (header a.edition a.t cs) n (e ∙ sym c.wide.ensures ∙ c.if-wide-column.true)) ∙ w.invariant

pub loop-i-preserved : goal.loop-i-preserved
loop-i-preserved c =
    let a = c.args in
    let w = c.loop-i in
    let cs = cells_of (cut a.edition a.head.now) in
    let l : w.i < length cs = omega (arith, c.requires.counted, c.loop-i-test.true) in
    let n : w.i < length (header a.edition a.t cs) = omega (arith, header_length a.edition a.t cs) in
    let e : get_or (header a.edition a.t cs) w.i 0 ≡ c.column_of-named.result = name_read a.edition a.t cs w.i c.cell_of.result.now c.stretch_of.result.now c.column_of-named.result l c.cell_of.ensures c.stretch_of.ensures c.column_of-named.ensures in
    sym (place_on a.column w.i (header a.edition a.t cs) n (λ z. c.if-wide-column.false (c.wide.ensures ∙ sym e ∙ z))) ∙ w.invariant

pub returns : goal.returns
returns c =
    let a = c.args in
    let w = c.loop-i in
    let cs = cells_of (cut a.edition a.head.now) in
    let l : length (header a.edition a.t cs) ≤ w.i = omega (arith, header_length a.edition a.t cs, c.requires.counted, c.loop-i-test.false) in
    sym (place_end a.column w.i (header a.edition a.t cs) l) ∙ w.invariant
