-- `sheet::write_line` meets its contract: a letter, a tab, and the numbers in the rest that is lent. Assumes nothing.
use mathlib.Core.Path.{◌∙◌}
use Prim.Native.Nat.{◌≤◌}
use native.Mathlib.Omega.{arith}
use lib.ListN.{length, set, length-set}
use Rattle.numbers.proofs.Putting.{length_rest, length_back}
use Rattle.sheet.proofs.Lines.{line_length_is, line_written}
use Rattle.sheet.proofs.write_line.Goals as goal
use Rattle.sheet.proofs.write_line.Goals.{Start}

-- the letter and the tab have room
room : (c : Start) → 3 ≤ length c.args.out.now
room c = omega (arith, line_length_is c.args.letter c.args.numbers.now c.requires.0, c.requires.1)

pub bounds-out-0 : goal.bounds-out-0
bounds-out-0 c = omega (arith, room (goal.at.bounds-out-0 c).Start)

pub bounds-out-1 : goal.bounds-out-1
bounds-out-1 c =
    let s = c in
    omega (arith, room (goal.at.bounds-out-1 c).Start, length-set s.args.out.now 0 s.args.letter)

pub slice_bounds-write_numbers-count : goal.slice_bounds-write_numbers-count
slice_bounds-write_numbers-count c =
    let s = c in
    omega (arith, room (goal.at.slice_bounds-write_numbers-count c).Start, length-set s.args.out.now 0 s.args.letter, length-set (set s.args.out.now 0 s.args.letter) 1 9)

pub slice_bounds-write_numbers-start : goal.slice_bounds-write_numbers-start
slice_bounds-write_numbers-start c =
    let s = c in
    omega (arith, room (goal.at.slice_bounds-write_numbers-start c).Start, length-set s.args.out.now 0 s.args.letter, length-set (set s.args.out.now 0 s.args.letter) 1 9)

pub write_numbers-requires : goal.write_numbers-requires
write_numbers-requires c =
    let s = c in
    let o = s.args.out.now in
    (s.requires.0, rw (length_rest (set (set o 0 s.args.letter) 1 9) 2, length-set, length-set) (omega (arith, line_length_is s.args.letter s.args.numbers.now s.requires.0, s.requires.1)))

pub overflow_add-result : goal.overflow_add-result
overflow_add-result c =
    let s = c in
    omega (arith, c.write_numbers.ensures.0, line_length_is s.args.letter s.args.numbers.now s.requires.0, s.requires.1, s.well_formed.0)

pub shape_of-out : goal.shape_of-out
shape_of-out c =
    let s = c in
    let w = c.write_numbers in
    length_back (set (set s.args.out.now 0 s.args.letter) 1 9) w.new.out 2 w.auto.out ∙ simp length-set

pub returns : goal.returns
returns c =
    let s = c in
    let w = c.write_numbers in
    let h = room (goal.at.returns c).Start in (
      omega (arith, w.ensures.0, line_length_is s.args.letter s.args.numbers.now s.requires.0),
      line_written s.args.letter s.args.numbers.now s.requires.0 s.args.out.now w.new.out (omega arith) w.ensures.1,
    )
