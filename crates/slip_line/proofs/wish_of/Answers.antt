-- `slip_line::wish_of` meets its contract: the first field, and how many follow. Assumes nothing.
use mathlib.Core.List.{[]}
use native.Mathlib.Omega.{arith}
use lib.ListN.{get_or}
use Rattle.cells.proofs.Marking.{Stands}
use Rattle.fields.specs.Fields.{fields}
use Rattle.slip_line.proofs.Asking.{marks_some, wish_many, first_stands, wish_marked}
use Rattle.slip_line.proofs.wish_of.Goals as goal
use Rattle.slip_line.proofs.wish_of.Goals.{After-bounds-1}

-- where the first field stands
first : (c : After-bounds-1) → Stands c.args.line.now (get_or c.args.marks.bounds 0 0) (get_or c.args.marks.bounds 1 0) (get_or (fields c.args.line.now) 0 [])
first c =
    let st = c in
    first_stands st.args.line.now st.args.marks st.requires c.if-n-gt-NUMBERS.false

pub overflow_sub-n : goal.overflow_sub-n
overflow_sub-n c = marks_some c.args.line.now c.args.marks c.requires

pub returns-then-n-gt-NUMBERS : goal.returns-then-n-gt-NUMBERS
returns-then-n-gt-NUMBERS c =
    let st = c in
    wish_many st.args.line.now st.args.marks st.requires c.if-n-gt-NUMBERS.true

pub overflow_sub-to : goal.overflow_sub-to
overflow_sub-to c = omega (arith, (first (goal.at.overflow_sub-to c).After-bounds-1).ordered)

pub slice_bounds-kind_of-count : goal.slice_bounds-kind_of-count
slice_bounds-kind_of-count c = omega (arith, (first (goal.at.slice_bounds-kind_of-count c).After-bounds-1).ordered)

pub slice_bounds-kind_of-start : goal.slice_bounds-kind_of-start
slice_bounds-kind_of-start c = omega (arith, (first (goal.at.slice_bounds-kind_of-start c).After-bounds-1).ordered, (first (goal.at.slice_bounds-kind_of-start c).After-bounds-1).inside)

pub slice_bounds-kind_of-end : goal.slice_bounds-kind_of-end
slice_bounds-kind_of-end c = omega (arith, (first (goal.at.slice_bounds-kind_of-end c).After-bounds-1).inside)

pub returns : goal.returns
returns c =
    let st = c in
    wish_marked st.args.line.now st.args.marks st.requires _ _ _ (first (goal.at.returns c).After-bounds-1).there c.kind_of.ensures c.with_numbers.ensures
