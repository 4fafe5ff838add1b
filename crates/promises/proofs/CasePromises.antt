-- The cases of document 01, closed by computation. Assumes nothing.
use mathlib.Core.Path.{refl}
use Rattle.promises.specs.Run.{computed}
use Rattle.promises.specs.Edges.{cases, EdgesHold}
use Rattle.promises.specs.WholeCase.{WholeCase, WholeCaseEmptySlip}

pub edges_hold : EdgesHold
unfolding computed cases
edges_hold = refl

pub whole_case : WholeCase
unfolding computed
whole_case = refl

pub whole_case_empty_slip : WholeCaseEmptySlip
unfolding computed
whole_case_empty_slip = refl
