-- `rows::row_of` meets its contract. Assumes nothing.
use mathlib.Core.Path.{sym, ◌∙◌}
use Prim.Native.Nat.{◌<◌}
use native.Mathlib.Omega.{arith}
use lib.ListN.{length}
use borrow.Author.Rules.{rules}
use Rattle.rows.specs.Room.{used}
use Rattle.rows.proofs.Room.{used_within}
use Rattle.rows.proofs.Places.{at_within}
use Rattle.rows.proofs.Changes as changes
use Rattle.rows.proofs.row_of.Goals as goal
use Rattle.rows.proofs.row_of.Goals.{In-Ok}

-- the place is within the slice
within : (c : In-Ok) → c.in-Ok.i < length c.args.list.now
within c =
    let us = used c.args.list.now in
    omega (arith, at_within c.args.k c.args.row us c.in-Ok.i (sym c.seek.ensures ∙ c.in-Ok.is), used_within c.args.list.now)

pub offset_bounds-list-i : goal.offset_bounds-list-i
offset_bounds-list-i c = let h = within (goal.at.offset_bounds-list-i c).In-Ok in search rules

pub bounds-list-i : goal.bounds-list-i
bounds-list-i c = within (goal.at.bounds-list-i c).In-Ok

pub returns-in-Ok : goal.returns-in-Ok
returns-in-Ok c = sym (changes.row_of_at c.args.k c.args.row c.args.list.now c.in-Ok.i (sym c.seek.ensures ∙ c.in-Ok.is))

pub returns-in-Err : goal.returns-in-Err
returns-in-Err c = sym (changes.row_of_gap c.args.k c.args.row c.args.list.now c.requires.rises _ (sym c.seek.ensures ∙ c.in-Err.is))
