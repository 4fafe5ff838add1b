use Prim.Native.Nat.{◌+◌, ◌-◌, ◌/◌, ◌≤◌, ◌<◌}
use native.Mathlib.Omega.{arith}
use lib.ListN.{length}
use borrow.Author.Rules.{rules}
use Rattle.rows.specs.Room.{used}
use Rattle.rows.proofs.Room as room
use Rattle.rows.proofs.count.Goals as goal

pub rows-init : goal.rows-init
rows-init c = let w = room.used_within c.args.list.now in search rules

pub rows-preserved-then-list-half-eq0 : goal.rows-preserved-then-list-half-eq0
rows-preserved-then-list-half-eq0 c =
    let at = c in
    let xs = at.args.list.now in
    let half = at.rows.low + (at.rows.high - at.rows.low) / 2 in
    let h : length (used xs) ≤ half = room.used_stops xs half c.if-list-half-eq0.true in
    search rules

pub rows-preserved : goal.rows-preserved
rows-preserved c =
    let at = c in
    let xs = at.args.list.now in
    let half = at.rows.low + (at.rows.high - at.rows.low) / 2 in
    let h : half < length (used xs) = room.used_goes_on xs at.requires half (omega arith) c.if-list-half-eq0.false in
    search rules
