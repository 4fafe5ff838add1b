-- `radio_hearing::put_together` meets its contract: both are put one behind the other. Assumes nothing.
use mathlib.Core.Path.{◌≡◌}
use mathlib.Core.List.{◌++◌}
use Prim.Native.Nat.{◌+◌}
use native.Mathlib.Omega.{arith}
use lib.ListN.{length, length-append}
use Rattle.numbers.proofs.Putting.{lent}
use Rattle.radio_hearing.proofs.Bytes.{together_none, together_return, together_other}
use Rattle.radio_hearing.proofs.put_together.Goals as goal
use Rattle.radio_hearing.proofs.put_together.Goals.{After-write_bytes-b}

long : (c : After-write_bytes-b) → c.write_bytes-a.result + c.write_bytes-b.result ≡ length (c.args.rest.now ++ c.args.more.now)
long c = omega (arith, length-append c.args.rest.now c.args.more.now, c.write_bytes-a.ensures.0, c.write_bytes-b.ensures.0)

pub returns-in-13 : goal.returns-in-13
returns-in-13 c =
    let a = c.args in
    let e = lent a.rest.now a.more.now a.room.now _ _ c.write_bytes-a.result c.write_bytes-a.ensures.0 c.write_bytes-a.ensures.1 c.write_bytes-b.ensures.1 in
    together_return (a.rest.now ++ a.more.now) _ _ _ e (long (goal.at.returns-in-13 c).After-write_bytes-b) c.in-13.len_at_least (omega arith)

pub returns-in_default : goal.returns-in_default
returns-in_default c =
    let a = c.args in
    let e = lent a.rest.now a.more.now a.room.now _ _ c.write_bytes-a.result c.write_bytes-a.ensures.0 c.write_bytes-a.ensures.1 c.write_bytes-b.ensures.1 in
    together_none (a.rest.now ++ a.more.now) _ _ _ e (long (goal.at.returns-in_default c).After-write_bytes-b) c.in_default.len_below

pub returns-in_default-2 : goal.returns-in_default-2
returns-in_default-2 c =
    let a = c.args in
    let e = lent a.rest.now a.more.now a.room.now _ _ c.write_bytes-a.result c.write_bytes-a.ensures.0 c.write_bytes-a.ensures.1 c.write_bytes-b.ensures.1 in
    together_other (a.rest.now ++ a.more.now) _ _ _ e (long (goal.at.returns-in_default-2 c).After-write_bytes-b) c.in_default.len_at_least (λ q. omega arith)
