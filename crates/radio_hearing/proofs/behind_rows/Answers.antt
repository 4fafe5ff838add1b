use mathlib.Core.Path.{refl}
use native.Mathlib.Omega.{arith}
use Rattle.radio_hearing.proofs.Bytes.{finished_none, finished_on, feedless_end, feedless_here}
use Rattle.radio_hearing.proofs.behind_rows.Goals as goal

pub rows-init : goal.rows-init
rows-init c =
    let a = c.args in
    (omega arith, c.requires, finished_none a.edition a.part.now a.from a.from refl)

pub returns-then-part-feed : goal.returns-then-part-feed
returns-then-part-feed c =
    let a = c.args in
    let at = c.rows in
    let feed = c.row_feed-feed in
    record { low = at.invariant.0; high = at.invariant.1; finished = at.invariant.2; feedless = feedless_here a.edition a.part.now at.at feed.result feed.ensures c.if-part-feed.true }

pub rows-smaller : goal.rows-smaller
rows-smaller c =
    let at = c.rows in
    let feed = c.row_feed-feed in
    omega (arith, feed.ensures, c.if-part-feed.false, c.rows-test.true)

pub rows-preserved : goal.rows-preserved
rows-preserved c =
    let a = c.args in
    let at = c.rows in
    let feed = c.row_feed-feed in
    (omega (arith, feed.ensures, at.invariant.0), omega (arith, c.if-part-feed.false), finished_on a.edition a.part.now a.from at.at feed.result at.invariant.0 at.invariant.1 feed.ensures (omega (arith, c.if-part-feed.false)) at.invariant.2)

pub returns : goal.returns
returns c =
    let a = c.args in
    let at = c.rows in
    record { low = at.invariant.0; high = at.invariant.1; finished = at.invariant.2; feedless = feedless_end a.edition a.part.now at.at (omega (arith, c.rows-test.false)) }
