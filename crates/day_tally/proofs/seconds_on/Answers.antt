use Prim.Native.Nat.{◌+◌, ◌-◌, ◌/◌}
use native.Mathlib.Omega.{arith}
use Rattle.day_tally.proofs.Shares.{between_all, found_share, between_up, between_down, no_share}
use Rattle.day_tally.proofs.seconds_on.Goals as goal

pub shares-init : goal.shares-init
shares-init c =
    let a = c.args in
    between_all a.tally.now a.at a.kind c.requires.0 c.requires.1

pub returns-then-share-kind : goal.returns-then-share-kind
returns-then-share-kind c =
    let st = c in
    let a = st.args in
    let s = c.shares in
    let half = s.low + (s.high - s.low) / 2 in
    found_share a.tally.now a.at a.kind st.requires.0 st.requires.1 half (omega (arith, s.invariant.reach, c.shares-test.true)) c.if-share-kind.true

pub shares-preserved-then-share-kind-2 : goal.shares-preserved-then-share-kind-2
shares-preserved-then-share-kind-2 c =
    let st = c in
    let a = st.args in
    let s = c.shares in
    let half = s.low + (s.high - s.low) / 2 in
    between_up a.tally.now a.at a.kind st.requires.0 st.requires.1 s.low s.high s.invariant half (omega (arith, c.shares-test.true)) c.if-share-kind-2.true

pub shares-preserved : goal.shares-preserved
shares-preserved c =
    let st = c in
    let a = st.args in
    let s = c.shares in
    let half = s.low + (s.high - s.low) / 2 in
    between_down a.tally.now a.at a.kind st.requires.0 st.requires.1 s.low s.high s.invariant half (omega (arith, c.shares-test.true)) c.if-share-kind.false c.if-share-kind-2.false

pub returns : goal.returns
returns c =
    let st = c in
    let a = st.args in
    let s = c.shares in
    no_share a.tally.now a.at a.kind st.requires.0 st.requires.1 s.low s.high s.invariant (omega (arith, c.shares-test.false))
