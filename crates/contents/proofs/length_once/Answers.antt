use native.Mathlib.Omega.{arith}
use Rattle.contents.proofs.Contents.{once_step, once_end, counts_one}
use Rattle.contents.proofs.length_once.Goals as goal

pub loop-byte-preserved : goal.loop-byte-preserved
loop-byte-preserved c =
    let here = c.loop-byte in
    let s = c.args.stretch.now in
    let step = once_step s here.byte-index here.doubled c.loop-byte-test.true in
    (omega arith, omega (arith, c.counted-n.ensures, counts_one here.doubled), rw (c.counted-n.ensures, c.doubles-doubled.ensures) (omega (arith, step, here.invariant.2)))

pub returns : goal.returns
returns c = omega (arith, c.loop-byte.invariant.2, once_end c.args.stretch.now c.loop-byte.byte-index c.loop-byte.doubled c.loop-byte-test.false)
