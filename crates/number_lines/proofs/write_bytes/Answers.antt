use native.Mathlib.Omega.{arith}
use lib.Seq.{take_all}
use Rattle.numbers.proofs.Putting.{put_next}
use Rattle.number_lines.proofs.write_bytes.Goals as goal

pub loop-i-preserved : goal.loop-i-preserved
loop-i-preserved c =
    let l = c.loop-i in
    put_next c.args.bytes.now c.args.out.now l.out l.i (omega arith) (omega arith) l.invariant

pub returns : goal.returns
returns c = (omega arith, rw (take_all c.loop-i.i c.args.bytes.now (omega arith)) at c.loop-i.invariant)
