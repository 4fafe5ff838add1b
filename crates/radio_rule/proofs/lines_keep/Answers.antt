-- `radio_rule::lines_keep` cuts what is behind each line within its room. Assumes nothing.
use native.Mathlib.Omega.{arith}
use Rattle.radio_rule.proofs.Numbers.{lengths}
use Rattle.radio_rule.proofs.lines_keep.Goals as goal

pub slice_bounds-zero_bytes-count : goal.slice_bounds-zero_bytes-count
slice_bounds-zero_bytes-count c = omega (arith, (lengths c.args.kept.now c.requires.0 c.requires.2).head)

pub slice_bounds-zero_bytes-start : goal.slice_bounds-zero_bytes-start
slice_bounds-zero_bytes-start c = omega (arith, (lengths c.args.kept.now c.requires.0 c.requires.2).head)

pub overflow_add-rest : goal.overflow_add-rest
overflow_add-rest c = omega (arith, (lengths c.args.kept.now c.requires.0 c.requires.2).rest)

pub slice_bounds-zero_bytes-count-then-zero_bytes : goal.slice_bounds-zero_bytes-count-then-zero_bytes
slice_bounds-zero_bytes-count-then-zero_bytes c = omega (arith, (lengths c.args.kept.now c.requires.0 c.requires.2).rest)

pub slice_bounds-zero_bytes-start-then-zero_bytes : goal.slice_bounds-zero_bytes-start-then-zero_bytes
slice_bounds-zero_bytes-start-then-zero_bytes c = omega (arith, (lengths c.args.kept.now c.requires.0 c.requires.2).rest)
