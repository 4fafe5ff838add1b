-- A read fills no more than what is left of the buffer.
use Rattle.std.proofs.Common.{length, ◌-◌, ◌≡◌, ◌≤◌}
use Rattle.files.proofs.take.Given as goal

abbrev pub invariant-parts : goal.invariant-parts
invariant-parts g l = (length l.buffer ≡ length l.initial.buffer) × (l.done ≤ length l.buffer)

abbrev pub decreases-parts : goal.decreases-parts
decreases-parts g l = length l.initial.buffer - l.done
