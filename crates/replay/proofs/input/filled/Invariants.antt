-- The buffer is filled from its start.
use Rattle.std.proofs.Common.{length, ◌-◌, ◌≤◌}
use Rattle.replay.proofs.input.filled.Given as goal

abbrev pub invariant-loop-done : goal.invariant-loop-done
invariant-loop-done l = l.done ≤ length l.buffer

abbrev pub decreases-loop-done : goal.decreases-loop-done
decreases-loop-done l = length l.buffer - l.done
