-- The running sums, what they come to unchanged by a turn, and two additions a turn.
use mathlib.Core.Path.{◌≡◌}
use Prim.Native.Nat.{◌+◌, ◌-◌, ◌*◌, ◌≤◌}
use Rattle.rules.specs.Values.{element_at}
use Rattle.rules.specs.Group.{elements}
use Rattle.rules.specs.Loops.{down}
use Rattle.laws.specs.Buckets.{ran, bucket_sum}
use Rattle.pippenger.proofs.buckets.sum_buckets.Given as goal

abbrev pub invariant-loop-i : goal.invariant-loop-i
invariant-loop-i l =
    (l.i ≤ l.n - 1) × (l.additions + 2 * l.i ≡ 2 * (l.n - 1)) × ((down (ran elements (element_at l.buckets)) l.i (l.buckets_intermediate_sum, l.buckets_sum)).1 ≡ bucket_sum elements (element_at l.buckets) (l.n - 1))
