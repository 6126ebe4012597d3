-- A search along the flags: none of those passed is other than 0 and 1, and none says that a point at or above L is present.
use mathlib.Core.Bool.{false}
use mathlib.Core.Path.{◌≡◌}
use Prim.Native.Nat.{◌≤◌}
use lib.ListN.{length}
use Rattle.rules.specs.Numbers.{any_below}
use Rattle.asks.proofs.Points.{bad_at}
use Rattle.asks.proofs.bad_lists.Given as goal

abbrev pub invariant-loop-i : goal.invariant-loop-i
invariant-loop-i l = (l.i ≤ length l.flags) × (any_below (bad_at l.points l.flags) l.i ≡ false)
