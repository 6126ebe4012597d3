-- A search: none of the digits passed is wild.
use mathlib.Core.Bool.{false}
use mathlib.Core.Path.{◌≡◌}
use Prim.Native.Nat.{◌≤◌, ◌-◌}
use lib.IntN.{pos}
use lib.ListN.{length, get_or}
use Rattle.rules.specs.Lists.{wild_digit}
use Rattle.rules.specs.Numbers.{any_below}
use Rattle.batch.proofs.refusals.any_wild.Given as goal

abbrev pub invariant-loop-i : goal.invariant-loop-i
invariant-loop-i l = (l.i ≤ length l.digits) × (any_below (λ j. wild_digit (get_or l.digits j (pos 0))) l.i ≡ false)

abbrev pub decreases-loop-i : goal.decreases-loop-i
decreases-loop-i l = length l.digits - l.i
