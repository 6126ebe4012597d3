-- A search by taking each point apart: none of those passed is absent.
use mathlib.Core.Bool.{false}
use mathlib.Core.Path.{◌≡◌}
use Prim.Native.Nat.{◌≤◌}
use Rattle.rules.specs.Lists.{is_absent}
use Rattle.rules.specs.Numbers.{any_below}
use Rattle.rules.specs.Values.{optional_at}
use Rattle.asks.proofs.present.Given as goal

abbrev pub invariant-loop-i : goal.invariant-loop-i
invariant-loop-i l = (l.i ≤ l.n) × (any_below (λ j. is_absent (optional_at l.points l.flags j)) l.i ≡ false)
