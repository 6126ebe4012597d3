-- The search from place 255 down: so far every higher place is 0 in both rows.
use mathlib.Core.Path.{◌≡◌}
use Prim.Native.Nat.{◌+◌, ◌≤◌}
use Rattle.rules.specs.Loops.{highest}
use Rattle.rules.specs.Engines.{start_place}
use Rattle.vartime_double_base.proofs.Search.{either}
use Rattle.vartime_double_base.proofs.start.Given as goal

abbrev pub invariant-loop-i : goal.invariant-loop-i
invariant-loop-i l = (l.i ≤ 255) × (start_place l.a l.b ≡ highest (either l.a l.b) (l.i + 1))

abbrev pub decreases-loop-i : goal.decreases-loop-i
decreases-loop-i l = l.i
