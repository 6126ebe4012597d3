-- The part is as it was, with the places before this one cleared.
use mathlib.Core.Path.{◌≡◌}
use lib.ListN.{take}
use Rattle.rules.specs.Numbers.{cleared}
use Rattle.room.proofs.clear.Given as goal

abbrev pub invariant-loop-place : goal.invariant-loop-place
invariant-loop-place g l = l.place-items ≡ cleared l.zero l.place-index (take l.end l.fn.list)
