-- After j turns, lookup among the first j entries.
use mathlib.Core.Path.{◌≡◌}
use lib.IntN.{pos}
use Rattle.rules.specs.Helpers.{looked_up}
use Rattle.lookup.proofs.passed.Given as goal

abbrev pub invariant-loop-j : goal.invariant-loop-j
invariant-loop-j l = l.t ≡ looked_up l.j l.window (pos l.a)
