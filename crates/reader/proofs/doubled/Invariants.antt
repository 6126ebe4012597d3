-- Doubled w times. The loop's invariant: so many times already.
use mathlib.Core.Path.{◌≡◌}
use Prim.Native.Nat.{◌*◌, ◌^◌}
use Rattle.rules.specs.Values.{value_of, element_of}
use Rattle.reader.proofs.doubled.Given as goal

abbrev pub invariant-loop : goal.invariant-loop
invariant-loop l = l.r ≡ element_of (2 ^ l.counter * value_of l.initial.r)
