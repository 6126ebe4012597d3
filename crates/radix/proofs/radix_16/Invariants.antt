-- Digits of four bits, recentred one by one up to the last.
use lib.ListN.{take}
use Rattle.rules.specs.Values.{number}
use Rattle.radix.proofs.NibbleTurn.{Centring}
use Rattle.radix.proofs.radix_16.Given as goal

abbrev pub invariant-loop-i : goal.invariant-loop-i
invariant-loop-i l = Centring (number 256 (take 32 l.scalar)) l.output l.i
