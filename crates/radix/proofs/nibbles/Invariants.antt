-- Two digits a byte. The loop's invariant: the digits of the first i bytes are there.
use lib.ListN.{take}
use Rattle.rules.specs.Values.{number}
use Rattle.radix.proofs.NibbleTurn.{Halves}
use Rattle.radix.proofs.nibbles.Given as goal

abbrev pub invariant-loop-i : goal.invariant-loop-i
invariant-loop-i l = Halves l.output (number 256 (take 32 l.scalar)) l.i
