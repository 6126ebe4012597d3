-- The radix recoder for w = 5 to 8. The loop's invariant: what is done below place i, with the carry into it.
use lib.ListN.{take}
use Rattle.rules.specs.Values.{number}
use Rattle.radix.proofs.RadixTurn.{Known, Part}
use Rattle.radix.proofs.radix_2w.Given as goal

abbrev pub invariant-loop-i : goal.invariant-loop-i
invariant-loop-i l = record { known : Known l.scalar l.x_u64 l.w l.radix l.last; part : Part l.w (number 256 (take 32 l.scalar)) l.digits l.carry l.i }
