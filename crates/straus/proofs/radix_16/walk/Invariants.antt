-- The loop down the places.
use Rattle.straus.specs.Radix.{radix_rows}
use Rattle.straus.proofs.Walking.{Walking}
use Rattle.straus.proofs.radix_16.walk.Given as goal

abbrev pub invariant-loop-j : goal.invariant-loop-j
invariant-loop-j l = Walking l.digits l.limbs (radix_rows l.digits l.limbs) l.w l.j
