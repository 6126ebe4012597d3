-- After i turns the windows of the first i points are laid.
use Rattle.laying.proofs.Parts.{WindowsLaying}
use Rattle.laying.proofs.windows.Given as goal

abbrev pub invariant-loop-i : goal.invariant-loop-i
invariant-loop-i l = WindowsLaying l.kind l.points l.n l.initial.limbs l.unit l.m l.limbs l.additions l.doublings l.i
