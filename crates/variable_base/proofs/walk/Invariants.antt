-- The loop down the places, from the highest one's entry.
use Rattle.variable_base.proofs.Walking.{Walking}
use Rattle.variable_base.proofs.walk.Given as goal

abbrev pub invariant-loop-j : goal.invariant-loop-j
invariant-loop-j l = Walking l.row l.window l.w l.j
