-- With j places still to come, the steps that are left lead from the running sum to the walked one.
use Rattle.columns.proofs.Walking.{Walking}
use Rattle.columns.proofs.walk.Given as goal

abbrev pub invariant-loop-j : goal.invariant-loop-j
invariant-loop-j l = Walking l.digits l.windows l.static_digits l.tables l.places l.w l.j
