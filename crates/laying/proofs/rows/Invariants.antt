-- After i turns the rows of the first i scalars are laid.
use Rattle.laying.proofs.Parts.{RowsLaying}
use Rattle.laying.proofs.rows.Given as goal

abbrev pub invariant-loop-i : goal.invariant-loop-i
invariant-loop-i l = RowsLaying l.kind l.scalars l.n l.initial.digits l.unit l.m l.digits l.i
