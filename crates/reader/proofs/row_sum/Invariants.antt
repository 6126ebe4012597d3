-- The sum of a row modulo 2 ^ 256. The loop's invariant: that of the digits from place i on.
use lib.ListN.{drop}
use Rattle.reader.specs.Sums.{Says}
use Rattle.reader.proofs.row_sum.Given as goal

abbrev pub invariant-loop-i : goal.invariant-loop-i
invariant-loop-i l = Says l.w (drop l.i l.row) l.q
