-- After so many turns as many rows have been passed.
use mathlib.Core.Path.{◌≡◌}
use lib.ListN.{length}
use Rattle.columns.proofs.Chunks.{Beside}
use Rattle.straus.specs.Radix.{with_column}
use Rattle.straus.proofs.radix_16.column.Given as goal

abbrev pub invariant-loop-row : goal.invariant-loop-row
invariant-loop-row l = record {
  beside : Beside 64 l.digits 32 l.limbs l.row-iterator (length l.yielded);
  sum : l.r ≡ with_column l.digits l.limbs (length l.yielded) l.j l.initial.r;
}
