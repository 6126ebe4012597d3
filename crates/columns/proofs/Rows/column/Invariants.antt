-- After so many turns as many rows have been passed.
use mathlib.Core.Path.{◌≡◌}
use lib.ListN.{length}
use Rattle.rules.specs.Group.{elements}
use Rattle.rules.specs.Helpers.{window_entry}
use Rattle.laws.specs.Running.{passed}
use Rattle.columns.specs.Running.{run}
use Rattle.columns.proofs.Chunks.{Beside}
use Rattle.columns.proofs.Rows.column.Given as goal

abbrev pub invariant-loop-row : goal.invariant-loop-row
invariant-loop-row g l = record {
  beside : Beside 256 l.self.digits.now g.row.LIMBS l.self.windows.now l.row-iterator (length l.yielded);
  sum : run l.r ≡ passed elements l.self.digits.now (window_entry g.row.LIMBS l.self.windows.now) (length l.yielded) l.j (run l.initial.r);
  doublings : l.r.doublings ≡ l.initial.r.doublings;
}
