-- After i turns the first i rows are put, each of them counted that has a digit there.
use mathlib.Core.Path.{◌≡◌}
use Prim.Native.Nat.{◌≤◌}
use lib.ListN.{length}
use Rattle.laws.specs.Weight.{column_weight}
use Rattle.laws.specs.Cells.{digit_at}
use Rattle.pippenger.specs.Flat.{put_rows}
use Rattle.pippenger.proofs.rows.Rows.put_all.Given as goal

abbrev pub invariant-loop-i : goal.invariant-loop-i
invariant-loop-i l =
    (l.i ≤ l.self.m) × (length l.buckets ≡ length l.initial.buckets) × ((l.additions ≡ column_weight (digit_at l.self.digits.now) l.i l.j) × (l.buckets ≡ put_rows l.self.digits.now l.self.points.now l.j l.i l.initial.buckets))
