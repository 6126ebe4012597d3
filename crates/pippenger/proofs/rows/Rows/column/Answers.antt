-- Buckets cleared, then filled, then summed.
use mathlib.Core.Path.{ap₂}
use Prim.Native.Nat.{ℕ, ◌+◌}
use native.Mathlib.Omega.{arith}
use Rattle.rules.specs.Values.{element_at}
use Rattle.rules.specs.Group.{elements}
use Rattle.pippenger.specs.Flat.{replaced}
use Rattle.laws.specs.Weight.{column-le}
use Rattle.laws.specs.Cells.{digit_at, column-is, column-cleared}
use Rattle.pippenger.proofs.Stored.{cells, emptied, emptied-long, emptied-kept}
use Rattle.pippenger.proofs.rows.Rows.column.Goals as goal

pub overflow_add-result : goal.overflow_add-result
overflow_add-result c =
    omega (arith, c.put_all-put.ensures.0, column-le (digit_at c.args.self.digits.now) c.args.self.m c.args.j, c.requires.0.rows, c.sum_buckets-s.ensures.1)

pub returns : goal.returns
returns c =
    record {
      element = column-is elements element_at replaced 4 cells _ c.args.n c.args.buckets.now _ c.requires.0 c.requires.1.1 (emptied-long _ _ c.clear.ensures) (emptied _ _ c.clear.ensures) c.requires.1.0 c.put_all-put.ensures.1 c.sum_buckets-s.ensures.0;
      additions = ap₂ (λ (x y : ℕ). x + y) c.put_all-put.ensures.0 c.sum_buckets-s.ensures.1;
      kept = column-cleared elements element_at replaced 4 cells _ c.args.n c.args.buckets.now _ c.requires.0 c.requires.1.1 (emptied-long _ _ c.clear.ensures) (emptied-kept _ _ c.clear.ensures) c.put_all-put.ensures.1;
    }
