use mathlib.Core.Path.{refl, ◌∙◌}
use Prim.Native.Nat.{◌+◌}
use native.Mathlib.Omega.{arith}
use Rattle.rules.specs.Values.{element_at}
use Rattle.rules.specs.Group.{elements}
use Rattle.laws.specs.Weight.{column-le}
use Rattle.laws.specs.Cells.{digit_at}
use Rattle.laws.proofs.BucketLoops.{rows_none, rows_more, row-placed}
use Rattle.pippenger.specs.Flat.{replaced}
use Rattle.pippenger.proofs.rows.Rows.put_all.Goals as goal

pub loop-i-init : goal.loop-i-init
loop-i-init c = (omega arith, refl, rows_none elements element_at replaced 4 c.args.self.digits.now (element_at c.args.self.points.now) _ _)

pub put-additions-requires : goal.put-additions-requires
put-additions-requires c =
    let r = row-placed elements element_at replaced 4 _ (element_at c.args.self.points.now) _ c.loop-i.i c.requires c.loop-i-test.true in
    (r.0, rw c.loop-i.invariant.1 r.1)

pub overflow_add-additions : goal.overflow_add-additions
overflow_add-additions c =
    omega (arith, column-le (digit_at c.args.self.digits.now) (c.loop-i.i + 1) c.args.j, (rows_more elements element_at replaced 4 _ _ _ c.loop-i.i _ c.element_at.ensures c.loop-i.invariant.2 c.put-additions.ensures).0)

pub loop-i-preserved : goal.loop-i-preserved
loop-i-preserved c =
    (omega arith, c.put-additions.auto.buckets ∙ c.loop-i.invariant.1, rows_more elements element_at replaced 4 _ _ _ c.loop-i.i _ c.element_at.ensures c.loop-i.invariant.2 c.put-additions.ensures)
