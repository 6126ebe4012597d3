use native.Mathlib.Omega.{arith}
use Rattle.rules.specs.Values.{element_at}
use Rattle.rules.specs.Group.{elements}
use Rattle.laws.proofs.BucketLoops.{ran-start, ran-turn, ran-end}
use Rattle.pippenger.proofs.buckets.sum_buckets.Goals as goal

pub loop-i-init : goal.loop-i-init
loop-i-init c = (omega arith, omega arith, ran-start _ _ _ c.element_at-buckets_intermediate_sum.ensures)

pub loop-i-preserved : goal.loop-i-preserved
loop-i-preserved c =
    (omega arith, omega arith, ran-turn elements (element_at c.args.buckets.now) _ _ _ c.loop-i-test.true c.element_at.ensures c.plus-buckets_intermediate_sum.ensures c.plus-buckets_sum.ensures c.loop-i.invariant.2)

pub returns : goal.returns
returns c = (ran-end elements (element_at c.args.buckets.now) c.loop-i.i c.loop-i.buckets_intermediate_sum (omega arith) c.loop-i.invariant.2, omega arith)
