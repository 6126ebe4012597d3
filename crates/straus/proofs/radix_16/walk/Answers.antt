use native.Mathlib.Omega.{arith}
use Rattle.straus.specs.Radix.{radix_rows}
use Rattle.straus.proofs.Walking.{additions-fit, walking-none, walking-more, walking-end}
use Rattle.straus.proofs.radix_16.walk.Goals as goal

pub loop-j-init : goal.loop-j-init
loop-j-init c = walking-none _ _ _ c.identity.ensures

pub column-w-requires-clause-count : goal.column-w-requires-clause-count
unfolding radix_rows
column-w-requires-clause-count c = omega (arith, additions-fit _ _ _ c.loop-j.invariant (omega arith))

pub loop-j-preserved : goal.loop-j-preserved
loop-j-preserved c = walking-more _ _ _ c.loop-j.invariant (omega arith) c.mul_by_pow_2.ensures c.column-w.ensures

pub returns : goal.returns
returns c = walking-end _ _ _ c.loop-j.invariant (omega arith)
