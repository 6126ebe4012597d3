use mathlib.Core.Path.{refl}
use native.Mathlib.Omega.{arith}
use Rattle.laying.proofs.Parts.{cost, windows-none, counts-fit, windows-more, windows-end}
use Rattle.laying.proofs.windows.Goals as goal

pub overflow_mul-unit : goal.overflow_mul-unit
overflow_mul-unit c = omega (arith, c.entries-unit.ensures, (cost c.args.kind).most)

pub nonzero_div-limbs : goal.nonzero_div-limbs
nonzero_div-limbs c = omega (arith, c.entries-unit.ensures, (cost c.args.kind).some)

pub loop-i-init : goal.loop-i-init
loop-i-init c = windows-none _ _ _ _ c.entries-unit.ensures refl c.smaller.ensures c.smaller-m.ensures

pub overflow_add-additions : goal.overflow_add-additions
overflow_add-additions c = omega (arith, (counts-fit _ _ _ _ c.loop-i.invariant c.loop-i-test.true c.element_at.ensures c.window-made.ensures).0)

pub overflow_add-doublings : goal.overflow_add-doublings
overflow_add-doublings c = omega (arith, (counts-fit _ _ _ _ c.loop-i.invariant c.loop-i-test.true c.element_at.ensures c.window-made.ensures).1)

pub loop-i-preserved : goal.loop-i-preserved
loop-i-preserved c = windows-more _ _ _ _ c.loop-i.invariant c.loop-i-test.true c.element_at.ensures c.window-made.ensures

pub returns : goal.returns
returns c = windows-end _ _ _ _ c.loop-i.invariant c.loop-i-test.false
