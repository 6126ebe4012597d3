use mathlib.Core.Path.{◌∙◌, ap}
use Rattle.rules.specs.declared.Carried.{Carried}
use Rattle.rules.specs.Limbs.{carried_sum}
use Rattle.reader.proofs.Modulo.{double-more}
use Rattle.reader.proofs.doubled.Goals as goal

pub loop-preserved : goal.loop-preserved
loop-preserved c = ap (λ (x : Carried). x.element) c.sum.ensures ∙ unfold carried_sum in double-more _ _ _ c.loop.invariant
