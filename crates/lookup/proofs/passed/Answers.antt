use mathlib.Core.Path.{◌∙◌}
use Rattle.lookup.proofs.Lookups.{pass-none, pass-here, pass-other}
use Rattle.lookup.proofs.passed.Goals.{then-a-j, else-a-j}
use Rattle.lookup.proofs.passed.Goals as goal

pub loop-j-init : goal.loop-j-init
loop-j-init c = c.identity-t.ensures ∙ pass-none _ _

pub loop-j-preserved : goal.loop-j-preserved
loop-j-preserved c = elim c.if-a-j.branch [
  | then-a-j w ↦ w.t-is ∙ c.element_at-e.ensures ∙ pass-here _ _ _ w.if-a-j.true
  | else-a-j w ↦ w.t-is ∙ c.loop-j.invariant ∙ pass-other _ _ _ w.if-a-j.false
]
