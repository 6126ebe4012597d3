use Rattle.std.proofs.Common.{refl, ap, sym, ◌∙◌}
use Rattle.rules.specs.Group.{added, elements}
use Rattle.rules.specs.Loops.{doubled}
use Rattle.laws.specs.Loops.{doubled-more}
use Rattle.residue.proofs.mul_by_pow_2.Goals as goal

pub loop-init : goal.loop-init
unfolding doubled
loop-init c = refl

pub loop-preserved : goal.loop-preserved
loop-preserved c = c.twice-q.ensures ∙ ap (λ x. added x x) c.loop.invariant ∙ sym (doubled-more elements c.loop.counter c.args.a)
