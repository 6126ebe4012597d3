use mathlib.Core.Path.{sym, ◌∙◌}
use native.Mathlib.Omega.{arith}
use Rattle.rules.specs.Lists.{flag_at}
use Rattle.laws.specs.Conditions.{any_none, any-more, any_at, any-end}
use Rattle.asks.proofs.Points.{bad-at, bad-by-flags}
use Rattle.asks.proofs.bad_lists.Goals as goal

pub loop-i-init : goal.loop-i-init
loop-i-init c = (omega arith, any_none _)

pub returns-then-flags-i : goal.returns-then-flags-i
unfolding flag_at
returns-then-flags-i c =
    sym (sym (bad-by-flags _ _) ∙ any_at _ _ c.loop-i.i (omega arith) (bad-at _ _ _ c.optional_at.ensures c.point_over-over.ensures ∙ c.if-flags-i.true))

pub loop-i-preserved : goal.loop-i-preserved
unfolding flag_at
loop-i-preserved c =
    (omega arith, any-more _ _ c.loop-i.invariant.1 (bad-at _ _ _ c.optional_at.ensures c.point_over-over.ensures ∙ c.if-flags-i.false))

pub returns : goal.returns
returns c = any-end _ _ _ c.loop-i.invariant.0 c.loop-i-test.false c.loop-i.invariant.1 ∙ bad-by-flags _ _
