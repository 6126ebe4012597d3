use mathlib.Core.Path.{sym, ap, ◌∙◌}
use native.Mathlib.Omega.{arith}
use Rattle.rules.specs.Numbers.{as_number, number_of}
use Rattle.rules.specs.Lists.{is_absent, absent_below}
use Rattle.laws.specs.Conditions.{any_none, any-more, any_at, any-end, first-here, first_next, first-end}
use Rattle.asks.proofs.Points.{absent-is, present-is}
use Rattle.asks.proofs.present.Goals as goal

pub loop-i-init : goal.loop-i-init
loop-i-init c = (omega arith, any_none _)

pub returns-in_default : goal.returns-in_default
unfolding absent_below as_number number_of
returns-in_default c =
    first-here _ _ _ (any_at _ _ c.loop-i.i (omega arith) (ap is_absent (sym c.optional_at.ensures) ∙ absent-is c.in_default.is))

pub loop-i-preserved : goal.loop-i-preserved
loop-i-preserved c =
    (omega arith, any-more _ _ c.loop-i.invariant.1 (ap is_absent (sym c.optional_at.ensures) ∙ present-is c.in-Some.is))

pub returns : goal.returns
unfolding absent_below as_number number_of
returns c = first_next _ _ _ _ (sym (any-end _ _ _ c.loop-i.invariant.0 c.loop-i-test.false c.loop-i.invariant.1)) first-end
