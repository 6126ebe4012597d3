use mathlib.Core.Path.{ap, ◌∙◌}
use native.Mathlib.Omega.{arith}
use Rattle.std.proofs.Common.{rules}
use Rattle.rules.specs.Helpers.{looked_up}
use Rattle.digit.proofs.Machine.{back8}
use Rattle.variable_base.proofs.Walking.{walking-first, walking-more, walking-end}
use Rattle.variable_base.proofs.walk.Goals as goal

pub loop-j-init : goal.loop-j-init
loop-j-init c = walking-first _ _ c.identity.ensures (c.looked_up.ensures ∙ ap (looked_up 8 _) (back8 _ (search rules))) c.plus-first.ensures

pub loop-j-preserved : goal.loop-j-preserved
loop-j-preserved c =
    walking-more _ _ c.loop-j.invariant (omega arith) c.mul_by_pow_2-doubled.ensures (c.looked_up-in-loop-j.ensures ∙ ap (looked_up 8 _) (back8 _ (search rules))) c.plus.ensures

pub returns : goal.returns
returns c = walking-end _ _ c.loop-j.invariant (omega arith)
