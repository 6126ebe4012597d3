-- The entry passed over, by the sign.
use mathlib.Core.Path.{ap, ap₂, ◌∙◌}
use Prim.Native.Nat.{ℕ}
use lib.IntN.{pos, nat_abs}
use Rattle.rules.specs.Group.{elements}
use Rattle.rules.specs.Helpers.{looked_up}
use Rattle.digit.proofs.Machine.{back8}
use Rattle.lookup.proofs.Lookups.{by_sign, selected-sign}
use Rattle.lookup.proofs.looked_up.Goals as goal

pub returns : goal.returns
unfolding looked_up
returns c =
    let e = back8 _ c.ranges.d in
    c.by_sign.ensures
    ∙ ap₂ (by_sign elements) e (c.passed.ensures ∙ ap (λ (a : ℕ). looked_up 8 c.args.window.now (pos a)) (c.magnitude.ensures ∙ ap nat_abs e))
    ∙ selected-sign elements _ c.args.d
