use Rattle.std.proofs.Common.{rules}
use mathlib.Core.Path.{sym, ap, ◌∙◌}
use native.Mathlib.Omega.{arith}
use lib.IntN.{pos}
use lib.ListN.{get_or}
use mir.Facts.{to_z-of_z}
use mir.Syntax.{w8}
use mir.Val.{SFits}
use Rattle.rules.specs.Lists.{wild_digit, any_wild}
use Rattle.laws.specs.Conditions.{any_none, any-more, any_at, any-end}
use Rattle.batch.proofs.refusals.any_wild.Goals as goal

pub loop-i-init : goal.loop-i-init
loop-i-init c = (omega arith, any_none _)

pub returns-then-wild : goal.returns-then-wild
unfolding any_wild
returns-then-wild c =
    let f : SFits w8 (get_or c.args.digits.now c.loop-i.i (pos 0)) = search rules in
    sym (any_at _ _ c.loop-i.i (omega arith) (ap wild_digit (sym (to_z-of_z f)) ∙ sym c.wild.ensures ∙ c.if-wild.true))

pub loop-i-preserved : goal.loop-i-preserved
loop-i-preserved c =
    let f : SFits w8 (get_or c.args.digits.now c.loop-i.i (pos 0)) = search rules in
    (omega arith, any-more _ _ c.loop-i.invariant.1 (ap wild_digit (sym (to_z-of_z f)) ∙ sym c.wild.ensures ∙ c.if-wild.false))

pub returns : goal.returns
unfolding any_wild
returns c = any-end _ _ _ c.loop-i.invariant.0 c.loop-i-test.false c.loop-i.invariant.1
