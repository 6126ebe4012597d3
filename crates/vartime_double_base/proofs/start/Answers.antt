use Rattle.std.proofs.Common.{rules}
use native.Mathlib.Omega.{arith}
use lib.ListN.{get_or}
use lib.IntN.{pos}
use mir.Val.{SFits}
use mir.Syntax.{w8}
use Rattle.digit.proofs.Machine.{is_zero, not-zero}
use Rattle.vartime_double_base.proofs.Search.{start_is, found_left, found_right, found-end, lower}
use Rattle.vartime_double_base.proofs.start.Goals as goal

pub loop-i-init : goal.loop-i-init
loop-i-init c = (omega arith, start_is c.args.a.now c.args.b.now)

pub loop-i-preserved : goal.loop-i-preserved
loop-i-preserved c =
    let fa : SFits w8 (get_or c.args.a.now c.loop-i.i (pos 0)) = search rules in
    let fb : SFits w8 (get_or c.args.b.now c.loop-i.i (pos 0)) = search rules in
    (omega arith, lower _ _ _ c.loop-i.invariant.1 c.if-i-eq0.false (is_zero _ fa c.if-a-i-ne0.false) (is_zero _ fb c.if-b-i-ne0.false))

pub returns-then-a-i-ne0 : goal.returns-then-a-i-ne0
returns-then-a-i-ne0 c = found_left _ _ _ c.loop-i.invariant.1 (not-zero _ c.if-a-i-ne0.true)

pub returns-then-b-i-ne0 : goal.returns-then-b-i-ne0
returns-then-b-i-ne0 c = found_right _ _ _ c.loop-i.invariant.1 (not-zero _ c.if-b-i-ne0.true)

pub returns-then-i-eq0 : goal.returns-then-i-eq0
returns-then-i-eq0 c = found-end _ _ _ c.loop-i.invariant.1 c.if-i-eq0.true
