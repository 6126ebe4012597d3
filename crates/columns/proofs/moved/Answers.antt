-- The digit's test and sign pick the step that the definition makes.
use native.Mathlib.Omega.{arith}
use Rattle.std.proofs.Common.{rules}
use Rattle.rules.specs.Values.{element_at}
use Rattle.rules.specs.Group.{elements}
use Rattle.rules.specs.Rows.{digit}
use Rattle.laws.specs.Weight.{nonzero-not}
use Rattle.digit.proofs.Machine.{not-zero}
use Rattle.laws.proofs.Steps.{onward-zero, onward-below, onward-above}
use Rattle.columns.proofs.moved.Goals as goal

pub returns-then-d-eq0-clause-sum : goal.returns-then-d-eq0-clause-sum
returns-then-d-eq0-clause-sum c = onward-zero elements element_at _ (search rules) _ _ c.if-d-eq0.true

pub overflow_add-additions : goal.overflow_add-additions
overflow_add-additions c =
    let a = c.args in
    omega (arith, nonzero-not (digit a.row.now a.j) (not-zero _ c.if-d-eq0.false))

pub returns-then-d-lt0-clause-sum : goal.returns-then-d-lt0-clause-sum
returns-then-d-lt0-clause-sum c =
    onward-below elements element_at _ (search rules) _ _ _ _ _ c.odd_entry.ensures c.element_at-x.ensures
    c.if-d-lt0.true
    c.minus.ensures

pub returns-clause-sum : goal.returns-clause-sum
returns-clause-sum c =
    onward-above elements element_at _ (search rules) _ _ _ _ _ c.odd_entry.ensures c.element_at-x.ensures
    c.if-d-eq0.false
    c.if-d-lt0.false
    c.plus.ensures
