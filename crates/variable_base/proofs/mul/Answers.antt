-- Refused by its number, else the window, the row and the walk.
use mathlib.Core.Path.{refl, sym, ◌∙◌}
use native.Mathlib.Omega.{arith}
use Rattle.std.proofs.lemmas.Result.{err_from_is_err_and}
use Rattle.laws.specs.Results.{passed-as-0, handed-on}
use Rattle.rules.specs.Engines.{single}
use Rattle.laws.specs.Results.{refused-sum}
use Rattle.variable_base.proofs.Answering.{counts-are, answered}
use Rattle.variable_base.proofs.mul.Goals as goal

pub returns-in_err-refusal : goal.returns-in_err-refusal
unfolding single
returns-in_err-refusal c =
    let p = err_from_is_err_and c.from_residual.result c.from_residual.ensures.1 in
    let r = handed-on p.1 p.2 c.in_err-refusal.was c.refusal.ensures in
    refused-sum r _ _ _

pub overflow_add-result : goal.overflow_add-result
overflow_add-result c =
    omega (arith, (counts-are _ _ _ _ _ _ c.make_successive-made.ensures c.walk-w.ensures).0)

pub overflow_add-result-2 : goal.overflow_add-result-2
overflow_add-result-2 c =
    omega (arith, (counts-are _ _ _ _ _ _ c.make_successive-made.ensures c.walk-w.ensures).1)

pub returns : goal.returns
returns c =
    answered _ _ (sym c.refusal.ensures ∙ passed-as-0 c.in_ok-refusal.was) _ c.element_at.ensures refl c.make_successive-made.ensures c.radix_row-row.ensures c.walk-w.ensures
