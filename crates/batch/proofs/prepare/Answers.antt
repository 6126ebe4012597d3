-- Refused by its number, else what laying every slot leaves.
use mathlib.Core.Path.{sym, ◌∙◌}
use native.Mathlib.Omega.{arith}
use Rattle.std.proofs.lemmas.Result.{err_from_is_err_and}
use Rattle.laws.specs.Results.{passed-as-0, handed-on}
use Rattle.rules.specs.Batch.{prepare}
use Rattle.batch.proofs.Batches.{refused-is, prepare-is}
use Rattle.batch.proofs.prepare.Goals as goal

pub returns-in_err-prepare_refusal : goal.returns-in_err-prepare_refusal
unfolding prepare
returns-in_err-prepare_refusal c =
    let p = err_from_is_err_and c.from_residual.result c.from_residual.ensures.1 in
    let r = handed-on p.1 p.2 c.in_err-prepare_refusal.was c.prepare_refusal.ensures in
    refused-is r _ _ _ _

pub returns : goal.returns
returns c =
    prepare-is _ _ _ _ _ _ _ _ (λ i. omega (arith, c.type_inv.points i)) (sym c.prepare_refusal.ensures ∙ passed-as-0 c.in_ok-prepare_refusal.was) c.rows.ensures c.windows.ensures
