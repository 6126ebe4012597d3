-- Refused by its number, else what the walk over all slots leaves.
use mathlib.Core.Path.{refl, sym, ◌∙◌}
use Rattle.std.proofs.lemmas.Result.{err_from_is_err_and}
use Rattle.laws.specs.Results.{passed-as-0, handed-on}
use Rattle.rules.specs.Batch.{total_of}
use Rattle.laws.specs.Results.{refused-sum}
use Rattle.batch.proofs.Batches.{total-is}
use Rattle.batch.proofs.total.Goals as goal

pub returns-in_err-total_refusal : goal.returns-in_err-total_refusal
unfolding total_of
returns-in_err-total_refusal c =
    let p = err_from_is_err_and c.from_residual.result c.from_residual.ensures.1 in
    let r = handed-on p.1 p.2 c.in_err-total_refusal.was c.total_refusal.ensures in
    refused-sum r _ _ _

pub returns : goal.returns
returns c =
    total-is _ _ _ _ _ refl refl (sym c.total_refusal.ensures ∙ passed-as-0 c.in_ok-total_refusal.was) c.walk.ensures
