-- Refused, the zeros and the tables as they were; done, the tables that were laid.
use mathlib.Core.Path.{sym, ◌∙◌}
use Rattle.laws.specs.Results.{passed-as-0, handed-on}
use Rattle.std.proofs.lemmas.Result.{err_from_is_err_and}
use Rattle.precomputed_straus.proofs.DoneTables.{refused-tables, done-tables}
use Rattle.precomputed_straus.proofs.new.Goals as goal

pub returns-in_err-new_refusal : goal.returns-in_err-new_refusal
returns-in_err-new_refusal c =
    let p = err_from_is_err_and c.from_residual.result c.from_residual.ensures.1 in
    let r = handed-on p.1 p.2 c.in_err-new_refusal.was c.new_refusal.ensures in
    refused-tables _ _ r

pub returns : goal.returns
returns c =
    done-tables _ _ (sym c.new_refusal.ensures ∙ passed-as-0 c.in_ok-new_refusal.was) (λ i. (c.type_inv.points i).fits) c.windows.ensures
