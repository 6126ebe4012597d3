-- Refused before the point, or by 8; else what setting the point leaves.
use mathlib.Core.Path.{sym, ap, ◌∙◌}
use Rattle.std.proofs.lemmas.Result.{err_from_is_err_and}
use Rattle.rules.specs.declared.Refusal.TheVariants.{AbsentPoint}
use Rattle.rules.specs.Numbers.{number_of}
use Rattle.rules.specs.Batch.{set_slot, set_refusal}
use Rattle.laws.specs.Results.{passed-as-0, handed-on, told}
use Rattle.batch.proofs.Batches.{refused-is, edge-refused, absent-is}
use Rattle.batch.proofs.set.Goals as goal

pub returns-in_err-set_refusal : goal.returns-in_err-set_refusal
unfolding set_slot
returns-in_err-set_refusal c =
    let p = err_from_is_err_and c.from_residual.result c.from_residual.ensures.1 in
    let r = handed-on p.1 p.2 c.in_err-set_refusal.was c.set_refusal.ensures in
    refused-is (record { number = edge-refused _ _ _ _ _ _ r.number r.not-0; not-0 = r.not-0 }) _ _ _ _

pub returns-in_default : goal.returns-in_default
unfolding set_slot number_of
returns-in_default c =
    refused-is (told AbsentPoint (absent-is _ _ _ _ (sym c.set_refusal.ensures ∙ passed-as-0 c.in_ok-set_refusal.was) ∙ ap (set_refusal _ _ _ _) (sym c.in_default.is))) _ _ _ _

pub set_point-requires : goal.set_point-requires
set_point-requires c = sym c.set_refusal.ensures ∙ passed-as-0 c.in_ok-set_refusal.was
