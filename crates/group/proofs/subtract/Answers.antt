-- Refused, or the difference of two members.
use Rattle.std.proofs.lemmas.Result.{err_from_is_err_and}
use Rattle.rules.specs.Calls.{group_subtract}
use Rattle.laws.specs.Results.{passed-as-0, handed-on}
use Rattle.laws.specs.Results.{refused-value}
use Rattle.group.proofs.Answers.{difference-answer}
use Rattle.group.proofs.subtract.Goals as goal

pub returns-in_err-pair_refusal : goal.returns-in_err-pair_refusal
unfolding group_subtract
returns-in_err-pair_refusal c =
    let p = err_from_is_err_and c.from_residual.result c.from_residual.ensures.1 in
    refused-value (handed-on p.1 p.2 c.in_err-pair_refusal.was c.pair_refusal.ensures) _

pub returns : goal.returns
returns c =
    difference-answer _ _ c.pair_refusal.ensures (passed-as-0 c.in_ok-pair_refusal.was) c.element_at.ensures c.element_at-2.ensures c.minus.ensures
