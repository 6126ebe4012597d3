-- Refused, or the inverse of a member.
use Rattle.std.proofs.lemmas.Result.{err_from_is_err_and}
use Rattle.rules.specs.Calls.{group_negate}
use Rattle.laws.specs.Results.{passed-as-0, handed-on}
use Rattle.laws.specs.Results.{refused-value}
use Rattle.group.proofs.Answers.{inverse-answer}
use Rattle.group.proofs.negate.Goals as goal

pub returns-in_err-point_refusal : goal.returns-in_err-point_refusal
unfolding group_negate
returns-in_err-point_refusal c =
    let p = err_from_is_err_and c.from_residual.result c.from_residual.ensures.1 in
    refused-value (handed-on p.1 p.2 c.in_err-point_refusal.was c.point_refusal.ensures) _

pub returns : goal.returns
returns c =
    inverse-answer _ c.point_refusal.ensures (passed-as-0 c.in_ok-point_refusal.was) c.element_at.ensures c.negative.ensures
