-- The parts in their order, each by what it answered.
use native.Mathlib.Omega.{arith}
use Rattle.std.proofs.lemmas.Result.{err_from_is_err_and}
use Rattle.laws.specs.Results.{passed-as-0, handed-on}
use Rattle.rules.specs.Numbers.{as_number, number_of}
use Rattle.rules.specs.Lists.{other_than}
use Rattle.rules.specs.Batch.{prepare_refusal}
use Rattle.laws.specs.Conditions.{first-here, first_next, first-end, joined-here, joined-next}
use Rattle.lent.proofs.Passed.{same, other, counts-few}
use Rattle.batch.proofs.refusals.prepare_refusal.Goals as goal

pub returns-in_err-lists : goal.returns-in_err-lists
unfolding prepare_refusal
returns-in_err-lists c =
    let p = err_from_is_err_and c.from_residual.result c.from_residual.ensures.1 in
    let r = handed-on p.1 p.2 c.in_err-lists.was c.lists.ensures in
    joined-here _ _ r.number r.not-0

pub overflow_mul-n : goal.overflow_mul-n
overflow_mul-n c = omega (arith, (counts-few _ _ _ c.lists.ensures (passed-as-0 c.in_ok-lists.was)).0)

pub returns-then-digits-n : goal.returns-then-digits-n
unfolding prepare_refusal other_than as_number number_of
returns-then-digits-n c = joined-next _ _ (omega arith) c.lists.ensures (passed-as-0 c.in_ok-lists.was) (first-here _ _ _ c.if-digits-n.true)

pub returns-in_err-contents : goal.returns-in_err-contents
unfolding prepare_refusal other_than
returns-in_err-contents c =
    let p = err_from_is_err_and c.from_residual-in_err-contents.result c.from_residual-in_err-contents.ensures.1 in
    let r = handed-on p.1 p.2 c.in_err-contents.was c.contents.ensures in
    joined-next _ _ (omega arith) c.lists.ensures (passed-as-0 c.in_ok-lists.was)
    (first_next _ _ _ _ c.if-digits-n.false (joined-here _ _ r.number r.not-0))

pub returns-then-n-points : goal.returns-then-n-points
unfolding prepare_refusal other_than as_number number_of
returns-then-n-points c =
    joined-next _ _ (omega arith) c.lists.ensures (passed-as-0 c.in_ok-lists.was)
    (first_next _ _ _ _ c.if-digits-n.false (joined-next _ _ (omega arith) c.contents.ensures (passed-as-0 c.in_ok-contents.was) (first-here _ _ _ (unfold other_than in (other c.if-n-points.true)))))

pub returns : goal.returns
unfolding prepare_refusal other_than as_number number_of
returns c =
    joined-next _ _ (omega arith) c.lists.ensures (passed-as-0 c.in_ok-lists.was)
    (first_next _ _ _ _ c.if-digits-n.false (joined-next _ _ (omega arith) c.contents.ensures (passed-as-0 c.in_ok-contents.was) (first_next _ _ _ _ (same c.if-n-points.false) first-end)))
