-- The tests in their order, each by what it answered.
use mathlib.Core.Path.{sym, ◌∙◌}
use native.Mathlib.Omega.{arith}
use Rattle.std.proofs.lemmas.Result.{err_from_is_err_and}
use Rattle.laws.specs.Results.{passed-as-0, handed-on}
use Rattle.rules.specs.Numbers.{as_number, number_of}
use Rattle.rules.specs.Lists.{other_than}
use Rattle.laws.specs.Conditions.{first-here, first_next, first-end, joined-here, joined-next}
use Rattle.precomputed_straus.proofs.lists.Mixed.contents.Goals as goal

pub returns-then-any_big : goal.returns-then-any_big
unfolding as_number number_of
returns-then-any_big c = first-here _ _ _ (sym c.any_big.ensures ∙ c.if-any_big.true)

pub returns-in_err-contents : goal.returns-in_err-contents
returns-in_err-contents c =
    let p = err_from_is_err_and c.from_residual.result c.from_residual.ensures.1 in
    let r = handed-on p.1 p.2 c.in_err-contents.was c.contents.ensures in
    first_next _ _ _ _ (sym c.any_big.ensures ∙ c.if-any_big.false) (joined-here _ _ r.number r.not-0)

pub returns-then-untabled-self : goal.returns-then-untabled-self
unfolding other_than as_number number_of
returns-then-untabled-self c =
    first_next _ _ _ _ (sym c.any_big.ensures ∙ c.if-any_big.false) (joined-next _ _ (omega arith) c.contents.ensures (passed-as-0 c.in_ok-contents.was) (first-here _ _ _ c.if-untabled-self.true))

pub returns-then-any_over : goal.returns-then-any_over
unfolding other_than as_number number_of
returns-then-any_over c =
    first_next _ _ _ _ (sym c.any_big.ensures ∙ c.if-any_big.false)
    (joined-next _ _ (omega arith) c.contents.ensures (passed-as-0 c.in_ok-contents.was) (first_next _ _ _ _ c.if-untabled-self.false (first-here _ _ _ (sym c.any_over.ensures ∙ c.if-any_over.true))))

pub returns : goal.returns
unfolding other_than as_number number_of
returns c =
    first_next _ _ _ _ (sym c.any_big.ensures ∙ c.if-any_big.false)
    (joined-next _ _ (omega arith) c.contents.ensures (passed-as-0 c.in_ok-contents.was) (first_next _ _ _ _ c.if-untabled-self.false (first_next _ _ _ _ (sym c.any_over.ensures ∙ c.if-any_over.false) first-end)))
