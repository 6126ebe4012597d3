-- The tests in their order, each by what it answered.
use mathlib.Core.Path.{sym, ap₂, ◌∙◌}
use mathlib.Core.Bool.{◌||◌}
use native.Mathlib.Omega.{arith}
use Rattle.rules.specs.Numbers.{as_number, number_of}
use Rattle.laws.specs.Results.{passed-as-0, handed-on}
use Rattle.std.proofs.lemmas.Result.{err_from_is_err_and}
use Rattle.laws.specs.Conditions.{first-here, first_next, first-end, joined-here, joined-next}
use Rattle.precomputed_straus.proofs.lists.Mixed.lists.Goals as goal

pub returns-then-cut-not_whole : goal.returns-then-cut-not_whole
unfolding as_number number_of
returns-then-cut-not_whole c = first-here _ _ _ (ap₂ ◌||◌ (sym c.not_whole-cut.ensures) (sym c.not_whole.ensures) ∙ c.if-cut-not_whole.true)

pub returns-in_err-lists : goal.returns-in_err-lists
returns-in_err-lists c =
    let p = err_from_is_err_and c.from_residual.result c.from_residual.ensures.1 in
    let r = handed-on p.1 p.2 c.in_err-lists.was c.lists.ensures in
    first_next _ _ _ _ (ap₂ ◌||◌ (sym c.not_whole-cut.ensures) (sym c.not_whole.ensures) ∙ c.if-cut-not_whole.false) (joined-here _ _ r.number r.not-0)

pub returns-then-many-too_many : goal.returns-then-many-too_many
unfolding as_number number_of
returns-then-many-too_many c =
    first_next _ _ _ _ (ap₂ ◌||◌ (sym c.not_whole-cut.ensures) (sym c.not_whole.ensures) ∙ c.if-cut-not_whole.false)
    (joined-next _ _ (omega arith) c.lists.ensures (passed-as-0 c.in_ok-lists.was) (first-here _ _ _ (ap₂ ◌||◌ (sym c.too_many-many.ensures) (sym c.too_many.ensures) ∙ c.if-many-too_many.true)))

pub returns : goal.returns
unfolding as_number number_of
returns c =
    first_next _ _ _ _ (ap₂ ◌||◌ (sym c.not_whole-cut.ensures) (sym c.not_whole.ensures) ∙ c.if-cut-not_whole.false)
    (joined-next _ _ (omega arith) c.lists.ensures (passed-as-0 c.in_ok-lists.was)
    (first_next _ _ _ _ (ap₂ ◌||◌ (sym c.too_many-many.ensures) (sym c.too_many.ensures) ∙ c.if-many-too_many.false) first-end))
