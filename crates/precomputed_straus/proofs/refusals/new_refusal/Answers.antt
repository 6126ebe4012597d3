-- The first test that holds gives the number.
use mathlib.Core.Path.{sym, ◌∙◌}
use native.Mathlib.Omega.{arith}
use borrow.Author.Tests.{eq-eqb, ne_eqb}
use Rattle.rules.specs.Numbers.{as_number, most_static, first, number_of}
use Rattle.rules.specs.Lists.{other_than}
use Rattle.rules.specs.Engines.{new_refusal}
use Rattle.lent.proofs.Passed.{few}
use Rattle.precomputed_straus.proofs.refusals.new_refusal.Goals as goal

pub returns-then-not_whole : goal.returns-then-not_whole
unfolding new_refusal first other_than as_number number_of
returns-then-not_whole c = rw (sym c.not_whole.ensures ∙ c.if-not_whole.true)

pub returns-then-too_many : goal.returns-then-too_many
unfolding new_refusal first other_than as_number number_of
returns-then-too_many c =
    rw (sym c.not_whole.ensures ∙ c.if-not_whole.false, sym c.too_many.ensures ∙ c.if-too_many.true)

pub overflow_mul-points : goal.overflow_mul-points
overflow_mul-points c = omega (arith, few most_static 4 _ (sym c.too_many.ensures ∙ c.if-too_many.false))

pub returns-then-tables-points : goal.returns-then-tables-points
unfolding new_refusal first other_than as_number number_of
returns-then-tables-points c =
    rw (sym c.not_whole.ensures ∙ c.if-not_whole.false, sym c.too_many.ensures ∙ c.if-too_many.false, ne_eqb _ _ c.if-tables-points.true)

pub returns-then-any_over : goal.returns-then-any_over
unfolding new_refusal first other_than as_number number_of
returns-then-any_over c =
    rw (sym c.not_whole.ensures ∙ c.if-not_whole.false, sym c.too_many.ensures ∙ c.if-too_many.false, eq-eqb _ _ c.if-tables-points.false, sym c.any_over.ensures ∙ c.if-any_over.true)

pub returns : goal.returns
unfolding new_refusal first other_than as_number number_of
returns c =
    rw (sym c.not_whole.ensures ∙ c.if-not_whole.false, sym c.too_many.ensures ∙ c.if-too_many.false, eq-eqb _ _ c.if-tables-points.false, sym c.any_over.ensures ∙ c.if-any_over.false)
