-- The tests in their order, each by what it answered.
use mathlib.Core.Path.{sym, ap₂, ◌∙◌}
use mathlib.Core.Bool.{◌||◌}
use Rattle.rules.specs.Numbers.{as_number, number_of}
use Rattle.rules.specs.Lists.{lists_too_many}
use Rattle.laws.specs.Conditions.{first-here, first_next, first-end}
use Rattle.asks.proofs.plain_lists.Goals as goal

pub returns-then-not_whole : goal.returns-then-not_whole
unfolding as_number number_of
returns-then-not_whole c = first-here _ _ _ (ap₂ ◌||◌ (sym c.not_whole.ensures) (sym c.not_whole-2.ensures) ∙ c.if-not_whole.true)

pub returns-then-too_many : goal.returns-then-too_many
unfolding lists_too_many as_number number_of
returns-then-too_many c =
    first_next _ _ _ _ (ap₂ ◌||◌ (sym c.not_whole.ensures) (sym c.not_whole-2.ensures) ∙ c.if-not_whole.false) (first-here _ _ _ (ap₂ ◌||◌ (sym c.too_many.ensures) (sym c.too_many-2.ensures) ∙ c.if-too_many.true))

pub returns : goal.returns
unfolding lists_too_many as_number number_of
returns c =
    first_next _ _ _ _ (ap₂ ◌||◌ (sym c.not_whole.ensures) (sym c.not_whole-2.ensures) ∙ c.if-not_whole.false)
    (first_next _ _ _ _ (ap₂ ◌||◌ (sym c.too_many.ensures) (sym c.too_many-2.ensures) ∙ c.if-too_many.false) first-end)
