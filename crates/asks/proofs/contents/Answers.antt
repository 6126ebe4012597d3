-- The tests in their order, each by what it answered.
use mathlib.Core.Path.{sym, ◌∙◌}
use Rattle.rules.specs.Numbers.{as_number, number_of}
use Rattle.laws.specs.Conditions.{first-here, first_next}
use Rattle.asks.proofs.contents.Goals as goal

pub returns-then-any_big : goal.returns-then-any_big
unfolding as_number number_of
returns-then-any_big c = first-here _ _ _ (sym c.any_big.ensures ∙ c.if-any_big.true)

pub returns-then-bad_lists : goal.returns-then-bad_lists
unfolding as_number number_of
returns-then-bad_lists c =
    first_next _ _ _ _ (sym c.any_big.ensures ∙ c.if-any_big.false) (first-here _ _ _ (sym c.bad_lists.ensures ∙ c.if-bad_lists.true))

pub returns : goal.returns
unfolding as_number number_of
returns c =
    first_next _ _ _ _ (sym c.any_big.ensures ∙ c.if-any_big.false) (first_next _ _ _ _ (sym c.bad_lists.ensures ∙ c.if-bad_lists.false) c.present.ensures)
