-- The lengths, then the contents.
use mathlib.Core.Path.{sym, ◌∙◌}
use Rattle.rules.specs.Numbers.{as_number, number_of}
use Rattle.rules.specs.Rows.{not_long}
use Rattle.rules.specs.Engines.{double_refusal}
use Rattle.laws.specs.Conditions.{first-here, first_next}
use Rattle.vartime_double_base.proofs.refusal.Goals as goal

pub returns-then-a-point : goal.returns-then-a-point
unfolding double_refusal not_long as_number number_of
returns-then-a-point c = first-here _ _ _ c.if-a-point.true

pub returns-then-any_big : goal.returns-then-any_big
unfolding double_refusal not_long as_number number_of
returns-then-any_big c = first_next _ _ _ _ c.if-a-point.false (first-here _ _ _ (sym c.any_big.ensures ∙ c.if-any_big.true))

pub returns : goal.returns
unfolding double_refusal not_long
returns c =
    first_next _ _ _ _ c.if-a-point.false (first_next _ _ _ _ (sym c.any_big.ensures ∙ c.if-any_big.false) c.plain_contents.ensures)
