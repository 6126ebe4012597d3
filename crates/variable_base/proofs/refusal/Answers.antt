-- The lengths, then the contents.
use Rattle.rules.specs.Numbers.{as_number, number_of}
use Rattle.rules.specs.Rows.{not_long}
use Rattle.rules.specs.Engines.{single_refusal}
use Rattle.laws.specs.Conditions.{first-here, first_next}
use Rattle.variable_base.proofs.refusal.Goals as goal

pub returns-then-point-scalar : goal.returns-then-point-scalar
unfolding single_refusal not_long as_number number_of
returns-then-point-scalar c = first-here _ _ _ c.if-point-scalar.true

pub returns : goal.returns
unfolding single_refusal not_long
returns c = first_next _ _ _ _ c.if-point-scalar.false c.plain_contents.ensures
