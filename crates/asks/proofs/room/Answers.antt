-- By the test.
use Rattle.rules.specs.Numbers.{as_number, number_of}
use Rattle.rules.specs.Lists.{shorter}
use Rattle.laws.specs.Conditions.{first-here, first_next, first-end}
use Rattle.asks.proofs.room.Goals as goal

pub returns-then-digits-needed_digits : goal.returns-then-digits-needed_digits
unfolding shorter as_number number_of
returns-then-digits-needed_digits c = first-here _ _ _ c.if-digits-needed_digits.true

pub returns : goal.returns
unfolding shorter as_number number_of
returns c = first_next _ _ _ _ c.if-digits-needed_digits.false first-end
