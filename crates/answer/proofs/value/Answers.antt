use Rattle.rules.specs.Helpers.{value_done}
use Rattle.answer.proofs.value.Goals as goal

pub returns : goal.returns
unfolding value_done
returns c = rw c.array-value.ensures
