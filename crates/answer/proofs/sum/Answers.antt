use Rattle.rules.specs.Helpers.{sum_done}
use Rattle.answer.proofs.sum.Goals as goal

pub returns : goal.returns
unfolding sum_done
returns c = rw c.array-value.ensures
