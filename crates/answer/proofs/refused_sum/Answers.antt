use Rattle.answer.proofs.Zeros.{none}
use Rattle.rules.specs.Numbers.{summed}
use Rattle.rules.specs.Values.{places}
use Rattle.answer.proofs.refused_sum.Goals as goal

pub returns : goal.returns
unfolding summed places
returns c = rw (none c.args.number)
