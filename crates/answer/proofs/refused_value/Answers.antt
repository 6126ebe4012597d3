use Rattle.answer.proofs.Zeros.{none}
use Rattle.rules.specs.Numbers.{valued}
use Rattle.rules.specs.Values.{places}
use Rattle.answer.proofs.refused_value.Goals as goal

pub returns : goal.returns
unfolding valued places
returns c = rw (none c.args.n)
