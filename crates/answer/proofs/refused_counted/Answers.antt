use Rattle.answer.proofs.Zeros.{none}
use Rattle.rules.specs.Numbers.{counted}
use Rattle.answer.proofs.refused_counted.Goals as goal

pub returns : goal.returns
unfolding counted
returns c = rw (none c.args.n)
