use mathlib.Core.Path.{refl}
use Rattle.rules.specs.Helpers.{counted_done}
use Rattle.answer.proofs.counted.Goals as goal

pub returns : goal.returns
unfolding counted_done
returns c = refl
