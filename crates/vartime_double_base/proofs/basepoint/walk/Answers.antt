-- The window's rule, computed over the whole table; the walk is the shared one.
use Rattle.rules.specs.Values.{places, flat}
use Rattle.rules.specs.Group.{L}
use Rattle.rules.specs.Windows.{stepped, odd, limbs_flat}
use Rattle.vartime_double_base.proofs.basepoint.walk.Goals as goal

pub returns : goal.returns
unfolding places flat L stepped odd limbs_flat
returns c = c.walk.ensures
