-- An element reaches the modulus where their difference borrows nothing.
use Rattle.limbs.proofs.Modulo.{reaches}
use Rattle.limbs.proofs.over.Goals as goal

pub returns : goal.returns
returns c = reaches _ _ _ c.difference.ensures
