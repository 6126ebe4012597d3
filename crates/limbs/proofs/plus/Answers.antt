-- The sum as it is where it is below the modulus, else less it.
use Rattle.limbs.proofs.Modulo.{kept, lessened}
use Rattle.limbs.proofs.plus.Goals as goal

pub returns-then-d : goal.returns-then-d
returns-then-d c = kept _ _ _ _ _ c.sum-s.ensures c.difference-d.ensures c.if-d.true

pub returns-else-d : goal.returns-else-d
returns-else-d c = lessened _ _ _ _ _ c.sum-s.ensures c.difference-d.ensures c.if-d.false
