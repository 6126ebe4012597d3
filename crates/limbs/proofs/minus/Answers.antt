-- The difference, and the modulus more where it borrows.
use Rattle.limbs.proofs.Modulo.{raised, unraised}
use Rattle.limbs.proofs.minus.Goals as goal

pub returns-then-d : goal.returns-then-d
returns-then-d c = raised _ _ _ _ _ c.difference-d.ensures c.sum-s.ensures c.if-d.true

pub returns-else-d : goal.returns-else-d
returns-else-d c = unraised _ _ _ _ _ c.difference-d.ensures c.sum-s.ensures c.if-d.false
