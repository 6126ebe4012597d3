-- The part that is cut there.
use Rattle.room.proofs.Units.{units-cut}
use Rattle.room.proofs.parts.first_units_mut.Goals as goal

pub returns : goal.returns
returns g c = units-cut _ _ _ _ c.places-end.ensures
