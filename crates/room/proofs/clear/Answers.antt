use mathlib.Core.Path.{sym}
use Rattle.laws.proofs.Room.{cleared-none}
use Rattle.room.proofs.Clearing.{clear-turn, clear-end}
use Rattle.room.proofs.clear.Goals as goal

pub loop-place-init : goal.loop-place-init
loop-place-init g c = sym (cleared-none _ _)

pub loop-place-preserved : goal.loop-place-preserved
loop-place-preserved g c = clear-turn _ _ _ _ c.smaller-end.ensures _ _ c.loop-place.invariant c.loop-place-test.true

pub returns : goal.returns
returns g c = clear-end _ _ _ _ c.smaller-end.ensures _ _ c.loop-place.invariant c.loop-place-test.false
