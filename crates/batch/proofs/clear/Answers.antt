-- It is the edit with scalar 0 and point 0.
use mathlib.Core.Path.{ap, ◌∙◌}
use Rattle.std.specs.Prelude.{Some}
use Rattle.rules.specs.Batch.{set_slot, clear_slot}
use Rattle.batch.proofs.clear.Goals as goal

pub returns : goal.returns
unfolding clear_slot
returns c =
    c.set.ensures ∙ ap (set_slot _ _ _) (ap Some c.identity.ensures)
