use mathlib.Core.Path.{sym, ◌∙◌}
use Rattle.laws.proofs.Puts.{put_same, put_other}
use Rattle.room.proofs.put.Goals as goal

pub returns-then-part-list : goal.returns-then-part-list
returns-then-part-list g c = sym (put_other _ _ c.if-part-list.true)

pub returns : goal.returns
returns g c = c.copy_from_slice.ensures.after ∙ sym (put_same _ _ c.if-part-list.false)
