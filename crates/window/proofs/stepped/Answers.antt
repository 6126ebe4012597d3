use mathlib.Core.Path.{◌∙◌}
use native.Mathlib.Omega.{arith}
use Rattle.std.proofs.lemmas.List.{length-replicate, get_or-replicate}
use Rattle.rules.specs.Values.{limbs_of}
use Rattle.rules.specs.Group.{elements}
use Rattle.laws.proofs.Stepping.{built-first, built-more, built-all}
use Rattle.window.proofs.stepped.Goals as goal

pub loop-i-init : goal.loop-i-init
loop-i-init g c = built-first elements limbs_of g.row.N _ _ _ c.requires.size.0 c.requires.none (length-replicate _ _) (get_or-replicate _ _ _ _ c.requires.size.0 ∙ c.array-first.ensures)

pub loop-i-preserved : goal.loop-i-preserved
loop-i-preserved g c = built-more elements limbs_of _ _ _ c.loop-i.invariant (omega arith) c.plus-e.ensures c.array.ensures

pub returns : goal.returns
returns g c = built-all elements limbs_of _ _ _ c.loop-i.invariant c.loop-i-test.false
