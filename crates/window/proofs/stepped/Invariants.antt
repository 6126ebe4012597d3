-- After i turns the first i entries are there, by i - 1 additions.
use Rattle.rules.specs.Values.{limbs_of}
use Rattle.rules.specs.Group.{elements}
use Rattle.laws.proofs.Stepping.{Built}
use Rattle.window.proofs.stepped.Given as goal

abbrev pub invariant-loop-i : goal.invariant-loop-i
invariant-loop-i g l = Built elements limbs_of g.row.N l.s l.initial.e l.additions l.t l.e l.i
