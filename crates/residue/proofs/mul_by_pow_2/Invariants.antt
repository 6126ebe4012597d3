-- After so many turns the element has been doubled as often.
use Rattle.std.proofs.Common.{◌≡◌}
use Rattle.rules.specs.Group.{elements}
use Rattle.rules.specs.Loops.{doubled}
use Rattle.residue.proofs.mul_by_pow_2.Given as goal

abbrev pub invariant-loop : goal.invariant-loop
invariant-loop l = l.q ≡ doubled elements l.counter l.initial.q
