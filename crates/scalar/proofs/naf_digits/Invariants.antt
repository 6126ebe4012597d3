-- The NAF recoder. The loop's invariant: what is done below pos, with the carry into it.
use Rattle.std.proofs.Common.{◌-◌, take}
use Rattle.rules.specs.Values.{number}
use Rattle.scalar.proofs.NafTurn.{Done}
use Rattle.scalar.proofs.naf_digits.Given as goal

abbrev pub invariant-loop-pos : goal.invariant-loop-pos
invariant-loop-pos l = Done l.w (number 256 (take 32 l.scalar)) l.naf l.pos l.carry

abbrev pub decreases-loop-pos : goal.decreases-loop-pos
decreases-loop-pos l = 256 - l.pos
