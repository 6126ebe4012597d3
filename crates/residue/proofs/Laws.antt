-- The group of the engines, and how the operations on four limbs carry over to it.
use Prim.Native.Nat.{◌<◌}
use Rattle.rules.specs.Values.{value_of}
use Rattle.rules.specs.Group.{L, residues, elements}
use Rattle.laws.specs.Group.{Laws}
use Rattle.laws.specs.Carried.{Carries}
use Rattle.laws.specs.Residues.{modulo-laws}
use Rattle.residue.proofs.Reduction.{L-pos}
use Rattle.residue.proofs.Members.{Member, value_in_lem, member_of, added-value, added-in, subtracted-value, subtracted-in, negated-value, negated-in}

-- the five laws of the residues
pub group : Laws residues (λ a. a < L)
group = modulo-laws L L-pos

-- the value of a member carries all that is built of the operations from four limbs to residues
pub carries : Carries elements residues Member value_of
carries = record {
  e-in = member_of 0 L-pos;
  op-in = λ {a} {b} ha hb. added-in a b ha hb;
  sub_in = λ {a} {b} ha hb. subtracted-in a b ha hb;
  twice_in = λ {a} ha. added-in a a ha ha;
  inv-in = λ {a} ha. negated-in a ha;
  to-e = value_in_lem 0 L-pos;
  to-op = λ {a} {b} ha hb. added-value a b ha hb;
  to-sub = λ {a} {b} ha hb. subtracted-value a b ha hb;
  to-twice = λ {a} ha. added-value a a ha ha;
  to_inv = λ {a} ha. negated-value a ha;
}
