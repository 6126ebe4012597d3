-- Members, the elements below L: what the operations on four limbs do with them is what the residues do.
use mathlib.Core.Path.{◌≡◌}
use Prim.Native.Nat.{ℕ, ◌<◌}
use Rattle.rules.specs.declared.Element.{Element}
use Rattle.rules.specs.Values.{value_of, element_of}
use Rattle.rules.specs.Group.{L, residues, added, subtracted, negated}
use Rattle.limbs.proofs.Elements.{Ranged}
use Rattle.limbs.proofs.Modulo as M
use Rattle.residue.proofs.Reduction.{L-modulus}

-- an element below L
abbrev pub Member : Element → Type 0
Member = M.Under L

-- a residue is the value of its element
pub value_in_lem : (v : ℕ) → v < L → value_of (element_of v) ≡ v
value_in_lem = M.value_in_lem L-modulus

pub member_of : (v : ℕ) → v < L → Member (element_of v)
member_of = M.member_of L-modulus

module _ (a b : Element) (ha : Member a) (hb : Member b) where
  pub added_is : added a b ≡ element_of (residues.op (value_of a) (value_of b))
  added_is = M.added_is L-modulus a b ha hb

  pub subtracted-is : subtracted a b ≡ element_of (residues.sub (value_of a) (value_of b))
  subtracted-is = M.subtracted-is L-modulus a b ha hb

  pub added-value : value_of (added a b) ≡ residues.op (value_of a) (value_of b)
  added-value = M.added-value L-modulus a b ha hb

  pub subtracted-value : value_of (subtracted a b) ≡ residues.sub (value_of a) (value_of b)
  subtracted-value = M.subtracted-value L-modulus a b ha hb

  pub added-in : Member (added a b)
  added-in = M.added-in L-modulus a b ha hb

  pub subtracted-in : Member (subtracted a b)
  subtracted-in = M.subtracted-in L-modulus a b ha hb

module _ (a : Element) (ha : Member a) where
  pub negated-value : value_of (negated a) ≡ residues.inv (value_of a)
  negated-value = M.negated-value L-modulus a ha

  pub negated-in : Member (negated a)
  negated-in = M.negated-in L-modulus a ha

-- whatever the limbs were, those of a result are below their bound
pub added-ranged : (a b : Element) → Ranged (added a b)
added-ranged = M.added-ranged L

pub subtracted-ranged : (a b : Element) → Ranged (subtracted a b)
subtracted-ranged = M.subtracted-ranged L

pub negated-ranged : (a : Element) → Ranged (negated a)
negated-ranged = M.negated-ranged L
