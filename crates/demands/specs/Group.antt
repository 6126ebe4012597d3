-- What the sums stand on: the residues modulo L are a commutative group, and lookup by a digit d in a built window is d times its point.
use Rattle.std.specs.Prelude.{◌≡◌, refl, List, ℕ, ◌%◌, ◌<◌, ◌≤◌, length, ℤ, nat_abs}
use Rattle.std.proofs.Common.{mod-lt}
use Rattle.rules.specs.Values.{point_at}
use Rattle.rules.specs.Group.{L, residues, times_z}
use Rattle.rules.specs.Numbers.{valued}
use Rattle.rules.specs.Windows.{lookup_table, naf_lookup_table5, naf_lookup_table8, select, select_naf}
use Rattle.laws.specs.Residues.{modulo-assoc, modulo-comm, modulo-sub}
use Rattle.residue.proofs.Reduction.{L-pos}
use Rattle.residue.proofs.Laws.{group}
use Rattle.lookup.proofs.ReadBack as back

-- the members are the numbers below L: the identity, sums, differences, doubles and inverses are
pub identity-in : residues.e < L
identity-in = L-pos

pub closed : (a b : ℕ) → residues.op a b < L
closed a b = mod-lt _ L-pos

pub difference-in : (a b : ℕ) → residues.sub a b < L
difference-in a b = mod-lt _ L-pos

pub doubling-in : (a : ℕ) → residues.twice a < L
doubling-in a = mod-lt _ L-pos

pub inverse-in : (a : ℕ) → residues.inv a < L
inverse-in a = mod-lt _ L-pos

-- associative, commutative, identity, inverse
pub associative : (a b c : ℕ) → residues.op (residues.op a b) c ≡ residues.op a (residues.op b c)
associative = modulo-assoc L

pub commutative : (a b : ℕ) → residues.op a b ≡ residues.op b a
commutative = modulo-comm L

pub identity : (a : ℕ) → a < L → residues.op residues.e a ≡ a
identity a h = group.idl h

pub inverse : (a : ℕ) → a < L → residues.op (residues.inv a) a ≡ residues.e
inverse a h = group.invl h

-- a difference is the sum with the inverse, a double the sum with itself
pub difference : (a b : ℕ) → residues.sub a b ≡ residues.op a (residues.inv b)
difference = modulo-sub L

pub doubling : (a : ℕ) → residues.twice a ≡ residues.op a a
doubling a = refl

-- windows of a point p below L
module _ (p : List ℕ) (four : length p ≡ 4) (below : point_at p 0 < L) (d : ℤ) where
  pub in-radix-16 : nat_abs d ≤ 8 → select (lookup_table p).limbs d ≡ valued 0 (times_z residues d (point_at p 0))
  in-radix-16 = back.lookup-table-read p four below d

  pub in-naf-5 : nat_abs d % 2 ≡ 1 → nat_abs d ≤ 15 → select_naf 8 (naf_lookup_table5 p).limbs d ≡ valued 0 (times_z residues d (point_at p 0))
  in-naf-5 = back.naf-lookup-table5-read p four below d

  pub in-naf-8 : nat_abs d % 2 ≡ 1 → nat_abs d ≤ 127 → select_naf 64 (naf_lookup_table8 p).limbs d ≡ valued 0 (times_z residues d (point_at p 0))
  in-naf-8 = back.naf-lookup-table8-read p four below d
