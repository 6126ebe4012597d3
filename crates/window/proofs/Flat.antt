-- Windows as flat limbs: their entries, and the residues that their entries say.
use mathlib.Core.Path.{◌≡◌, refl, sym, ap, ◌∙◌}
use mathlib.Core.List.{List, [], ◌∷◌, ◌++◌}
use Prim.Native.Nat.{ℕ, zero, suc, ◌+◌, ◌*◌, ◌<◌}
use native.Mathlib.Nat.{add-zero}
use native.Mathlib.Omega.{arith}
use lib.ListN.{length, get_or}
use Rattle.std.specs.List.{flat_map}
use Rattle.rules.specs.declared.Element.{Element}
use Rattle.rules.specs.Values.{limb, limbs_of, value_of, element_of, element_at, point_at}
use Rattle.rules.specs.Group.{L, elements, residues}
use Rattle.rules.specs.Windows.{stepped, successive, odd, limbs_flat}
use Rattle.rules.specs.Lists.{joined}
use Rattle.rules.specs.Helpers.{elements_flat, flat_in}
use Rattle.laws.specs.Parts.{part_at, flat-length, flat-part, flat-ext}
use Rattle.laws.specs.Carried.{stepped-carry}
use Rattle.limbs.proofs.Elements.{same, Ranged, whole, limbs-of}
use Rattle.residue.proofs.Members.{Member, value_in_lem, added-in, added-value, added-ranged}
use Rattle.residue.proofs.Laws.{carries}

-- the limb arrays of a window as the flat list of them
pub joined-flat : (w : List (List ℕ)) → flat_map (λ x. x) w ≡ joined w
unfolding joined
joined-flat [] = refl
joined-flat (x ∷ w) = ap (λ (y : List ℕ). x ++ y) (joined-flat w)

-- an element read from limbs in range
pub read-ranged : (w : List ℕ) → ((i : ℕ) → get_or w i 0 < limb) → (k : ℕ) → Ranged (element_at w k)
unfolding element_at
read-ranged w h k = record { r0 = h _; r1 = h _; r2 = h _; r3 = h _ }

-- n elements, whatever they are
module _ (t : ℕ → Element) (n : ℕ) where
  pub elements-length : length (elements_flat t n) ≡ 4 * n
  unfolding flat_in
  elements-length = flat-length 4 (λ k. limbs_of (t k)) n (λ i p. refl)

  limb-at : (k j : ℕ) → k < n → j < 4 → get_or (elements_flat t n) (4 * k + j) 0 ≡ get_or (limbs_of (t k)) j 0
  unfolding flat_in
  limb-at k j h g =
      sym (part_at 4 k (elements_flat t n) j 0 g) ∙ ap (λ l. get_or l j 0) (flat-part 4 (λ k. limbs_of (t k)) n k (λ i p. refl) h)

  -- entry k
  pub elements-at : (k : ℕ) → k < n → element_at (elements_flat t n) k ≡ t k
  unfolding element_at
  elements-at k h =
      let first = ap (λ (i : ℕ). get_or (elements_flat t n) i 0) (sym (add-zero (4 * k))) ∙ limb-at k 0 h (omega arith) in
      same first (limb-at k 1 h (omega arith)) (limb-at k 2 h (omega arith)) (limb-at k 3 h (omega arith))

pub elements-ext : {t u : ℕ → Element} (n : ℕ) → ((k : ℕ) → k < n → t k ≡ u k) → elements_flat t n ≡ elements_flat u n
unfolding flat_in
elements-ext n h = flat-ext n (λ k p. ap (λ e. limbs_of e) (h k p))

-- n residues
module _ (t : ℕ → ℕ) (n : ℕ) where
  pub limbs-elements : limbs_flat t n ≡ elements_flat (λ k. element_of (t k)) n
  unfolding limbs_flat flat_in
  limbs-elements = flat-ext n (λ k p. limbs-of (t k))

  pub limbs-length : length (limbs_flat t n) ≡ 4 * n
  limbs-length = ap length limbs-elements ∙ elements-length (λ k. element_of (t k)) n

  pub limbs-at : (k : ℕ) → k < n → t k < L → point_at (limbs_flat t n) k ≡ t k
  unfolding point_at
  limbs-at k h g = ap (λ l. value_of (element_at l k)) limbs-elements ∙ ap value_of (elements-at (λ k. element_of (t k)) n k h) ∙ value_in_lem (t k) g

-- windows of a member: on four limbs they are the limbs of those on residues
module _ (p : Element) (r : Ranged p) (m : Member p) where
  stepped-ranged : (s : Element) (k : ℕ) → Ranged (stepped elements s p k)
  unfolding stepped
  stepped-ranged s zero = r
  stepped-ranged s (suc k) = added-ranged (stepped elements s p k) s

  stepped-limbs : (s : Element) → Member s → (k : ℕ) → stepped elements s p k ≡ element_of (stepped residues (value_of s) (value_of p) k)
  stepped-limbs s h k = sym (whole _ (stepped-ranged s k)) ∙ ap element_of (stepped-carry carries k h m).1

  pub successive-limbs : (n : ℕ) → elements_flat (successive elements p) n ≡ limbs_flat (successive residues (value_of p)) n
  unfolding successive
  successive-limbs n = elements-ext n (λ k h. stepped-limbs p m k) ∙ sym (limbs-elements _ n)

  pub odd-limbs : (n : ℕ) → elements_flat (odd elements p) n ≡ limbs_flat (odd residues (value_of p)) n
  unfolding odd
  odd-limbs n =
      elements-ext n (λ k h. stepped-limbs (elements.op p p) (added-in p p m m) k ∙ ap (λ (s : ℕ). element_of (stepped residues s (value_of p) k)) (added-value p p m m))
      ∙ sym (limbs-elements _ n)
