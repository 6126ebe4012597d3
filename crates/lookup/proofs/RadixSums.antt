-- The radix-16 walk on four limbs over rows of scalars and windows of points that are made: the sum of the products modulo L.
use mathlib.Core.Path.{◌≡◌, refl, sym, ap, ◌∙◌}
use Prim.Native.Nat.{ℕ, zero, suc, ◌*◌, ◌%◌, ◌<◌}
use native.Mathlib.Omega.{arith}
use lib.IntN.{ℤ, pos}
use Rattle.rules.specs.declared.Element.{Element}
use Rattle.rules.specs.Values.{value_of, element_of}
use Rattle.rules.specs.Group.{L, residues, elements, times_z, total}
use Rattle.rules.specs.Loops.{down, doubled}
use Rattle.rules.specs.Numbers.{scalar_bound}
use Rattle.rules.specs.Rows.{digit, row_sum, radix_row}
use Rattle.rules.specs.Windows.{successive}
use Rattle.rules.specs.Helpers.{elements_flat, looked_up}
use Rattle.laws.specs.Loops.{up-carry, down-carry}
use Rattle.laws.specs.Residues.{modulo-sum}
use Rattle.laws.specs.RadixRows.{scalar-has-row, radix-small}
use Rattle.laws.specs.RowsRule.{radix-sum}
use Rattle.laws.specs.RadixWalk.{radix_column, radix_turn, radix-walk, radix-walk-from}
use Rattle.limbs.proofs.Elements.{Ranged, ranged-of, whole}
use Rattle.residue.proofs.Members.{Member, added-ranged}
use Rattle.residue.proofs.Laws.{group, carries}
use Rattle.lookup.proofs.ReadBack.{made-read}

-- limbs in range stay so
module _ (t : ℕ → ℕ → Element) (m : ℕ) where
  doubled-ranged : (w : ℕ) {q : Element} → Ranged q → Ranged (doubled elements w q)
  unfolding doubled
  doubled-ranged zero h = h
  doubled-ranged (suc w) {q} h = added-ranged (doubled elements w q) (doubled elements w q)

  column-ranged : (j : ℕ) {q : Element} → Ranged q → Ranged (radix_column elements t m j q)
  unfolding radix_column
  column-ranged j h = (up-carry {C = ℕ} Ranged (λ _. 0) (λ i r. elements.op r (t i j)) (λ i x. 0) m (λ i p r _. (added-ranged r (t i j), refl)) h).0

  places-ranged : (n : ℕ) {q : Element} → Ranged q → Ranged (down (radix_turn elements t m 4) n q)
  places-ranged n h = (down-carry {C = ℕ} Ranged (λ _. 0) (radix_turn elements t m 4) (λ i x. 0) n (λ j p r hr. (column-ranged j (doubled-ranged 4 hr), refl)) h).0

module _ (t : ℕ → ℕ → Element) (p : ℕ → Element) (s : ℕ → ℕ) (m : ℕ) (points : (i : ℕ) → i < m → Member (p i)) (scalars : (i : ℕ) → i < m → s i < scalar_bound)
    (looks : (i j : ℕ) → i < m → j < 64 → t i j ≡ looked_up 8 (elements_flat (successive elements (p i)) 8) (digit (radix_row 4 (s i)) j)) where
  abbrev products : ℕ
  products = total (λ i. s i * value_of (p i)) m % L

  abbrev d : ℕ → ℕ → ℤ
  d i j = digit (radix_row 4 (s i)) j

  entry : (i j : ℕ) → i < m → j < 64 → Member (t i j) × (value_of (t i j) ≡ times_z residues (d i j) (value_of (p i)))
  entry i j a b =
      rw (looks i j a b)
      (made-read 8 (p i) (points i a) (d i j) (radix-small 4 (omega arith) (omega arith) (s i) (scalar-has-row (scalars i a)) j))

  row : (i : ℕ) → i < m → row_sum 16 (d i) 64 ≡ pos (s i)
  row i _ = radix-sum 4 (omega arith) (omega arith) (s i)

  -- from the identity
  pub radix16-walked : down (radix_turn elements t m 4) 64 (element_of 0) ≡ element_of products
  radix16-walked =
      sym (whole _ (places-ranged t m 64 (ranged-of 0)))
      ∙ ap element_of (radix-walk carries group 4 t d (λ i. value_of (p i)) s m 64 points entry row ∙ modulo-sum L s (λ i. value_of (p i)) m)

  -- from the highest column
  pub radix16-walked-from : down (radix_turn elements t m 4) 63 (radix_column elements t m 63 (element_of 0)) ≡ element_of products
  radix16-walked-from =
      sym (whole _ (places-ranged t m 63 (column-ranged t m 63 (ranged-of 0))))
      ∙ ap element_of (radix-walk-from carries group 4 t d (λ i. value_of (p i)) s m 64 points entry row 63 refl ∙ modulo-sum L s (λ i. value_of (p i)) m)
