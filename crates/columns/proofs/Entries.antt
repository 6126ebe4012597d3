-- The walk over entries as they stand, members all: the sum of the entries that the digits name, modulo L.
use mathlib.Core.Path.{◌≡◌, refl, sym, ap, ap₂, ◌∙◌}
use mathlib.Core.Logic.{◌⊎◌, inl, inr}
use Prim.Native.Nat.{ℕ, zero, suc, ◌+◌, ◌*◌, ◌%◌, ◌^◌, ◌<◌, ◌≤◌}
use native.Mathlib.Nat.{add-mod, mul-zero, eq-or-lt_of_le, le_of_suc-le-suc, le_step, lt-suc_self}
use native.Mathlib.Omega.{arith}
use lib.IntN.{ℤ, pos, negsuc}
use Rattle.rules.specs.declared.Element.{Element}
use Rattle.rules.specs.Values.{value_of, element_of}
use Rattle.rules.specs.Group.{L, Ops, residues, elements, times, sum_below, total}
use Rattle.rules.specs.Loops.{odd_entry, moved, column, walk}
use Rattle.rules.specs.Windows.{selected_odd}
use Rattle.rules.specs.Rows.{row_sum}
use Rattle.rules.specs.Engines.{entry_sum}
use Rattle.laws.specs.Group.{Laws}
use Rattle.laws.specs.Sums.{sum-ext}
use Rattle.laws.specs.Residues.{modulo-times, modulo-total, modulo-sum}
use Rattle.laws.specs.Loops.{up-carry, down-carry}
use Rattle.laws.specs.Weight.{total-none, total_ext}
use Rattle.laws.specs.Windows.{selected_odd-ext, odd-in}
use Rattle.laws.specs.Columns.{term, turn}
use Rattle.laws.specs.Walk.{Named, Windowed, walk-entries, walk-entries-one, walk-sum-one}
use Rattle.laws.specs.Carried.{walk-carry}
use Rattle.limbs.proofs.Elements.{Ranged, ranged-of, whole}
use Rattle.residue.proofs.Members.{Member, added-ranged, subtracted-ranged}
use Rattle.residue.proofs.Laws.{carries, group}

-- what a digit adds to the identity is what lookup by it gives
term_is : {A : Type 0} {o : Ops A} {In : A → Type 0} (l : Laws o In) (t : ℕ → A) (d : ℤ) → In (t (odd_entry d))
    → moved o d o.e (t (odd_entry d)) ≡ selected_odd o t d
unfolding moved selected_odd
term_is l t (pos zero) h = refl
term_is l t (pos (suc n)) h = l.idl h
term_is l t (negsuc n) h = l.sub_is l.e-in h ∙ l.idl (l.inv-in h)

total-top : (f : ℕ → ℕ) (k n : ℕ) → k ≤ n → ((i : ℕ) → k ≤ i → i < n → f i ≡ 0) → total f n ≡ total f k
unfolding total
total-top f k zero le h = let e : 0 ≡ k = omega arith in ap (total f) e
total-top f k (suc n) le h = go (eq-or-lt_of_le le) (λ a. total-top f k n a (λ i b q. h i b (le_step q)))
  where
    go : (k ≡ suc n) ⊎ (k < suc n) → (k ≤ n → total f n ≡ total f k) → total f n + f n ≡ total f k
    go (inl e) again = ap (total f) (sym e)
    go (inr q) again = omega (arith, again (le_of_suc-le-suc q), h n (le_of_suc-le-suc q) (lt-suc_self n))

module _ (d : ℕ → ℕ → ℤ) (x : ℕ → ℕ → ℕ) (m n : ℕ) where
  terms-sum : Named (λ a. a < L) d x m n → sum_below residues (λ i. sum_below residues (λ j. times residues (2 ^ j) (term residues d x i j)) n) m ≡ entry_sum d x m n % L
  unfolding entry_sum
  terms-sum h =
      sum-ext residues m
      (λ i p. sum-ext residues n (λ j q. modulo-times L (2 ^ j) (term residues d x i j) ∙ ap (λ (y : ℕ). (2 ^ j * y) % L) (term_is group (x i) (d i j) (h i j p q)))
      ∙ modulo-total L (λ j. 2 ^ j * selected_odd residues (x i) (d i j)) n)
      ∙ modulo-total L (λ i. total (λ j. 2 ^ j * selected_odd residues (x i) (d i j)) n) m

  -- of windows of odd multiples of residues p, by rows that read back to s: the sum of products
  pub entries-sum : (p s : ℕ → ℕ) → Windowed residues (λ a. a < L) d x p m n → ((i : ℕ) → i < m → row_sum 2 (d i) n ≡ pos (s i))
      → entry_sum d x m n % L ≡ total (λ i. s i * p i) m % L
  entries-sum p s h r =
      let named : Named (λ a. a < L) d x m n = λ i j a b. rw (h.entry-is i j a b) (odd-in group (odd_entry (d i j)) (h.point-in i a)) in
      sym (terms-sum named)
      ∙ sym (walk-entries-one group d x m d x n named)
      ∙ walk-sum-one group d x m d x n p s h r
      ∙ modulo-sum L s p m

  -- no rows
  pub entries_none : entry_sum d x 0 n ≡ 0
  unfolding entry_sum
  entries_none = total-none (λ i. total (λ j. 2 ^ j * selected_odd residues (x i) (d i j)) n)

  -- top places where every row is 0 add nothing
  pub entries-top : (k : ℕ) → k ≤ n → ((i j : ℕ) → i < m → k ≤ j → j < n → d i j ≡ pos 0) → entry_sum d x m n ≡ entry_sum d x m k
  unfolding entry_sum selected_odd
  entries-top k le h =
      total_ext m
      (λ i p. total-top (λ j. 2 ^ j * selected_odd residues (x i) (d i j)) k n le
      (λ j a b. ap (λ (z : ℤ). 2 ^ j * selected_odd residues (x i) z) (h i j p a b) ∙ mul-zero (2 ^ j)))

-- equal digits that name equal entries
pub entries-ext : (d d₁ : ℕ → ℕ → ℤ) (x x₁ : ℕ → ℕ → ℕ) (m n : ℕ) → ((i j : ℕ) → i < m → j < n → d i j ≡ d₁ i j)
    → ((i j : ℕ) → i < m → j < n → x i (odd_entry (d₁ i j)) ≡ x₁ i (odd_entry (d₁ i j))) → entry_sum d x m n ≡ entry_sum d₁ x₁ m n
unfolding entry_sum
entries-ext d d₁ x x₁ m n hd hx =
    total_ext m
    (λ i p. total_ext n
    (λ j q. ap (λ (y : ℕ). 2 ^ j * y) (ap (selected_odd residues (x i)) (hd i j p q) ∙ selected_odd-ext residues (x i) (x₁ i) (d₁ i j) (hx i j p q))))

module _ (d : ℕ → ℕ → ℤ) (m : ℕ) (d' : ℕ → ℕ → ℤ) (m' n : ℕ) where
  -- residues
  pub walk-residue : (x x' : ℕ → ℕ → ℕ) → Named (λ a. a < L) d x m n → Named (λ a. a < L) d' x' m' n
      → walk residues d x m d' x' m' n ≡ (entry_sum d x m n + entry_sum d' x' m' n) % L
  walk-residue x x' h h' =
      walk-entries group d x m d' x' m' n h h'
      ∙ ap₂ residues.op (terms-sum d x m n h) (terms-sum d' x' m' n h')
      ∙ sym (add-mod (entry_sum d x m n) (entry_sum d' x' m' n) L)

  module _ (x x' : ℕ → ℕ → Element) where
    moved-ranged : (z : ℤ) (q y : Element) → Ranged q → Ranged (moved elements z q y)
    unfolding moved
    moved-ranged (pos zero) q y h = h
    moved-ranged (pos (suc k)) q y h = added-ranged q y
    moved-ranged (negsuc k) q y h = subtracted-ranged q y

    column-ranged : (d : ℕ → ℕ → ℤ) (x : ℕ → ℕ → Element) (m j : ℕ) (q : Element) → Ranged q → Ranged (column elements d x m j q)
    unfolding column
    column-ranged d x m j q h =
        let f : ℕ → Element → Element = λ i r. moved elements (d i j) r (x i (odd_entry (d i j))) in
        (up-carry Ranged (λ e. e) f f m (λ i p r g. (moved-ranged (d i j) r (x i (odd_entry (d i j))) g, refl)) h).0

    walk-ranged : Ranged (walk elements d x m d' x' m' n)
    unfolding walk
    walk-ranged =
        let f : ℕ → Element → Element = turn elements d x m d' x' m' in
        (down-carry Ranged (λ e. e) f f n
        (λ j p r g. (column-ranged d' x' m' j (column elements d x m j (elements.op r r)) (column-ranged d x m j (elements.op r r) (added-ranged r r)), refl))
        (ranged-of 0)).0

    -- four limbs
    pub walk-element : Named Member d x m n → Named Member d' x' m' n
        → walk elements d x m d' x' m' n ≡ element_of ((entry_sum d (λ i k. value_of (x i k)) m n + entry_sum d' (λ i k. value_of (x' i k)) m' n) % L)
    walk-element h h' =
        sym (whole (walk elements d x m d' x' m' n) walk-ranged)
        ∙ ap element_of ((walk-carry carries d x m d' x' m' n h h').1 ∙ walk-residue (λ i k. value_of (x i k)) (λ i k. value_of (x' i k)) h h')
