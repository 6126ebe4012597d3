-- Lookups: the pass over the entries, the digit's sign, the refusals, and what a done lookup carries.
use mathlib.Core.Path.{◌≡◌, refl, sym, ap, ◌∙◌}
use mathlib.Core.Bool.{Bool, false, cond, ◌||◌}
use mathlib.Core.List.{List}
use Prim.Native.Nat.{ℕ, zero, suc, ◌+◌, ◌-◌, ◌*◌, ◌/◌, ◌%◌, ◌<◌, ◌≤◌}
use native.Mathlib.Decide.{dec_lt}
use native.Mathlib.Omega.{arith}
use lib.ListN.{length, get_or}
use lib.IntN.{ℤ, pos, negsuc, nat_abs}
use lib.Signed.{lt_z}
use lib.Dec.{eqb, ltb}
use borrow.Author.Tests.{lt-ltb, le-ltb, ltb-false, eq-eqb, ne_eqb, eqb-true, eqb-false, not-false}
use Rattle.rules.specs.declared.Element.{Element}
use Rattle.rules.specs.Values.{limb, value_of, element_of, element_at, point_at}
use Rattle.rules.specs.Group.{Ops, elements, residues}
use Rattle.rules.specs.Loops.{odd_entry}
use Rattle.rules.specs.Numbers.{first}
use Rattle.rules.specs.Rows.{not_long}
use Rattle.rules.specs.Windows.{selected, selected_odd, any_over, beyond, beyond_odd, lookup_refusal}
use Rattle.rules.specs.Helpers.{looked_up}
use Rattle.laws.specs.Conditions.{or-none, or_split, first-none}
use Rattle.laws.specs.Windows.{selected-ext}
use Rattle.laws.specs.Carried.{selected-carry, selected_odd-carry}
use Rattle.limbs.proofs.Elements.{Ranged, ranged-of, whole}
use Rattle.residue.proofs.Members.{Member, negated-ranged}
use Rattle.residue.proofs.Laws.{carries}
use Rattle.lent.proofs.Passed.{under}
use Rattle.window.proofs.Flat.{read-ranged}

-- the pass: after j entries, lookup among the first j
module _ (w : List ℕ) where
  pub pass-none : (a : ℕ) → element_of 0 ≡ looked_up 0 w (pos a)
  unfolding looked_up selected
  pass-none zero = refl
  pass-none (suc k) = rw (le-ltb k 0 (omega arith))

  pub pass-here : (j a : ℕ) → a ≡ j + 1 → element_at w j ≡ looked_up (j + 1) w (pos a)
  unfolding looked_up selected
  pass-here j zero e = absurd (omega arith)
  pass-here j (suc k) e = let q : k ≡ j = omega arith in rw (lt-ltb k (j + 1) (omega arith), q)

  pub pass-other : (j a : ℕ) → (a ≡ j + 1 → ⊥) → looked_up j w (pos a) ≡ looked_up (j + 1) w (pos a)
  unfolding looked_up selected
  pass-other j zero h = refl
  pass-other j (suc k) h = ap (λ (b : Bool). cond b (element_at w k) (element_of 0)) (go (dec_lt k j))
    where
      go : Dec (k < j) → ltb k j ≡ ltb k (j + 1)
      go (yes p) = rw (lt-ltb k j p, lt-ltb k (j + 1) (omega arith))
      go (no p) =
          let ne : suc k ≡ j + 1 → ⊥ = h in
          rw (le-ltb k j (omega arith), le-ltb k (j + 1) (omega arith))

-- an entry, negated for a negative digit
abbrev pub by_sign : {A : Type 0} → Ops A → ℤ → A → A
by_sign o d x = cond (lt_z d (pos 0)) (o.inv x) x

module _ {A : Type 0} (o : Ops A) (t : ℕ → A) where
  pub selected-sign : (d : ℤ) → by_sign o d (selected o t (pos (nat_abs d))) ≡ selected o t d
  unfolding selected
  selected-sign (pos n) = rw (le-ltb n 0 (omega arith))
  selected-sign (negsuc n) = refl

  selected_odd-sign : (d : ℤ) → (nat_abs d % 2 ≡ 0 → ⊥) → by_sign o d (t (odd_entry d)) ≡ selected_odd o t d
  unfolding selected_odd
  selected_odd-sign (pos zero) h = absurd (h refl)
  selected_odd-sign (pos (suc n)) h = rw (le-ltb (suc n) 0 (omega arith))
  selected_odd-sign (negsuc n) h = refl

-- a digit within its window
module _ (n : ℕ) (d : ℤ) where
  pub near : nat_abs d ≤ n → beyond n d ≡ false
  unfolding beyond
  near h = le-ltb n (nat_abs d) h

  within : beyond n d ≡ false → nat_abs d ≤ n
  unfolding beyond
  within e = ltb-false n (nat_abs d) e

  pub near-odd : (nat_abs d % 2 ≡ 0 → ⊥) → nat_abs d ≤ 2 * n - 1 → beyond_odd n d ≡ false
  unfolding beyond_odd
  near-odd h g = or-none _ _ (ne_eqb (nat_abs d % 2) 0 h) (le-ltb (2 * n - 1) (nat_abs d) g)

  within-odd : beyond_odd n d ≡ false → (nat_abs d % 2 ≡ 0 → ⊥) × (nat_abs d ≤ 2 * n - 1)
  unfolding beyond_odd
  within-odd e =
      let r = or_split (eqb (nat_abs d % 2) 0) (ltb (2 * n - 1) (nat_abs d)) e in
      (eqb-false (nat_abs d % 2) 0 r.0, ltb-false (2 * n - 1) (nat_abs d) r.1)

  -- an odd one names an entry
  pub named : (nat_abs d % 2 ≡ 0 → ⊥) → nat_abs d ≤ 2 * n - 1 → odd_entry d < n
  unfolding odd_entry
  named h g = go (nat_abs d) h g
    where
      go : (a : ℕ) → (a % 2 ≡ 0 → ⊥) → a ≤ 2 * n - 1 → (a - 1) / 2 < n
      go a h g = omega arith

-- the refusal, in a window of n entries
module _ (n : ℕ) (outside : Bool) (w : List ℕ) where
  pub other_length : (length w ≡ 4 * n → ⊥) → 1 ≡ lookup_refusal n outside w
  unfolding lookup_refusal first not_long
  other_length h = rw (ne_eqb (length w) (4 * n) h)

  pub tested : (o : Bool) → length w ≡ 4 * n → (any_over w || outside) ≡ o → cond o 10 0 ≡ lookup_refusal n outside w
  unfolding lookup_refusal first not_long
  tested o l e = rw (eq-eqb (length w) (4 * n) l, e)

  passed : lookup_refusal n outside w ≡ 0 → (length w ≡ 4 * n) × (any_over w || outside) ≡ false
  unfolding lookup_refusal not_long
  passed z =
      let r = first-none _ _ _ (λ e. omega arith) (sym z) in
      (eqb-true (length w) (4 * n) (not-false _ r.0), (first-none _ _ _ (λ e. omega arith) r.1).0)

-- the number by |d|, as code tests it
module _ (n : ℕ) (w : List ℕ) (d : ℤ) {a k : ℕ} (m : a ≡ nat_abs d) where
  pub number : k ≡ lookup_refusal n (ltb n a) w → k ≡ lookup_refusal n (beyond n d) w
  unfolding beyond
  number e = e ∙ ap (λ (a : ℕ). lookup_refusal n (ltb n a) w) m

  pub number-odd : k ≡ lookup_refusal n (eqb (a % 2) 0 || ltb (2 * n - 1) a) w → k ≡ lookup_refusal n (beyond_odd n d) w
  unfolding beyond_odd
  number-odd e = e ∙ ap (λ (a : ℕ). lookup_refusal n (eqb (a % 2) 0 || ltb (2 * n - 1) a) w) m

-- what is found has limbs in range where the entries do
module _ (t : ℕ → Element) (r : (k : ℕ) → Ranged (t k)) where
  selected-ranged : (d : ℤ) → Ranged (selected elements t d)
  unfolding selected
  selected-ranged (pos zero) = ranged-of 0
  selected-ranged (pos (suc k)) = r k
  selected-ranged (negsuc k) = negated-ranged (t k)

  selected_odd-ranged : (d : ℤ) → Ranged (selected_odd elements t d)
  unfolding selected_odd
  selected_odd-ranged (pos zero) = ranged-of 0
  selected_odd-ranged (pos (suc k)) = r (odd_entry (pos (suc k)))
  selected_odd-ranged (negsuc k) = negated-ranged (t (odd_entry (negsuc k)))

-- a done lookup: every entry is a member, with limbs in range
module _ (n : ℕ) (w : List ℕ) (limbs : (i : ℕ) → get_or w i 0 < limb) (d : ℤ) where
  member : length w ≡ 4 * n → any_over w ≡ false → (k : ℕ) → k < n → Member (element_at w k)
  unfolding point_at
  member l o k h = under w k o (omega arith)

  carried : {x : Element} {v : ℕ} → Ranged x → value_of x ≡ v → x ≡ element_of v
  carried {x} r e = sym (whole x r) ∙ ap element_of e

  pub found : lookup_refusal n (beyond n d) w ≡ 0 → looked_up n w d ≡ element_of (selected residues (point_at w) d)
  unfolding looked_up point_at
  found z =
      let r = passed n _ w z in
      let o = or_split (any_over w) _ r.1 in
      let h = within n d o.1 in
      selected-ext elements (λ k. cond (ltb k n) (element_at w k) (element_of 0)) (element_at w) n (λ k p. rw (lt-ltb k n p)) d h
      ∙ carried (selected-ranged (element_at w) (read-ranged w limbs) d) (selected-carry carries (element_at w) d (λ i p. member r.0 o.0 i (omega (arith, p)))).1

  pub found-odd : lookup_refusal n (beyond_odd n d) w ≡ 0 → by_sign elements d (element_at w (odd_entry d)) ≡ element_of (selected_odd residues (point_at w) d)
  unfolding point_at
  found-odd z =
      let r = passed n _ w z in
      let o = or_split (any_over w) _ r.1 in
      let h = within-odd n d o.1 in
      selected_odd-sign elements (element_at w) d h.0
      ∙ carried (selected_odd-ranged (element_at w) (read-ranged w limbs) d) (selected_odd-carry carries (element_at w) d (member r.0 o.0 (odd_entry d) (named n d h.0 h.1))).1
