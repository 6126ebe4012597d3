-- Windows: each entry from the one before, what it is a multiple of; lookup by a digit in a built window is digit times point.
use Rattle.std.specs.Prelude.{◌≡◌, ℤ, pos, negsuc}
use Rattle.std.proofs.Math.Path.{refl, sym, ap}
use Rattle.std.proofs.Common.{◌∙◌, mul-zero, mul-suc, one-mul, add-one, arith}
use Prim.Native.Nat.{ℕ, zero, suc, ◌+◌, ◌-◌, ◌*◌, ◌/◌, ◌%◌, ◌<◌, ◌≤◌}
use Rattle.std.proofs.Math.IntN.{nat_abs}
use Rattle.rules.specs.Group.{Ops, times, times_z}
use Rattle.rules.specs.Loops.{odd_entry}
use Rattle.rules.specs.Windows.{stepped, successive, odd, selected, selected_odd}
use Rattle.laws.specs.Group.{Laws, twice_in}
use Rattle.laws.specs.Multiples.{times-one, times-two, times-add}

module _ {A : Type 0} (o : Ops A) where
  -- one entry more
  pub stepped-more : (s p : A) (k : ℕ) → stepped o s p (k + 1) ≡ o.op (stepped o s p k) s
  unfolding stepped
  stepped-more s p k = ap (stepped o s p) (add-one k)

  -- lookup reads one entry only
  pub selected-ext : (t u : ℕ → A) (n : ℕ) → ((k : ℕ) → k < n → t k ≡ u k) → (d : ℤ) → nat_abs d ≤ n → selected o t d ≡ selected o u d
  unfolding selected
  selected-ext t u n h (pos zero) le = refl
  selected-ext t u n h (pos (suc k)) le = h k le
  selected-ext t u n h (negsuc k) le = ap o.inv (h k le)

  pub selected_odd-ext : (t u : ℕ → A) (d : ℤ) → t (odd_entry d) ≡ u (odd_entry d) → selected_odd o t d ≡ selected_odd o u d
  unfolding selected_odd
  selected_odd-ext t u (pos zero) h = refl
  selected_odd-ext t u (pos (suc n)) h = h
  selected_odd-ext t u (negsuc n) h = ap o.inv h

-- the entry that an odd digit names is the digit's size
pub odd-entry : (d : ℤ) → nat_abs d % 2 ≡ 1 → 2 * odd_entry d + 1 ≡ nat_abs d
unfolding odd_entry
odd-entry d h = back (nat_abs d) h
  where
    back : (a : ℕ) → a % 2 ≡ 1 → 2 * ((a - 1) / 2) + 1 ≡ a
    back a h = omega arith

module _ {A : Type 0} {o : Ops A} {In : A → Type 0} (l : Laws o In) where
  open o use {op as ◌⊕◌}
  open l use {op-in, twice-is}

  infixl 6 ◌⊕◌
  pub stepped-in : {s p : A} (k : ℕ) → In s → In p → In (stepped o s p k)
  unfolding stepped
  stepped-in zero hs hp = hp
  stepped-in (suc k) hs hp = op-in (stepped-in k hs hp) hs

  -- entry k of a window that steps by a P is (a k + 1) P
  stepped-is : (a k : ℕ) {p : A} → In p → stepped o (times o a p) p k ≡ times o (a * k + 1) p
  unfolding stepped
  stepped-is a zero {p} h = sym (ap (λ (n : ℕ). times o (n + 1) p) (mul-zero a) ∙ times-one l h)
  stepped-is a (suc k) {p} h =
      ap (λ x. x ⊕ times o a p) (stepped-is a k h)
      ∙ sym (times-add l (a * k + 1) a h)
      ∙ ap (λ (n : ℕ). times o n p) (next a k)
    where
      next : (a k : ℕ) → a * k + 1 + a ≡ a * suc k + 1
      next a k = rw (mul-suc a k) (omega arith)

  pub successive-is : (k : ℕ) {p : A} → In p → successive o p k ≡ times o (k + 1) p
  unfolding successive
  successive-is k {p} h =
      ap (λ x. stepped o x p k) (sym (times-one l h)) ∙ stepped-is 1 k h ∙ ap (λ (n : ℕ). times o (n + 1) p) (one-mul k)

  pub odd_is : (k : ℕ) {p : A} → In p → odd o p k ≡ times o (2 * k + 1) p
  unfolding odd
  odd_is k {p} h = ap (λ x. stepped o x p k) (twice-is h ∙ sym (times-two l h)) ∙ stepped-is 2 k h

  pub successive-in : (k : ℕ) {p : A} → In p → In (successive o p k)
  unfolding successive
  successive-in k h = stepped-in k h h

  pub odd-in : (k : ℕ) {p : A} → In p → In (odd o p k)
  unfolding odd
  odd-in k h = stepped-in k (twice_in l h) h

  -- lookup in a built window
  pub selected-is : (d : ℤ) {p : A} → In p → selected o (successive o p) d ≡ times_z o d p
  unfolding selected times_z times
  selected-is (pos zero) h = refl
  selected-is (pos (suc k)) {p} h = successive-is k h ∙ ap (λ (n : ℕ). times o n p) (add-one k)
  selected-is (negsuc k) {p} h = ap o.inv (successive-is k h ∙ ap (λ (n : ℕ). times o n p) (add-one k))

  -- the entry that an odd digit names in a window of odd multiples
  pub odd-named : (d : ℤ) {p : A} → nat_abs d % 2 ≡ 1 → In p → odd o p (odd_entry d) ≡ times o (nat_abs d) p
  odd-named d {p} h hp = odd_is (odd_entry d) hp ∙ ap (λ (n : ℕ). times o n p) (odd-entry d h)

  -- a digit that is 0 or odd
  pub selected_odd-is : (d : ℤ) {p : A} → ((d ≡ pos 0 → ⊥) → nat_abs d % 2 ≡ 1) → In p → selected_odd o (odd o p) d ≡ times_z o d p
  unfolding selected_odd times_z times
  selected_odd-is (pos zero) h hp = refl
  selected_odd-is (pos (suc n)) h hp = odd-named (pos (suc n)) (h (λ q. omega (arith, ap nat_abs q))) hp
  selected_odd-is (negsuc n) h hp = ap o.inv (odd-named (negsuc n) (h (λ q. omega (arith, ap nat_abs q))) hp)
