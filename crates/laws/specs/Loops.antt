-- Loops: one turn of each, as code counts; turns that change nothing; a map that carries each step carries the loop.
use Rattle.std.proofs.Math.Path.{◌≡◌, refl, sym, ap}
use Rattle.std.proofs.Common.{◌∙◌, inl, inr, lt-suc_self, eq-or-lt_of_le, le_of_suc-le-suc, sub-add_cancel, add-one}
use Rattle.std.specs.Prelude.{Bool, ◌⊎◌}
use Rattle.std.proofs.Math.Bool.{true, false, cond}
use Prim.Native.Nat.{ℕ, zero, suc, ◌+◌, ◌-◌, ◌<◌, ◌≤◌}
use Rattle.std.proofs.Math.Nat.{le_step}
use native.Mathlib.Omega.{arith}
use Rattle.rules.specs.Group.{Ops}
use Rattle.rules.specs.Loops.{up, down, doubled, highest}

module _ {A : Type 0} (f : ℕ → A → A) where
  pub up_none : (q : A) → up f 0 q ≡ q
  unfolding up
  up_none q = refl

  pub up_more : (n : ℕ) (q : A) → up f (n + 1) q ≡ f n (up f n q)
  unfolding up
  up_more n q = ap (λ (k : ℕ). up f k q) (add-one n)

  pub down-none : (q : A) → down f 0 q ≡ q
  unfolding down
  down-none q = refl

  pub down-more : (n : ℕ) (q : A) → down f (n + 1) q ≡ down f n (f n q)
  unfolding down
  down-more n q = ap (λ (k : ℕ). down f k q) (add-one n)

  pub down_turn : (j : ℕ) (q : A) → 0 < j → down f j q ≡ down f (j - 1) (f (j - 1) q)
  down_turn j q h = ap (λ (k : ℕ). down f k q) (sym (sub-add_cancel h)) ∙ down-more (j - 1) q

  -- turns that change nothing
  pub up-idle : (n : ℕ) (q : A) → ((i : ℕ) → i < n → f i q ≡ q) → up f n q ≡ q
  unfolding up
  up-idle zero q h = refl
  up-idle (suc n) q h = ap (f n) (up-idle n q (λ i p. h i (le_step p))) ∙ h n (lt-suc_self n)

  -- from the highest place down, they may be left out
  pub down-idle : (k n : ℕ) (q : A) → k ≤ n → ((j : ℕ) → k ≤ j → j < n → f j q ≡ q) → down f n q ≡ down f k q
  unfolding down
  down-idle k zero q le h = let e : k ≡ 0 = omega arith in ap (λ (i : ℕ). down f i q) (sym e)
  down-idle k (suc n) q le h = go (eq-or-lt_of_le le) (λ le'. down-idle k n q le' (λ j a b. h j a (le_step b)))
    where
      go : (k ≡ suc n) ⊎ (k < suc n) → (k ≤ n → down f n q ≡ down f k q) → down f n (f n q) ≡ down f k q
      go (inl e) again = sym (ap (λ (i : ℕ). down f i q) e)
      go (inr lt) again = ap (down f n) (h n (le_of_suc-le-suc lt) (lt-suc_self n)) ∙ again (le_of_suc-le-suc lt)

module _ {A : Type 0} {f g : ℕ → A → A} where
  -- equal steps
  pub down-ext : (n : ℕ) (q : A) → ((j : ℕ) → j < n → (r : A) → f j r ≡ g j r) → down f n q ≡ down g n q
  unfolding down
  down-ext zero q h = refl
  down-ext (suc n) q h = ap (down f n) (h n (lt-suc_self n) q) ∙ down-ext n (g n q) (λ j p. h j (le_step p))

module _ {A : Type 0} (o : Ops A) where
  pub doubled-more : (w : ℕ) (q : A) → doubled o (w + 1) q ≡ o.twice (doubled o w q)
  unfolding doubled
  doubled-more w q = ap (λ (k : ℕ). doubled o k q) (add-one w)

-- a map φ that carries each step f of members to the step g
module _ {A C : Type 0} (In : A → Type 0) (φ : A → C) (f : ℕ → A → A) (g : ℕ → C → C) where
  pub up-carry : {q : A} (n : ℕ) → ((i : ℕ) → i < n → (r : A) → In r → In (f i r) × (φ (f i r) ≡ g i (φ r)))
      → In q → In (up f n q) × (φ (up f n q) ≡ up g n (φ q))
  unfolding up
  up-carry zero h m = (m, refl)
  up-carry {q} (suc n) h m =
      let r = up-carry n (λ i p. h i (le_step p)) m in
      let s = h n (lt-suc_self n) (up f n q) r.0 in
      (s.0, s.1 ∙ ap (g n) r.1)

  pub down-carry : {q : A} (n : ℕ) → ((j : ℕ) → j < n → (r : A) → In r → In (f j r) × (φ (f j r) ≡ g j (φ r)))
      → In q → In (down f n q) × (φ (down f n q) ≡ down g n (φ q))
  unfolding down
  down-carry {q} zero h m = (m, refl)
  down-carry {q} (suc n) h m =
      let s = h n (lt-suc_self n) q m in
      let r = down-carry {q = f n q} n (λ j p. h j (le_step p)) s.0 in
      (r.0, r.1 ∙ ap (down g n) s.1)

module _ (f : ℕ → Bool) where
  -- a search from place n down: found there, or on to the next
  pub highest-found : (n : ℕ) → f n ≡ true → highest f (n + 1) ≡ n
  unfolding highest
  highest-found n e = rw (add-one n, e)

  pub highest-next : (n : ℕ) → f n ≡ false → highest f (n + 1) ≡ highest f n
  unfolding highest
  highest-next n e = rw (add-one n, e)

  -- place 0 is where it ends
  pub highest-one : highest f 1 ≡ 0
  unfolding highest
  highest-one = go (f 0)
    where
      go : (b : Bool) → ◌≡◌ {A = ℕ} (cond b 0 0) 0
      go true = refl
      go false = refl

  pub highest-lt : (n : ℕ) → 0 < n → highest f n < n
  unfolding highest
  highest-lt zero h = absurd (omega arith)
  highest-lt (suc zero) h = rw highest-one (omega arith)
  highest-lt (suc (suc n)) h = go (f (suc n)) (highest-lt (suc n) (omega arith))
    where
      go : (b : Bool) → highest f (suc n) < suc n → cond b (suc n) (highest f (suc n)) < suc (suc n)
      go true r = omega arith
      go false r = omega arith

  -- above it f holds nowhere
  pub highest-above : (n j : ℕ) → highest f n < j → j < n → f j ≡ false
  unfolding highest
  highest-above zero j h p = absurd (omega arith)
  highest-above (suc n) j h p = go (f n) refl h (eq-or-lt_of_le (le_of_suc-le-suc p)) (highest-above n j)
    where
      go : (b : Bool) → f n ≡ b → cond b n (highest f n) < j → (j ≡ n) ⊎ (j < n) → (highest f n < j → j < n → f j ≡ false) → f j ≡ false
      go true e lt at again = absurd (omega arith)
      go false e lt (inl q) again = ap f q ∙ e
      go false e lt (inr q) again = again lt q
