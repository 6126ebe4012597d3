-- Which number is answered: n exactly when condition n holds and none lower does, 0 exactly when none holds.
use Rattle.std.specs.Prelude.{◌≡◌, Bool, true, false, cond, ◌||◌, List, [], ◌∷◌, ◌↔◌, ℕ, ◌-◌, ◌<◌, ◌≤◌, eqb}
use Rattle.std.proofs.Math.Path.{refl}
use Rattle.std.proofs.Common.{sym, ◌∙◌, arith, eq-eqb, ne_eqb}
use Rattle.std.proofs.Math.Bool.{or-true, or-false}
use Rattle.std.proofs.Math.Decide.{dec_lt, ℕ_discrete}
use Rattle.rules.specs.Numbers.{first, condition}

-- the numbers of a list of conditions rise, from above k on; the same may come again
abbrev pub Rising : ℕ → List (Bool × ℕ) → Type 0
Rising k [] = Unit {0}
Rising k ((b, n) ∷ r) = (k < n) × Rising (n - 1) r

clash : {X : Type 0} {b : Bool} → b ≡ true → b ≡ false → X
clash {X} {b} p q = let w : ◌≡◌ {A = ℕ} 0 1 = cc in absurd (omega arith)

-- no condition has a number up to k
low : (k n : ℕ) (r : List (Bool × ℕ)) → Rising k r → n ≤ k → condition r n ≡ false
unfolding condition
low k n [] rise le = refl
low k n ((b, i) ∷ r) rise le = rw (ne_eqb i n (λ e. omega arith)) (low (i - 1) n r rise.1 (omega arith))

-- one that does not hold may be left out
off : (i n : ℕ) (r : List (Bool × ℕ)) → condition ((false, i) ∷ r) n ≡ condition r n
unfolding condition
off i n r = go (eqb i n)
  where
    go : (b : Bool) → cond b (condition r n || false) (condition r n) ≡ condition r n
    go true = or-false (condition r n)
    go false = refl

none : (k : ℕ) (r : List (Bool × ℕ)) → Rising k r → first r ≡ 0 → (i : ℕ) → condition r i ≡ false
unfolding first
none k [] rise e i = unfold condition in refl
none k ((true, n) ∷ r) rise e i = absurd (omega arith)
none k ((false, n) ∷ r) rise e i = off n i r ∙ none (n - 1) r rise.1 e i

found : (k n : ℕ) (r : List (Bool × ℕ)) → Rising k r → (n ≡ 0 → ⊥) → first r ≡ n
    → (condition r n ≡ true) × ((i : ℕ) → i < n → condition r i ≡ false)
unfolding first
found k n [] rise some e = absurd (some (sym e))
found k n ((true, m) ∷ r) rise some e =
    (unfold condition in (rw (eq-eqb m n e) (or-true (condition r n))), λ i p. unfold condition in (rw (ne_eqb m i (λ q. omega arith)) (low (m - 1) i r rise.1 (omega arith))))
found k n ((false, m) ∷ r) rise some e =
    let again = found (m - 1) n r rise.1 some e in
    (off m n r ∙ again.0, λ i p. off m i r ∙ again.1 i p)

module _ (r : List (Bool × ℕ)) (rise : Rising 0 r) where
  pub first_done : (first r ≡ 0) ↔ ((i : ℕ) → condition r i ≡ false)
  first_done = (none 0 r rise, λ h. back h (ℕ_discrete (first r) 0))
    where
      back : ((i : ℕ) → condition r i ≡ false) → Dec (first r ≡ 0) → first r ≡ 0
      back h (yes e) = e
      back h (no ne) = clash (found 0 (first r) r rise ne refl).0 (h (first r))

  pub first-answers : (n : ℕ) → (n ≡ 0 → ⊥) → (first r ≡ n) ↔ ((condition r n ≡ true) × ((i : ℕ) → i < n → condition r i ≡ false))
  first-answers n some = (found 0 n r rise some, λ h. back h.0 h.1 (ℕ_discrete (first r) 0))
    where
      which : condition r n ≡ true → ((i : ℕ) → i < n → condition r i ≡ false) → (first r ≡ 0 → ⊥) → Dec (first r < n) → Dec (n < first r) → first r ≡ n
      which h l ne (yes p) q = clash (found 0 (first r) r rise ne refl).0 (l (first r) p)
      which h l ne (no p) (yes q) = clash h ((found 0 (first r) r rise ne refl).1 n q)
      which h l ne (no p) (no q) = omega arith

      back : condition r n ≡ true → ((i : ℕ) → i < n → condition r i ≡ false) → Dec (first r ≡ 0) → first r ≡ n
      back h l (yes e) = clash h (none 0 r rise e n)
      back h l (no ne) = which h l ne (dec_lt (first r) n) (dec_lt n (first r))
