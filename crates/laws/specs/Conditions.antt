-- Conditions of refusals: any of the places, the first of a list, what an answer carries.
use Rattle.std.specs.Prelude.{◌≡◌, Bool, true, cond, ◌||◌, ℕ, zero, suc, ◌+◌, ◌-◌, ◌<◌, ◌≤◌, eqb}
use Rattle.std.proofs.Math.Path.{refl}
use Rattle.std.proofs.Common.{sym, ◌∙◌, ap, add-one, arith, ne_eqb}
use Rattle.std.proofs.Math.Bool.{false, or-true}
use mathlib.Core.List.{List, [], ◌∷◌, ◌++◌}
use Rattle.std.proofs.Math.Decide.{dec_lt}
use Rattle.rules.specs.Numbers.{any_below, first, given}
use Rattle.laws.specs.Answers.{Rising}

module _ (a b : Bool) where
  pub or_left : a ≡ true → (a || b) ≡ true
  or_left e = rw e

  pub or_right : b ≡ true → (a || b) ≡ true
  or_right e = rw e (or-true a)

  pub or-none : a ≡ false → b ≡ false → (a || b) ≡ false
  or-none e f = rw (e, f)

  -- where neither holds
  pub or_split : (a || b) ≡ false → (a ≡ false) × (b ≡ false)
  or_split = go a
    where
      go : (a : Bool) → (a || b) ≡ false → (a ≡ false) × (b ≡ false)
      go true e = let w : ◌≡◌ {A = ℕ} 0 1 = cc in absurd (omega arith)
      go false e = (refl, e)

module _ (f : ℕ → Bool) where
  pub any_none : any_below f 0 ≡ false
  unfolding any_below
  any_none = refl

  step : (n : ℕ) → any_below f (suc n) ≡ (any_below f n || f n)
  unfolding any_below
  step n = refl

  -- one place more
  pub any-more : (n : ℕ) → any_below f n ≡ false → f n ≡ false → any_below f (n + 1) ≡ false
  any-more n a b = rw (add-one n) (step n ∙ or-none (any_below f n) (f n) a b)

  -- found
  pub any_at : (n i : ℕ) → i < n → f i ≡ true → any_below f n ≡ true
  any_at zero i h e = absurd (omega arith)
  any_at (suc n) i h e = step n ∙ go (λ l. any_at n i l e) (dec_lt i n)
    where
      go : (i < n → any_below f n ≡ true) → Dec (i < n) → (any_below f n || f n) ≡ true
      go again (yes l) = or_left (any_below f n) (f n) (again l)
      go again (no m) = let q : i ≡ n = omega arith in or_right (any_below f n) (f n) (ap f (sym q) ∙ e)

  -- found nowhere
  pub any_below_lem : (n i : ℕ) → any_below f n ≡ false → i < n → f i ≡ false
  any_below_lem n i e h = go (f i) refl
    where
      go : (b : Bool) → f i ≡ b → b ≡ false
      go true q = sym (any_at n i h q) ∙ e
      go false q = refl

  pub any-absent : (n : ℕ) → ((i : ℕ) → i < n → f i ≡ false) → any_below f n ≡ false
  any-absent zero h = any_none
  any-absent (suc n) h = step n ∙ or-none (any_below f n) (f n) (any-absent n (λ i p. h i (omega (arith, p)))) (h n (omega arith))

  -- at the loop's end every place has been passed
  pub any-end : (n i : ℕ) → i ≤ n → n ≤ i → any_below f i ≡ false → false ≡ any_below f n
  any-end n i h g e = let q : i ≡ n = omega arith in sym e ∙ ap (any_below f) q

-- the first condition that holds
module _ (b : Bool) (n : ℕ) (r : List (Bool × ℕ)) where
  pub first-here : b ≡ true → n ≡ first ((b, n) ∷ r)
  unfolding first
  first-here e = rw e

  pub first_next : (k : ℕ) → b ≡ false → k ≡ first r → k ≡ first ((b, n) ∷ r)
  unfolding first
  first_next k e f = rw e f

  -- where none holds
  pub first-none : (n ≡ 0 → ⊥) → 0 ≡ first ((b, n) ∷ r) → (b ≡ false) × (0 ≡ first r)
  first-none z = go b
    where
      go : (b : Bool) → 0 ≡ first ((b, n) ∷ r) → (b ≡ false) × (0 ≡ first r)
      go true e = absurd (z (sym (unfold first in e)))
      go false e = (refl, unfold first in e)

pub first-end : 0 ≡ first []
unfolding first
first-end = refl

-- the first of a joined list is the first of its front, unless that is 0: then it is the first of the rest
module _ (rest : List (Bool × ℕ)) where
  pub joined-here : {n : ℕ} (front : List (Bool × ℕ)) → n ≡ first front → (n ≡ 0 → ⊥) → n ≡ first (front ++ rest)
  unfolding first
  joined-here [] e h = absurd (h e)
  joined-here ((true, k) ∷ r) e h = e
  joined-here ((false, k) ∷ r) e h = joined-here r e h

  past : {n : ℕ} (k : ℕ) (front : List (Bool × ℕ)) → Rising k front → first front ≡ 0 → n ≡ first rest → n ≡ first (front ++ rest)
  unfolding first
  past k [] rise z e = e
  past k ((true, m) ∷ r) rise z e = absurd (omega arith)
  past k ((false, m) ∷ r) rise z e = past (m - 1) r rise.1 z e

  pub joined-next : {n k : ℕ} (front : List (Bool × ℕ)) → Rising 0 front → n ≡ first front → n ≡ 0 → k ≡ first rest → k ≡ first (front ++ rest)
  joined-next front rise e z = past 0 front rise (sym e ∙ z)

-- what an answer carries: x where it is done, z where it is refused
module _ {A : Type 0} (z x : A) where
  pub given-done : given 0 z x ≡ x
  unfolding given
  given-done = refl

  pub given-refused : (n : ℕ) → (n ≡ 0 → ⊥) → given n z x ≡ z
  unfolding given
  given-refused n h = rw (ne_eqb n 0 h)

pub given-same : {A : Type 0} (n : ℕ) (z : A) → given n z z ≡ z
unfolding given
given-same {A} n z = go (eqb n 0)
  where
    go : (b : Bool) → cond b z z ≡ z
    go true = refl
    go false = refl
