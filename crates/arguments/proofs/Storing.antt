-- Storing a part in a list of k parts: its length, its parts, and two parts stored in either order.
use mathlib.Core.Path.{◌≡◌, refl, sym, ap, ◌∙◌}
use mathlib.Core.Bool.{Bool, true, false, cond}
use mathlib.Core.List.{List}
use Prim.Native.Nat.{ℕ, ◌+◌, ◌*◌, ◌<◌, ◌≤◌}
use native.Mathlib.Nat.{mul-suc, mul-le-mul_left}
use native.Mathlib.Decide.{ℕ_discrete}
use native.Mathlib.Omega.{arith}
use lib.ListN.{length}
use lib.Dec.{eqb}
use borrow.Author.Tests.{eqb-true, eq-eqb, ne_eqb}
use Rattle.rules.specs.Values.{part}
use Rattle.rules.specs.Lists.{stored}
use Rattle.laws.specs.Parts.{spliced, spliced-length, spliced-part, spliced-others, flat-whole, flat-ext}

pub as-part : {A : Type 0} (n i : ℕ) (x l : List A) → length x ≡ n → stored (n * i) x l ≡ spliced (n * i) n l x
unfolding stored
as-part n i x l long = rw long

module _ {A : Type 0} (n k i : ℕ) (x l : List A) (long : length x ≡ n) (whole : length l ≡ n * k) (inside : i < k) where
  fits : n * i + n ≤ length l
  fits = let le : n * i + n ≤ n * k = rw mul-suc at (mul-le-mul_left n inside) in omega arith

  pub stored-long : length (stored (n * i) x l) ≡ length l
  stored-long = ap length (as-part n i x l long) ∙ spliced-length (n * i) n l x long fits

  -- part i is what was stored, the others are as they were
  pub stored_at : (t : ℕ) → part n t (stored (n * i) x l) ≡ cond (eqb t i) x (part n t l)
  stored_at t = ap (part n t) (as-part n i x l long) ∙ go (ℕ_discrete t i)
    where
      go : Dec (t ≡ i) → part n t (spliced (n * i) n l x) ≡ cond (eqb t i) x (part n t l)
      go (yes e) = rw (eq-eqb t i e) (ap (λ (u : ℕ). part n u (spliced (n * i) n l x)) e ∙ spliced-part n i l x long fits)
      go (no ne) = rw (ne_eqb t i ne) (spliced-others n i l x long fits t ne)

-- two parts stored in either order
pub stored-swap : {A : Type 0} (n k i j : ℕ) (x y l : List A) → length x ≡ n → length y ≡ n → length l ≡ n * k → i < k → j < k → (i ≡ j → ⊥)
    → stored (n * j) y (stored (n * i) x l) ≡ stored (n * i) x (stored (n * j) y l)
stored-swap {A} n k i j x y l lx ly ll hi hj ne =
    sym (flat-whole n k _ (stored-long n k j y _ ly wi hj ∙ wi))
    ∙ flat-ext k (λ t h. stored_at n k j y _ ly wi hj t ∙ ap (cond (eqb t j) y) (stored_at n k i x l lx ll hi t)
    ∙ turned t (eqb t j) (eqb t i) refl refl
    ∙ sym (stored_at n k i x _ lx wj hi t ∙ ap (cond (eqb t i) x) (stored_at n k j y l ly ll hj t)))
    ∙ flat-whole n k _ (stored-long n k i x _ lx wj hi ∙ wj)
  where
    wi : length (stored (n * i) x l) ≡ n * k
    wi = stored-long n k i x l lx ll hi ∙ ll

    wj : length (stored (n * j) y l) ≡ n * k
    wj = stored-long n k j y l ly ll hj ∙ ll

    turned : (t : ℕ) (b c : Bool) → eqb t j ≡ b → eqb t i ≡ c → cond b y (cond c x (part n t l)) ≡ cond c x (cond b y (part n t l))
    turned t true true p q = absurd (ne (sym (eqb-true t i q) ∙ eqb-true t j p))
    turned t true false p q = refl
    turned t false c p q = refl
