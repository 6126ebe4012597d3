-- Elements of four limbs in flat limbs: what storing one does, and that cleared limbs hold the identity.
use mathlib.Core.Path.{◌≡◌, refl, ap, ◌∙◌}
use mathlib.Core.List.{List, [], ◌∷◌}
use Prim.Native.Nat.{ℕ, zero, suc, ◌+◌, ◌*◌, ◌<◌, ◌≤◌}
use native.Mathlib.Omega.{arith}
use lib.ListN.{length, get_or, set, length-set}
use lib.Seq.{get_or-set_same, get_or-set_other}
use Rattle.rules.specs.declared.Element.{Element}
use Rattle.rules.specs.Values.{element_of, element_at}
use Rattle.rules.specs.Numbers.{cleared}
use Rattle.laws.proofs.Room.{cleared-set, cleared-length, cleared-again}
use Rattle.limbs.proofs.Elements.{same}
use Rattle.laws.specs.Cells.{Cells}
use Rattle.pippenger.specs.Flat.{replaced}

-- four limbs x y z t stored from place a on
module _ (l : List ℕ) (a x y z t : ℕ) where
  abbrev l₁ : List ℕ
  l₁ = set l a x

  abbrev l₂ : List ℕ
  l₂ = set l₁ (a + 1) y

  abbrev l₃ : List ℕ
  l₃ = set l₂ (a + 2) z

  abbrev l₄ : List ℕ
  l₄ = set l₃ (a + 3) t

  lower : (l : List ℕ) (i j v : ℕ) → j < i → get_or (set l i v) j 0 ≡ get_or l j 0
  lower l i j v h = get_or-set_other l i j v 0 (λ q. omega (arith, q))

  module _ (h : a + 4 ≤ length l) where
    at-0 : get_or l₄ a 0 ≡ x
    at-0 =
        lower l₃ (a + 3) a t (omega arith) ∙ lower l₂ (a + 2) a z (omega arith) ∙ lower l₁ (a + 1) a y (omega arith)
        ∙ get_or-set_same l a x 0 (omega arith)

    at_1 : get_or l₄ (a + 1) 0 ≡ y
    at_1 =
        lower l₃ (a + 3) (a + 1) t (omega arith) ∙ lower l₂ (a + 2) (a + 1) z (omega arith)
        ∙ get_or-set_same l₁ (a + 1) y 0 (simp length-set (omega arith))

    at-2 : get_or l₄ (a + 2) 0 ≡ z
    at-2 = lower l₃ (a + 3) (a + 2) t (omega arith) ∙ get_or-set_same l₂ (a + 2) z 0 (simp length-set (omega arith))

    at-3 : get_or l₄ (a + 3) 0 ≡ t
    at-3 = get_or-set_same l₃ (a + 3) t 0 (simp length-set (omega arith))

  off : (j : ℕ) → (j ≡ a → ⊥) → (j ≡ a + 1 → ⊥) → (j ≡ a + 2 → ⊥) → (j ≡ a + 3 → ⊥) → get_or l₄ j 0 ≡ get_or l j 0
  off j n₀ n₁ n₂ n₃ =
      get_or-set_other l₃ (a + 3) j t 0 n₃ ∙ get_or-set_other l₂ (a + 2) j z 0 n₂ ∙ get_or-set_other l₁ (a + 1) j y 0 n₁ ∙ get_or-set_other l a j x 0 n₀

  kept : (b : ℕ) → a + 4 ≤ b → cleared 0 b l₄ ≡ cleared 0 b l
  kept b h =
      cleared-set 0 b l₃ (a + 3) t (omega arith) ∙ cleared-set 0 b l₂ (a + 2) z (omega arith) ∙ cleared-set 0 b l₁ (a + 1) y (omega arith)
      ∙ cleared-set 0 b l a x (omega arith)

-- an element stored: itself, the others, how many limbs there are, and the same but for what is to be cleared
module _ (l : List ℕ) (k : ℕ) (e : Element) where
  replaced-here : 4 * k + 4 ≤ length l → element_at (replaced l k e) k ≡ e
  unfolding element_at replaced
  replaced-here h = same (at-0 l _ _ _ _ _ h) (at_1 l _ _ _ _ _ h) (at-2 l _ _ _ _ _ h) (at-3 l _ _ _ _ _ h)

  replaced-other : (i : ℕ) → (i ≡ k → ⊥) → element_at (replaced l k e) i ≡ element_at l i
  unfolding element_at replaced
  replaced-other i ne = same (far (4 * i) 0 (omega arith)) (far (4 * i + 1) 1 (omega arith)) (far (4 * i + 2) 2 (omega arith)) (far (4 * i + 3) 3 (omega arith))
    where
      far : (j r : ℕ) → (j ≡ 4 * i + r) × (r < 4) → get_or (set (set (set (set l (4 * k) e.l0) (4 * k + 1) e.l1) (4 * k + 2) e.l2) (4 * k + 3) e.l3) j 0 ≡ get_or l j 0
      far j r h =
          off l (4 * k) e.l0 e.l1 e.l2 e.l3 j (λ q. ne (omega (arith, q))) (λ q. ne (omega (arith, q))) (λ q. ne (omega (arith, q))) (λ q. ne (omega (arith, q)))

  replaced-length : length (replaced l k e) ≡ length l
  unfolding replaced
  replaced-length = simp length-set

  replaced-cleared : (b : ℕ) → 4 * k + 4 ≤ b → cleared 0 b (replaced l k e) ≡ cleared 0 b l
  unfolding replaced
  replaced-cleared b h = kept l _ _ _ _ _ b h

-- elements are cells of four limbs
pub cells : Cells element_at replaced 4
cells = record { here = replaced-here; other = λ l k e h. replaced-other l k e; long = λ l k e h. replaced-length l k e; kept = λ l k e h. replaced-cleared l k e }

get_or-cleared : (n : ℕ) (l : List ℕ) (i : ℕ) → i < n → get_or (cleared 0 n l) i 0 ≡ 0
unfolding cleared
get_or-cleared zero l i h = absurd (omega arith)
get_or-cleared (suc n) [] i h = refl
get_or-cleared (suc n) (x ∷ l) zero h = refl
get_or-cleared (suc n) (x ∷ l) (suc i) h = get_or-cleared n l i (omega arith)

empty : (l : List ℕ) (n k : ℕ) → k < n → element_at (cleared 0 (4 * n) l) k ≡ element_of 0
unfolding element_at element_of
empty l n k h =
    same (get_or-cleared (4 * n) l (4 * k) (omega arith)) (get_or-cleared (4 * n) l (4 * k + 1) (omega arith)) (get_or-cleared (4 * n) l (4 * k + 2) (omega arith))
    (get_or-cleared (4 * n) l (4 * k + 3) (omega arith))

-- n buckets cleared in l
module _ (n : ℕ) (l : List ℕ) {l₁ : List ℕ} (e : l₁ ≡ cleared 0 (4 * n) l) where
  pub emptied-long : length l₁ ≡ length l
  emptied-long = ap length e ∙ cleared-length 0 (4 * n) l

  pub emptied : (k : ℕ) → k < n → element_at l₁ k ≡ element_of 0
  emptied k h = rw e (empty l n k h)

  pub emptied-kept : cleared 0 (4 * n) l₁ ≡ cleared 0 (4 * n) l
  emptied-kept = rw e (cleared-again 0 (4 * n) (4 * n) l (omega arith))
