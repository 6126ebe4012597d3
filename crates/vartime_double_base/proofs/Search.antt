-- The search for the start place: what each test that leads to a break or to the next place says of the highest place.
use mathlib.Core.Path.{◌≡◌, refl, sym, ap, ◌∙◌}
use mathlib.Core.Bool.{Bool, true, false, not}
use mathlib.Core.List.{List}
use Prim.Native.Nat.{ℕ, ◌+◌, ◌-◌, ◌<◌}
use native.Mathlib.Omega.{arith}
use lib.IntN.{ℤ, pos}
use lib.Dec.{eqb}
use borrow.Author.Tests.{ne_eqb, eqb-true, not-false}
use Rattle.rules.specs.Loops.{highest, nonzero}
use Rattle.rules.specs.Rows.{digit}
use Rattle.rules.specs.Engines.{start_place}
use Rattle.laws.specs.Weight.{nonzero-none}
use Rattle.laws.specs.Loops.{highest-found, highest-next, highest-one, highest-lt, highest-above}

module _ (a b : List ℤ) where
  -- whether either row is not 0 at a place
  abbrev pub either : ℕ → Bool
  either j = not (eqb (nonzero (digit a j) + nonzero (digit b j)) 0)

  pub start_is : start_place a b ≡ highest either 256
  unfolding start_place
  start_is = refl

  both : (j : ℕ) → digit a j ≡ pos 0 → digit b j ≡ pos 0 → either j ≡ false
  both j p q = rw (p, q) (unfold nonzero in refl)

  left : (j : ℕ) → (digit a j ≡ pos 0 → ⊥) → either j ≡ true
  left j h = rw (ne_eqb (nonzero (digit a j) + nonzero (digit b j)) 0 (λ e. h (nonzero-none (digit a j) (omega arith))))

  right : (j : ℕ) → (digit b j ≡ pos 0 → ⊥) → either j ≡ true
  right j h = rw (ne_eqb (nonzero (digit a j) + nonzero (digit b j)) 0 (λ e. h (nonzero-none (digit b j) (omega arith))))

  -- at place i of the search
  module _ (i : ℕ) (s : start_place a b ≡ highest either (i + 1)) where
    pub found_left : (digit a i ≡ pos 0 → ⊥) → i ≡ start_place a b
    found_left h = sym (s ∙ highest-found either i (left i h))

    pub found_right : (digit b i ≡ pos 0 → ⊥) → i ≡ start_place a b
    found_right h = sym (s ∙ highest-found either i (right i h))

    pub found-end : i ≡ 0 → 0 ≡ start_place a b
    found-end e = sym (s ∙ ap (λ (k : ℕ). highest either (k + 1)) e ∙ highest-one either)

    pub lower : (i ≡ 0 → ⊥) → digit a i ≡ pos 0 → digit b i ≡ pos 0 → start_place a b ≡ highest either (i - 1 + 1)
    lower h p q = let e : i ≡ i - 1 + 1 = omega arith in s ∙ highest-next either i (both i p q) ∙ ap (highest either) e

  -- above the start place both rows are 0
  pub above : (j : ℕ) → start_place a b < j → j < 256 → (digit a j ≡ pos 0) × (digit b j ≡ pos 0)
  unfolding start_place
  above j h p =
      let e : nonzero (digit a j) + nonzero (digit b j) ≡ 0 = eqb-true (nonzero (digit a j) + nonzero (digit b j)) 0 (not-false (eqb (nonzero (digit a j) + nonzero (digit b j)) 0) (highest-above either 256 j h p)) in
      (nonzero-none (digit a j) (omega arith), nonzero-none (digit b j) (omega arith))

  pub start-inside : start_place a b < 256
  unfolding start_place
  start-inside = highest-lt either 256 (omega arith)
