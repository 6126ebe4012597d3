-- The loop down the places: before it, one place more, after it.
use mathlib.Core.Path.{◌≡◌, refl, sym, ap, ap₂, ◌∙◌}
use mathlib.Core.List.{List}
use Prim.Native.Nat.{ℕ, ◌+◌, ◌-◌, ◌*◌, ◌<◌, ◌≤◌}
use native.Mathlib.Omega.{arith}
use lib.IntN.{ℤ}
use Rattle.rules.specs.declared.Element.{Element}
use Rattle.rules.specs.declared.Walk.{Walk}
use Rattle.rules.specs.Values.{element_of}
use Rattle.rules.specs.Group.{added, elements}
use Rattle.rules.specs.Loops.{up, down, doubled}
use Rattle.rules.specs.Rows.{digit}
use Rattle.rules.specs.Helpers.{looked_up}
use Rattle.laws.specs.Loops.{down-none, down_turn}
use Rattle.laws.specs.RadixWalk.{radix_column, radix_turn}
use Rattle.variable_base.specs.Walked.{row_entry, walked_down}

module _ (row : List ℤ) (window : List ℕ) where
  abbrev step : ℕ → Element → Element
  step = radix_turn elements (row_entry row window) 1 4

  -- j places are still to come
  pub record Walking (w : Walk) (j : ℕ) : Type 0 where
    pub place : j ≤ 63
    pub rest : (walked_down row window).element ≡ down step j w.element
    pub added-so-far : w.additions + j ≡ 64
    pub doubled-so-far : w.doublings + 4 * j ≡ 252

  pub walking-first : {z x q : Element} → z ≡ element_of 0 → x ≡ looked_up 8 window (digit row 63) → q ≡ added z x
      → Walking (record { element = q; additions = 1; doublings = 0 }) 63
  unfolding walked_down radix_column up
  walking-first e f g = record {
    place = omega arith;
    rest = ap (down step 63) (sym (g ∙ ap₂ added e f));
    added-so-far = refl;
    doubled-so-far = refl;
  }

  module _ {w : Walk} {j : ℕ} (h : Walking w j) where
    pub walking-more : 0 < j → {z x r : Element} → z ≡ doubled elements 4 w.element → x ≡ looked_up 8 window (digit row (j - 1)) → r ≡ added z x
        → Walking (record { element = r; additions = w.additions + 1; doublings = w.doublings + 4 }) (j - 1)
    unfolding radix_column up
    walking-more m e f g = record {
      place = omega (arith, h.place);
      rest = h.rest ∙ down_turn step j w.element m ∙ ap (down step (j - 1)) (sym (g ∙ ap₂ added e f));
      added-so-far = omega (arith, h.added-so-far);
      doubled-so-far = omega (arith, h.doubled-so-far);
    }

    pub walking-end : j ≡ 0 → w ≡ walked_down row window
    unfolding walked_down
    walking-end e =
        let x = sym (h.rest ∙ ap (λ (i : ℕ). down step i w.element) e ∙ down-none step w.element) in
        let a : w.additions ≡ 64 = omega (arith, h.added-so-far) in
        let b : w.doublings ≡ 252 = omega (arith, h.doubled-so-far) in
        rw (sym x, sym a, sym b) refl
