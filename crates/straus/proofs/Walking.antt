-- The loops of the walk: row by row down a column, and column by column down the places.
use mathlib.Core.Path.{◌≡◌, refl, sym, ap, ap₂, ◌∙◌}
use mathlib.Core.List.{List}
use Prim.Native.Nat.{ℕ, ◌+◌, ◌-◌, ◌*◌, ◌<◌, ◌≤◌}
use native.Mathlib.Nat.{suc-mul, zero-mul, add-zero, add_assoc}
use native.Mathlib.Numerals.{add-one}
use native.Mathlib.Omega.{arith}
use lib.IntN.{ℤ}
use Rattle.rules.specs.declared.Element.{Element}
use Rattle.rules.specs.declared.Walk.{Walk}
use Rattle.rules.specs.Values.{element_of, part}
use Rattle.rules.specs.Group.{added, elements}
use Rattle.rules.specs.Loops.{up, down, doubled}
use Rattle.rules.specs.Rows.{digit}
use Rattle.rules.specs.Helpers.{looked_up}
use Rattle.laws.specs.Loops.{up_more, down-none, down_turn}
use Rattle.laws.specs.RadixWalk.{radix_column, radix_turn}
use Rattle.straus.specs.Radix.{row_entry, with_entry, with_column, radix_walked}

module _ (ds : List ℤ) (ls : List ℕ) where
  -- i rows have been passed at place j
  pub column-none : (j : ℕ) (w : Walk) → w ≡ with_column ds ls 0 j w
  unfolding with_column radix_column up
  column-none j w = ap (λ (a : ℕ). record { element = w.element; additions = a; doublings = w.doublings }) (sym (add-zero w.additions))

  pub column-more : (j : ℕ) (w : Walk) (i : ℕ) {r s : Walk} (row : List ℤ) (window : List ℕ) → row ≡ part 64 i ds → window ≡ part 32 i ls → r ≡ with_column ds ls i j w
      → s ≡ with_entry (looked_up 8 window (digit row j)) r → s ≡ with_column ds ls (i + 1) j w
  unfolding with_column radix_column row_entry
  column-more j w i {r} row window p q e f =
      f
      ∙ ap₂ (λ (t : List ℤ) (v : List ℕ). with_entry (looked_up 8 v (digit t j)) r) p q
      ∙ ap (with_entry (row_entry ds ls i j)) e
      ∙ ap₂ (λ (x : Element) (a : ℕ). record { element = x; additions = a; doublings = w.doublings })
      (sym (up_more (λ i r. added r (row_entry ds ls i j)) i w.element))
      (add_assoc w.additions i 1)

  module _ (m : ℕ) where
    abbrev step : ℕ → Element → Element
    step = radix_turn elements (row_entry ds ls) m 4

    -- j places are still to come
    pub record Walking (w : Walk) (j : ℕ) : Type 0 where
      pub place : j ≤ 64
      pub rest : (radix_walked ds ls m).element ≡ down step j w.element
      pub added-so-far : w.additions + j * m ≡ 64 * m
      pub doubled-so-far : w.doublings + 4 * j ≡ 256

    pub walking-none : {q : Element} → q ≡ element_of 0 → Walking (record { element = q; additions = 0; doublings = 0 }) 64
    unfolding radix_walked
    walking-none e = record { place = omega arith; rest = ap (down step 64) (sym e); added-so-far = omega arith; doubled-so-far = refl }

    module _ {w : Walk} {j : ℕ} (h : Walking w j) where
      -- a place's additions
      place-off : 0 < j → j * m ≡ (j - 1) * m + m
      place-off lt = let e : j ≡ j - 1 + 1 = omega arith in ap (λ (i : ℕ). i * m) (e ∙ add-one (j - 1)) ∙ suc-mul (j - 1) m

      pub additions-fit : 0 < j → w.additions + m ≤ 64 * m
      additions-fit lt = omega (arith, h.added-so-far, place-off lt)

      pub walking-more : 0 < j → {z : Element} {r : Walk} → z ≡ doubled elements 4 w.element
          → r ≡ with_column ds ls m (j - 1) (record { element = z; additions = w.additions; doublings = w.doublings + 4 }) → Walking r (j - 1)
      unfolding with_column
      walking-more lt e f =
          let x = ap (λ (t : Walk). t.element) f in
          let a = ap (λ (t : Walk). t.additions) f in
          let b = ap (λ (t : Walk). t.doublings) f in
          record {
            place = omega (arith, h.place);
            rest = h.rest ∙ down_turn step j w.element lt ∙ ap (down step (j - 1)) (sym (x ∙ ap (radix_column elements (row_entry ds ls) m (j - 1)) e));
            added-so-far = omega (arith, h.added-so-far, place-off lt, a);
            doubled-so-far = omega (arith, h.doubled-so-far, b);
          }

      pub walking-end : j ≡ 0 → w ≡ radix_walked ds ls m
      unfolding radix_walked
      walking-end e =
          let x = sym (h.rest ∙ ap (λ (i : ℕ). down step i w.element) e ∙ down-none step w.element) in
          let a : w.additions ≡ 64 * m = omega (arith, h.added-so-far, ap (λ (i : ℕ). i * m) e ∙ zero-mul m) in
          let b : w.doublings ≡ 256 = omega (arith, h.doubled-so-far) in
          ap₂ (λ (x : Element) (a : ℕ). record { element = x; additions = a; doublings = w.doublings }) x a
          ∙ ap (λ (b : ℕ). record { element = (radix_walked ds ls m).element; additions = 64 * m; doublings = b }) b
