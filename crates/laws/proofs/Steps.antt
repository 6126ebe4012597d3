-- One row's digit, as the machine has it: what the sum and the count are after it, by its sign; over any group and any way to read an entry.
use mathlib.Core.Path.{◌≡◌, refl, ap, sym, ◌∙◌}
use mathlib.Core.Bool.{true, false}
use mathlib.Core.List.{List}
use Prim.Native.Nat.{ℕ, zero, suc, ◌+◌}
use native.Mathlib.Nat.{add-zero}
use native.Mathlib.Omega.{arith}
use lib.IntN.{ℤ, pos, negsuc}
use lib.Signed.{lt_z}
use mir.Syntax.{w8}
use mir.Val.{SFits, to_z, of_z}
use borrow.Author.Tests.{ltb-true}
use Rattle.rules.specs.Group.{Ops}
use Rattle.rules.specs.Loops.{nonzero, odd_entry, moved}
use Rattle.laws.specs.Running.{Run, running, onward}
use Rattle.digit.proofs.Machine.{back8, is_zero, not-zero}

module _ {A : Type 0} (o : Ops A) where
  added_is : (d : ℤ) (x y : A) (q : Run A) → (d ≡ pos 0 → ⊥) → lt_z d (pos 0) ≡ false → y ≡ o.op q.sum x
      → running y (q.additions + 1) ≡ onward o d x q
  unfolding onward moved nonzero
  added_is (pos zero) x y q n h e = absurd (n refl)
  added_is (pos (suc k)) x y q n h e = ap (λ (z : A). running z (q.additions + 1)) e
  added_is (negsuc k) x y q n h e = let z : ◌≡◌ {A = ℕ} 0 1 = cc in absurd (omega arith)

  taken_is : (d : ℤ) (x y : A) (q : Run A) → lt_z d (pos 0) ≡ true → y ≡ o.sub q.sum x → running y (q.additions + 1) ≡ onward o d x q
  unfolding onward moved nonzero
  taken_is (pos n) x y q h e = absurd (omega (arith, ltb-true n 0 h))
  taken_is (negsuc n) x y q h e = ap (λ (z : A). running z (q.additions + 1)) e

  module _ (read : List ℕ → ℕ → A) (d : ℤ) (f : SFits w8 d) (ws : List ℕ) (q : Run A) where
    pub onward-zero : of_z w8 d ≡ 0 → q ≡ onward o d (read ws (odd_entry d)) q
    unfolding onward moved nonzero
    onward-zero h =
        ap (running q.sum) (sym (add-zero q.additions)) ∙ ap (λ (z : ℤ). onward o z (read ws (odd_entry d)) q) (sym (is_zero d f h))

    -- the entry as it was read
    module _ (k : ℕ) (x y : A) (entry : k ≡ odd_entry (to_z w8 (of_z w8 d))) (read_is : x ≡ read ws k) where
      named : x ≡ read ws (odd_entry d)
      named = read_is ∙ ap (read ws) (entry ∙ ap odd_entry (back8 d f))

      pub onward-below : lt_z (to_z w8 (of_z w8 d)) (pos 0) ≡ true → y ≡ o.sub q.sum x
          → running y (q.additions + 1) ≡ onward o d (read ws (odd_entry d)) q
      onward-below h e = taken_is d _ y q (rw (back8 d f) at h) (e ∙ ap (o.sub q.sum) named)

      pub onward-above : (of_z w8 d ≡ 0 → ⊥) → lt_z (to_z w8 (of_z w8 d)) (pos 0) ≡ false → y ≡ o.op q.sum x
          → running y (q.additions + 1) ≡ onward o d (read ws (odd_entry d)) q
      onward-above n h e = added_is d _ y q (not-zero d n) (rw (back8 d f) at h) (e ∙ ap (o.op q.sum) named)
