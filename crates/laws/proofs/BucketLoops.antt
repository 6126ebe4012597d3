-- The loops of a column of buckets, over any group and any cells: a point put by its digit, as the machine has it; the rows put so far; the two running sums.
use mathlib.Core.Path.{◌≡◌, refl, sym, ap, ap₂, ◌∙◌}
use mathlib.Core.Bool.{true, false}
use mathlib.Core.List.{List}
use Prim.Native.Nat.{ℕ, zero, suc, ◌+◌, ◌-◌, ◌*◌, ◌<◌, ◌≤◌}
use native.Mathlib.Omega.{arith}
use lib.IntN.{ℤ, pos, negsuc, nat_abs}
use lib.ListN.{length, take, drop}
use lib.Signed.{lt_z}
use borrow.Author.Tests.{ltb-true}
use mir.Syntax.{w8}
use mir.Val.{SFits, to_z, of_z}
use Rattle.rules.specs.Group.{Ops}
use Rattle.rules.specs.Loops.{down, nonzero}
use Rattle.rules.specs.Rows.{digit}
use Rattle.digit.proofs.Machine as M
use Rattle.laws.specs.Loops.{up_none, up_more, down-none, down_turn}
use Rattle.laws.specs.Weight.{column_weight, column-empty, column-row}
use Rattle.laws.specs.Parts.{part-is, part_length}
use Rattle.laws.specs.Buckets.{ran, bucket_sum}
use Rattle.laws.specs.Cells.{digit_at, put_in, put_rows_in, Placed}

module _ {A : Type 0} (o : Ops A) (read : List ℕ → ℕ → A) (store : List ℕ → ℕ → A → List ℕ) (u : ℕ) (z : ℤ) (f : SFits w8 z) where
  pub put-none : (p : A) (l : List ℕ) → of_z w8 z ≡ 0 → (0 ≡ nonzero z) × (l ≡ put_in o read store z p l)
  unfolding nonzero put_in
  put-none p l e = rw (M.is_zero z f e) (refl, refl)

  module _ (some : of_z w8 z ≡ 0 → ⊥) {n : ℕ} (en : n ≡ nat_abs (to_z w8 (of_z w8 z))) where
    size : n ≡ nat_abs z
    size = en ∙ ap nat_abs (M.back8 z f)

    module _ (p : A) (l : List ℕ) {b x : A} {l' : List ℕ} (eb : b ≡ read l (n - 1)) (el : l' ≡ store l (n - 1) x) where
      pub put-below : lt_z (to_z w8 (of_z w8 z)) (pos 0) ≡ true → x ≡ o.sub b p → (1 ≡ nonzero z) × (l' ≡ put_in o read store z p l)
      unfolding nonzero put_in
      put-below t ex = go z size (sym (ap (λ (y : ℤ). lt_z y (pos 0)) (M.back8 z f)) ∙ t)
        where
          go : (z : ℤ) → n ≡ nat_abs z → lt_z z (pos 0) ≡ true → (1 ≡ nonzero z) × (l' ≡ put_in o read store z p l)
          go (pos k) e h = absurd (omega (arith, ltb-true k 0 h))
          go (negsuc k) e h = let q : n - 1 ≡ k = omega arith in (refl, cc)

      pub put-above : lt_z (to_z w8 (of_z w8 z)) (pos 0) ≡ false → x ≡ o.op b p → (1 ≡ nonzero z) × (l' ≡ put_in o read store z p l)
      unfolding nonzero put_in
      put-above t ex = go z size (M.not-zero z some) (sym (ap (λ (y : ℤ). lt_z y (pos 0)) (M.back8 z f)) ∙ t)
        where
          go : (z : ℤ) → n ≡ nat_abs z → (z ≡ pos 0 → ⊥) → lt_z z (pos 0) ≡ false → (1 ≡ nonzero z) × (l' ≡ put_in o read store z p l)
          go (pos zero) e s h = absurd (s refl)
          go (pos (suc k)) e s h = let q : n - 1 ≡ k = omega arith in (refl, cc)
          go (negsuc k) e s h = let w : ◌≡◌ {A = ℕ} 0 1 = cc in absurd (omega arith)

-- row i as code hands it on
abbrev row : List ℤ → ℕ → List ℤ
row ds i = take (64 * i + 64 - 64 * i) (drop (64 * i) ds)

module _ {A : Type 0} (o : Ops A) (read : List ℕ → ℕ → A) (store : List ℕ → ℕ → A → List ℕ) (u : ℕ) (ds : List ℤ) (P : ℕ → A) (j : ℕ) where
  pub rows_none : (l : List ℕ) → (0 ≡ column_weight (digit_at ds) 0 j) × (l ≡ put_rows_in o read store ds P j 0 l)
  unfolding put_rows_in
  rows_none l = (sym (column-empty (digit_at ds) j), sym (up_none (λ i b. put_in o read store (digit_at ds i j) (P i) b) l))

  module _ (i : ℕ) where
    is_row : digit (row ds i) j ≡ digit_at ds i j
    unfolding digit_at
    is_row = ap (λ (r : List ℤ). digit r j) (part-is 64 i ds)

    -- one row more
    pub rows_more : {a r : ℕ} {p : A} (l₀ : List ℕ) {l l' : List ℕ} → p ≡ P i → (a ≡ column_weight (digit_at ds) i j) × (l ≡ put_rows_in o read store ds P j i l₀)
        → (r ≡ nonzero (digit (row ds i) j)) × (l' ≡ put_in o read store (digit (row ds i) j) p l) → (a + r ≡ column_weight (digit_at ds) (i + 1) j) × (l' ≡ put_rows_in o read store ds P j (i + 1) l₀)
    unfolding put_rows_in
    rows_more l₀ ep e f = (
      ap₂ ◌+◌ e.0 (f.0 ∙ ap nonzero is_row) ∙ sym (column-row (digit_at ds) i j),
      f.1 ∙ rw (is_row, ep, e.1) (sym (up_more (λ i b. put_in o read store (digit_at ds i j) (P i) b) i l₀)),
    )

    -- what `put` asks of its row
    pub row-placed : {m b : ℕ} → Placed u ds m j b → i < m → (j < length (row ds i)) × (u * nat_abs (digit (row ds i) j) ≤ b)
    row-placed h p = (rw (part-is 64 i ds, part_length 64 i ds (omega (arith, h.rows))) h.place, rw is_row (h.small i p))

module _ {A : Type 0} (o : Ops A) (b : ℕ → A) where
  -- the running sums at their start and after a turn: what they come to stays
  pub ran-start : (n : ℕ) {x : A} → x ≡ b n → (down (ran o b) n (x, x)).1 ≡ bucket_sum o b n
  unfolding bucket_sum
  ran-start n e = ap (λ (x : A). (down (ran o b) n (x, x)).1) e

  pub ran-turn : (i : ℕ) (r s : A) {x r' s' t : A} → 0 < i → x ≡ b (i - 1) → r' ≡ o.op r x → s' ≡ o.op s r'
      → (down (ran o b) i (r, s)).1 ≡ t → (down (ran o b) (i - 1) (r', s')).1 ≡ t
  ran-turn i r s h ex er es e = rw (es, er, ex) (sym (ap (λ (q : A × A). q.1) (down_turn (ran o b) i (r, s) h)) ∙ e)

  pub ran-end : (i : ℕ) (r : A) {s t : A} → i ≡ 0 → (down (ran o b) i (r, s)).1 ≡ t → s ≡ t
  ran-end i r {s} z e = sym (ap (λ (q : A × A). q.1) (ap (λ (k : ℕ). down (ran o b) k (r, s)) z ∙ down-none (ran o b) (r, s))) ∙ e
