-- The rules of both rows: the row of a scalar obeys its rule, and whatever obeys the rule is that row.
use Rattle.std.specs.Prelude.{◌≡◌, length, drop, replicate, ℤ, negsuc, nat_abs}
use Rattle.std.proofs.Math.Path.{refl, ap, ap₂}
use Rattle.std.proofs.Common.{sym, ◌∙◌, subst, mul-zero, one-mul, mul-add, mul_assoc, mul_comm, mul-le-mul_left, le_of_lt, arith, ext_get_or, pow-add, pow_mono, pow_pos}
use mathlib.Core.List.{List, [], ◌∷◌, ◌++◌}
use Prim.Native.Nat.{ℕ, zero, suc, ◌+◌, ◌-◌, ◌*◌, ◌%◌, ◌^◌, ◌≤◌, ◌<◌}
use Rattle.std.proofs.Math.Nat.{add-mul, pow-succ', eq_of_mul-eq-mul_left}
use Rattle.std.proofs.Math.Decide.{dec_lt}
use Rattle.std.proofs.Math.IntN.{pos, ℤ_discrete}
use Rattle.std.specs.Int.Signed.{mag}
use Rattle.rules.specs.Numbers.{row_bound}
use Rattle.rules.specs.Rows.{digit, row_sum, IsNaf, IsRadix, used_places, above, naf_digits, naf_row, radix_digits, radix_row}
use Rattle.laws.specs.DigitsSum.{plus, minus, same_parts, weigh, weigh-zeros, weigh-none, get_or-zeros, Level, level, sum_of, same_low}
use Rattle.laws.specs.Digits.{wide, half-even, centred-above, above-le, above_zero, after}
use Rattle.laws.specs.RadixRows.{radix-length}
use Rattle.laws.specs.NafRows.{naf_digit, naf_next, by-parity, naf-length, naf-digit-odd, naf-small, naf-apart}

-- ---- NAF

-- the digits weigh what is taken off
naf-weighs : (w n s : ℕ) → 1 ≤ w → weigh plus 2 (naf_digits w n s) + 2 ^ n * after (naf_next w) n s ≡ s + weigh minus 2 (naf_digits w n s)
unfolding naf_digits weigh after
naf-weighs w zero s h = omega (arith, one-mul s)
naf-weighs w (suc n) s h =
    let t : ℕ = naf_next w s in
    let r : ℕ = 2 ^ n * after (naf_next w) n t in
    let e : 2 ^ suc n * after (naf_next w) n t ≡ 2 * r = rw (pow-succ' 2 n) (mul_assoc 2 (2 ^ n) (after (naf_next w) n t)) in
    let d : plus (naf_digit w s) + 2 * t ≡ s + minus (naf_digit w s) =
    by-parity w s (λ d t. plus d + 2 * t ≡ s + minus d) (λ e. omega arith)
    (λ _. rw (← mul_assoc 2 (2 ^ (w - 1)) (above w s), ← wide w h) (centred-above w s h)) in
    rw e (omega (arith, naf-weighs w n t h))

-- a number up to 2 ^ n has at most n + 1 digits
next_le : (w n s : ℕ) → 2 ≤ w → s ≤ 2 ^ suc n → naf_next w s ≤ 2 ^ n
next_le w n s h l =
    by-parity w s (λ _ t. t ≤ 2 ^ n) (λ _. omega (arith, pow-succ' 2 n)) (λ o. go o (dec_lt n (w - 1)))
  where
    go : s % 2 ≡ 1 → Dec (n < w - 1) → 2 ^ (w - 1) * above w s ≤ 2 ^ n
    go o (yes a) =
        let z : above w s ≡ 0 = above_zero w s (omega arith) (omega (arith, half-even w h, pow_mono {i = suc n} {j = w - 1} (omega arith))) in
        rw (z, mul-zero (2 ^ (w - 1))) (omega arith)
    go o (no a) =
        let k : suc n ≡ w + (n - (w - 1)) = omega arith in
        let m : n ≡ w - 1 + (n - (w - 1)) = omega arith in
        let f : 2 ^ n ≡ 2 ^ (w - 1) * 2 ^ (n - (w - 1)) = ap (λ (x : ℕ). 2 ^ x) m ∙ pow-add 2 (w - 1) (n - (w - 1)) in
        rw f (mul-le-mul_left (2 ^ (w - 1)) (above-le w (n - (w - 1)) s (omega arith) (subst (λ (x : ℕ). s ≤ 2 ^ x) k l)))

none_left : (w n s : ℕ) → 2 ≤ w → s ≤ 2 ^ n → after (naf_next w) (suc n) s ≡ 0
unfolding after
none_left w zero s h l =
    by-parity w s (λ _ t. t ≡ 0) (λ _. omega arith)
    (λ _. rw (above_zero w s (omega arith) (omega (arith, half-even w h, pow_pos (w - 2)))) (mul-zero (2 ^ (w - 1))))
none_left w (suc n) s h l = none_left w n (naf_next w s) h (next_le w n s h l)

-- the row of a scalar below the bound obeys the rule
pub naf-obeys : (w : ℕ) → 2 ≤ w → (s : ℕ) → s < row_bound → IsNaf w (naf_row w s) s
unfolding naf_row row_bound
naf-obeys w h s l =
    record {
      long = naf-length w s;
      odd = naf-digit-odd w s h;
      small = naf-small w s h;
      apart = naf-apart w s;
      sum_is =
          sum_of 2 (naf_digits w 256 s) 256 s (naf-length w s)
          (plain _ _ _ _ (none_left w 255 s h (le_of_lt l)) (naf-weighs w 256 s (omega arith)));
    }
  where
    plain : (p u r x : ℕ) → r ≡ 0 → u + p * r ≡ x → u ≡ x
    plain p u r x z e = omega (arith, ap (λ (k : ℕ). p * k) z ∙ mul-zero p)

nat_abs-parts : (d : ℤ) → nat_abs d ≡ plus d + minus d
nat_abs-parts (pos n) = omega arith
nat_abs-parts (negsuc n) = omega arith

-- the rule of a list of digits, with no length and no sum
record Naf (w : ℕ) (l : List ℤ) : Type 0 where
  odd : (j : ℕ) → (digit l j ≡ pos 0 → ⊥) → nat_abs (digit l j) % 2 ≡ 1
  small : (j : ℕ) → nat_abs (digit l j) < 2 ^ (w - 1)
  apart : (i j : ℕ) → i < j → j < i + w → (digit l i ≡ pos 0 → ⊥) → digit l j ≡ pos 0

tail : (w : ℕ) (d : ℤ) (l : List ℤ) → Naf w (d ∷ l) → Naf w l
tail w d l h =
    record { odd = λ j. h.odd (suc j); small = λ j. h.small (suc j); apart = λ i j a b. h.apart (suc i) (suc j) (omega arith) (omega arith) }

module _ (w : ℕ) (lo : 2 ≤ w) where
  -- where the lowest digit is not 0, what follows it weighs 2 ^ w
  past-gap : (f : ℤ → ℕ) → f (pos 0) ≡ 0 → (d : ℤ) (l : List ℤ) → Naf w (d ∷ l) → (d ≡ pos 0 → ⊥) → 2 * weigh f 2 l ≡ weigh f 2 (drop (w - 1) l) * 2 ^ w
  past-gap f z d l h n =
      let m : ℕ = weigh f 2 (drop (w - 1) l) in
      let e : weigh f 2 l ≡ 2 ^ (w - 1) * m = weigh-zeros f z 2 l (w - 1) (λ j k. h.apart 0 (suc j) (omega arith) (omega arith) n) in
      rw (e, ← mul_assoc 2 (2 ^ (w - 1)) m, ← wide w (omega arith)) (mul_comm (2 ^ w) m)

  head : (x : ℤ) (xs : List ℤ) (y : ℤ) (ys : List ℤ) → Naf w (x ∷ xs) → Naf w (y ∷ ys) → Level 2 (x ∷ xs) (y ∷ ys) → plus x + minus y ≡ plus y + minus x
  unfolding weigh
  head x xs y ys h k e = go (ℤ_discrete x (pos 0)) (ℤ_discrete y (pos 0))
    where
      go : Dec (x ≡ pos 0) → Dec (y ≡ pos 0) → plus x + minus y ≡ plus y + minus x
      go (yes p) (yes q) = cc
      go (yes p) (no q) = absurd (omega (arith, ap plus p, ap minus p, nat_abs-parts y, k.odd 0 q))
      go (no p) (yes q) = absurd (omega (arith, ap plus q, ap minus q, nat_abs-parts x, h.odd 0 p))
      go (no p) (no q) =
          let a : ℕ = weigh plus 2 (drop (w - 1) xs) in
          let b : ℕ = weigh minus 2 (drop (w - 1) xs) in
          let c : ℕ = weigh plus 2 (drop (w - 1) ys) in
          let d : ℕ = weigh minus 2 (drop (w - 1) ys) in
          let B : 2 ^ w ≡ 2 * 2 ^ (w - 1) = wide w (omega arith) in
          same_low (2 ^ w) (a + d) (c + b) (plus x + minus y) (plus y + minus x)
          (omega (arith, nat_abs-parts x, nat_abs-parts y, h.small 0, k.small 0))
          (omega (arith, nat_abs-parts x, nat_abs-parts y, h.small 0, k.small 0))
          (rw (add-mul a d (2 ^ w), add-mul c b (2 ^ w))
          (omega (arith, past-gap plus refl x xs h p, past-gap minus refl x xs h p, past-gap plus refl y ys k q, past-gap minus refl y ys k q)))

  one-naf : (a b : List ℤ) → length a ≡ length b → Naf w a → Naf w b → Level 2 a b → a ≡ b
  unfolding weigh
  one-naf [] [] l h k e = refl
  one-naf [] (y ∷ ys) l h k e = absurd (omega arith)
  one-naf (x ∷ xs) [] l h k e = absurd (omega arith)
  one-naf (x ∷ xs) (y ∷ ys) l h k e =
      let g : plus x + minus y ≡ plus y + minus x = head x xs y ys h k e in
      ap₂ ◌∷◌ (same_parts x y g) (one-naf xs ys (omega arith) (tail w x xs h) (tail w y ys k) (omega arith))

  -- two rows of one scalar are one row
  pub naf-unique : (a b : List ℤ) (s : ℕ) → IsNaf w a s → IsNaf w b s → a ≡ b
  naf-unique a b s h k =
      one-naf a b (h.long ∙ sym k.long)
      (record { odd = h.odd; small = h.small; apart = h.apart })
      (record { odd = k.odd; small = k.small; apart = k.apart })
      (level 2 a b 256 s h.long k.long h.sum_is k.sum_is)

  -- so whatever obeys the rule is the row that is computed
  pub naf-only : (row : List ℤ) (s : ℕ) → s < row_bound → IsNaf w row s → row ≡ naf_row w s
  naf-only row s l h = naf-unique row (naf_row w s) s h (naf-obeys w lo s l)

-- ---- radix

-- what the digits weigh: each step takes a digit off, and the last is what is left
radix-weighs : (w n s : ℕ) → 1 ≤ w → weigh plus (2 ^ w) (radix_digits w n s) ≡ s + weigh minus (2 ^ w) (radix_digits w n s)
unfolding radix_digits weigh
radix-weighs w zero s h = omega (arith, mul-zero (2 ^ w))
radix-weighs w (suc n) s h =
    let u : ℕ = weigh plus (2 ^ w) (radix_digits w n (above w s)) in
    let d : ℕ = weigh minus (2 ^ w) (radix_digits w n (above w s)) in
    let e : 2 ^ w * u ≡ 2 ^ w * above w s + 2 ^ w * d = ap (λ (x : ℕ). 2 ^ w * x) (radix-weighs w n (above w s) h) ∙ mul-add (2 ^ w) (above w s) d in
    omega (arith, centred-above w s h, e)

weigh-padded : (f : ℤ → ℕ) → f (pos 0) ≡ 0 → (B : ℕ) (l : List ℤ) (k : ℕ) → weigh f B (l ++ replicate k (pos 0)) ≡ weigh f B l
unfolding weigh
weigh-padded f z B [] k = weigh-none f z B (replicate k (pos 0)) (get_or-zeros k)
weigh-padded f z B (d ∷ l) k = ap (λ (x : ℕ). f d + B * x) (weigh-padded f z B l k)

-- the row of any number weighs that number
pub radix-sum : (w : ℕ) → 4 ≤ w → w ≤ 8 → (s : ℕ) → row_sum (2 ^ w) (digit (radix_row w s)) 64 ≡ pos s
unfolding radix_row
radix-sum w lo hi s =
    let l : List ℤ = radix_digits w (used_places w - 1) s in
    let k : ℕ = 64 - used_places w in
    sum_of (2 ^ w) (l ++ replicate k (pos 0)) 64 s (radix-length w lo hi s)
    (rw (weigh-padded plus refl (2 ^ w) l k, weigh-padded minus refl (2 ^ w) l k) (radix-weighs w (used_places w - 1) s (omega arith)))

near : (H : ℕ) (x y : ℤ) → mag x < H → mag y < H → plus x + minus y < 2 * H
near H (pos a) (pos b) h k = omega arith
near H (pos a) (negsuc b) h k = omega arith
near H (negsuc a) (pos b) h k = omega arith
near H (negsuc a) (negsuc b) h k = omega arith

-- lists with n digits in range, then any digit, then zeros
one-radix : (w : ℕ) → 1 ≤ w → (n : ℕ) (a b : List ℤ) → length a ≡ length b
    → ((i : ℕ) → i < n → mag (digit a i) < 2 ^ (w - 1)) → ((i : ℕ) → i < n → mag (digit b i) < 2 ^ (w - 1))
    → ((i : ℕ) → n < i → digit a i ≡ pos 0) → ((i : ℕ) → n < i → digit b i ≡ pos 0)
    → Level (2 ^ w) a b → a ≡ b
unfolding weigh
one-radix w h n [] [] l r t y z e = refl
one-radix w h n [] (y ∷ b) l r t u z e = absurd (omega arith)
one-radix w h n (x ∷ a) [] l r t u z e = absurd (omega arith)
one-radix w h zero (x ∷ a) (y ∷ b) l r t u z e =
    let none : (f : ℤ → ℕ) → f (pos 0) ≡ 0 → (c : ℤ) (m : List ℤ) → ((i : ℕ) → 0 < i → digit (c ∷ m) i ≡ pos 0) → 2 ^ w * weigh f (2 ^ w) m ≡ 0 =
    λ f q c m k. ap (λ (v : ℕ). 2 ^ w * v) (weigh-none f q (2 ^ w) m (λ i. k (suc i) (omega arith))) ∙ mul-zero (2 ^ w) in
    ap₂ ◌∷◌
    (same_parts x y (omega (arith, none plus refl x a u, none minus refl x a u, none plus refl y b z, none minus refl y b z)))
    (ext_get_or (pos 0) a b (omega arith) (λ i _. u (suc i) (omega arith) ∙ sym (z (suc i) (omega arith))))
one-radix w h (suc n) (x ∷ a) (y ∷ b) l r t u z e =
    let B : ℕ = 2 ^ w in
    let g : plus x + minus y ≡ plus y + minus x =
    same_low B (weigh plus B a + weigh minus B b) (weigh plus B b + weigh minus B a) (plus x + minus y) (plus y + minus x)
    (rw (wide w h) (near (2 ^ (w - 1)) x y (r 0 (omega arith)) (t 0 (omega arith))))
    (rw (wide w h) (near (2 ^ (w - 1)) y x (t 0 (omega arith)) (r 0 (omega arith))))
    (omega arith) in
    let f : B * (weigh plus B a + weigh minus B b) ≡ B * (weigh plus B b + weigh minus B a) = omega arith in
    ap₂ ◌∷◌ (same_parts x y g)
    (one-radix w h n a b (omega arith) (λ i k. r (suc i) (omega arith)) (λ i k. t (suc i) (omega arith))
    (λ i k. u (suc i) (omega arith)) (λ i k. z (suc i) (omega arith))
    (eq_of_mul-eq-mul_left B (pow_pos w) _ _ f))

-- two rows of one scalar are one row
pub radix-unique : (w : ℕ) → 4 ≤ w → w ≤ 8 → (a b : List ℤ) (s : ℕ) → IsRadix w a s → IsRadix w b s → a ≡ b
radix-unique w lo hi a b s h k =
    one-radix w (omega arith) (used_places w - 1) a b (h.long ∙ sym k.long)
    (λ i q. h.range i (omega arith)) (λ i q. k.range i (omega arith))
    (λ i q. h.rest i (omega arith)) (λ i q. k.rest i (omega arith))
    (level (2 ^ w) a b 64 s h.long k.long h.sum_is k.sum_is)
