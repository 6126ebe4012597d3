-- Weight: the digits that are not 0, row by row and place by place; plain sums of numbers.
use Rattle.std.specs.Prelude.{◌≡◌, ◌⊎◌, ℕ, zero, suc, ◌+◌, ◌-◌, ◌*◌, ◌<◌, ◌≤◌, ℤ, pos, negsuc}
use Rattle.std.proofs.Math.Path.{refl, ap}
use Rattle.std.proofs.Common.{sym, ◌∙◌, ap₂, inl, inr, lt-suc_self, eq-or-lt_of_le, le_of_suc-le-suc, suc-mul, sub-add_cancel, add-one, arith}
use Rattle.std.proofs.Math.Nat.{le_step, mul-one}
use Rattle.rules.specs.Group.{total}
use Rattle.rules.specs.Loops.{nonzero, weight}

pub total-none : (f : ℕ → ℕ) → total f 0 ≡ 0
unfolding total
total-none f = refl

pub total-more : (f : ℕ → ℕ) (n : ℕ) → total f (n + 1) ≡ total f n + f n
unfolding total
total-more f n = ap (total f) (add-one n)

pub total_ext : {f g : ℕ → ℕ} (n : ℕ) → ((i : ℕ) → i < n → f i ≡ g i) → total f n ≡ total g n
unfolding total
total_ext zero h = refl
total_ext (suc n) h = ap₂ ◌+◌ (total_ext n (λ i p. h i (le_step p))) (h n (lt-suc_self n))

pub total-add : (f g : ℕ → ℕ) (n : ℕ) → total (λ i. f i + g i) n ≡ total f n + total g n
unfolding total
total-add f g zero = refl
total-add f g (suc n) = omega (arith, total-add f g n)

pub total-zero : (f : ℕ → ℕ) (n : ℕ) → ((i : ℕ) → i < n → f i ≡ 0) → total f n ≡ 0
unfolding total
total-zero f zero h = refl
total-zero f (suc n) h = omega (arith, total-zero f n (λ i p. h i (le_step p)), h n (lt-suc_self n))

pub total-le : (f : ℕ → ℕ) (k n : ℕ) → ((i : ℕ) → i < n → f i ≤ k) → total f n ≤ n * k
unfolding total
total-le f k zero h = omega arith
total-le f k (suc n) h = rw (suc-mul n k) (omega (arith, total-le f k n (λ i p. h i (le_step p)), h n (lt-suc_self n)))

-- a digit that is not 0, by its sign
pub nonzero-zero : nonzero (pos 0) ≡ 0
unfolding nonzero
nonzero-zero = refl

pub nonzero-not : (d : ℤ) → (d ≡ pos 0 → ⊥) → nonzero d ≡ 1
unfolding nonzero
nonzero-not (pos zero) h = absurd (h refl)
nonzero-not (pos (suc n)) h = refl
nonzero-not (negsuc n) h = refl

pub nonzero-none : (d : ℤ) → nonzero d ≡ 0 → d ≡ pos 0
unfolding nonzero
nonzero-none (pos zero) h = refl
nonzero-none (pos (suc n)) h = absurd (omega arith)
nonzero-none (negsuc n) h = absurd (omega arith)

nonzero-le : (d : ℤ) → nonzero d ≤ 1
unfolding nonzero
nonzero-le (pos zero) = omega arith
nonzero-le (pos (suc n)) = omega arith
nonzero-le (negsuc n) = omega arith

module _ (d : ℕ → ℕ → ℤ) where
  pub weight-none : (n : ℕ) → weight d 0 n ≡ 0
  unfolding weight total
  weight-none n = refl

  pub weight-empty : (m : ℕ) → weight d m 0 ≡ 0
  unfolding weight
  weight-empty m = total-zero (λ i. total (λ j. nonzero (d i j)) 0) m (λ i p. total-none (λ j. nonzero (d i j)))

  -- one place more
  pub weight-place : (m n : ℕ) → weight d m (n + 1) ≡ weight d m n + total (λ i. nonzero (d i n)) m
  unfolding weight
  weight-place m n =
      total_ext m (λ i p. total-more (λ j. nonzero (d i j)) n)
      ∙ total-add (λ i. total (λ j. nonzero (d i j)) n) (λ i. nonzero (d i n)) m

  pub weight-le : (m n : ℕ) → weight d m n ≤ m * n
  unfolding weight
  weight-le m n =
      total-le (λ i. total (λ j. nonzero (d i j)) n) n m λ i p. rw mul-one at (total-le (λ j. nonzero (d i j)) 1 n λ j q. nonzero-le (d i j))

  -- top places where every row is 0 weigh nothing
  pub weight-top : (m k n : ℕ) → k ≤ n → ((i j : ℕ) → i < m → k ≤ j → j < n → d i j ≡ pos 0) → weight d m n ≡ weight d m k
  weight-top m k zero le h = let e : 0 ≡ k = omega arith in ap (weight d m) e
  weight-top m k (suc n) le h = go (eq-or-lt_of_le le) (λ le'. weight-top m k n le' (λ i j p a b. h i j p a (le_step b)))
    where
      go : (k ≡ suc n) ⊎ (k < suc n) → (k ≤ n → weight d m n ≡ weight d m k) → weight d m (suc n) ≡ weight d m k
      go (inl e) again = ap (weight d m) (sym e)
      go (inr lt) again =
          let le' : k ≤ n = le_of_suc-le-suc lt in
          let z : total (λ i. nonzero (d i n)) m ≡ 0 = total-zero (λ i. nonzero (d i n)) m (λ i p. ap nonzero (h i n p le' (lt-suc_self n)) ∙ nonzero-zero) in
          let s : weight d m (suc n) ≡ weight d m n + total (λ i. nonzero (d i n)) m = ap (weight d m) (sym (add-one n)) ∙ weight-place m n in
          omega (arith, again le')

-- how many of m rows have a digit at place j that is not 0
unfoldable pub column_weight : (ℕ → ℕ → ℤ) → ℕ → ℕ → ℕ
column_weight d m j = total (λ i. nonzero (d i j)) m

module _ (d : ℕ → ℕ → ℤ) where
  pub column-empty : (j : ℕ) → column_weight d 0 j ≡ 0
  unfolding column_weight
  column-empty j = total-none (λ i. nonzero (d i j))

  -- one row more
  pub column-row : (m j : ℕ) → column_weight d (m + 1) j ≡ column_weight d m j + nonzero (d m j)
  unfolding column_weight
  column-row m j = total-more (λ i. nonzero (d i j)) m

  pub column-le : (m j : ℕ) → column_weight d m j ≤ m
  unfolding column_weight
  column-le m j = rw mul-one at (total-le (λ i. nonzero (d i j)) 1 m (λ i p. nonzero-le (d i j)))

  -- one place, off the weight of the places up to it
  pub weight-off : (m j : ℕ) → 0 < j → weight d m j ≡ weight d m (j - 1) + column_weight d m (j - 1)
  unfolding column_weight
  weight-off m j h = ap (weight d m) (sym (sub-add_cancel h)) ∙ weight-place d m (j - 1)

pub weight-ext : (d d₁ : ℕ → ℕ → ℤ) (m n : ℕ) → ((i j : ℕ) → i < m → j < n → d i j ≡ d₁ i j) → weight d m n ≡ weight d₁ m n
unfolding weight
weight-ext d d₁ m n h = total_ext m λ i p. total_ext n λ j q. ap nonzero (h i j p q)
