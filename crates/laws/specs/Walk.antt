-- What columns and the walk down them sum to: for entries as they stand, and for windows, digits times points.
use Rattle.std.specs.Prelude.{◌≡◌, ℤ, pos, negsuc}
use Rattle.std.proofs.Math.Path.{refl, sym, ap, ap₂}
use Rattle.std.proofs.Common.{◌∙◌, not-suc-le-zero, arith}
use Prim.Native.Nat.{ℕ, zero, suc, ◌%◌, ◌^◌, ◌<◌}
use Rattle.std.proofs.Math.IntN.{nat_abs}
use Rattle.rules.specs.Group.{Ops, times, times_z, sum_below}
use Rattle.rules.specs.Loops.{odd_entry, moved, column, walk}
use Rattle.rules.specs.Rows.{row_sum}
use Rattle.rules.specs.Windows.{odd}
use Rattle.laws.specs.Group.{Laws, idr, sub_in, twice_in}
use Rattle.laws.specs.Multiples.{times-in, times-two, times-e, times-op}
use Rattle.laws.specs.Sums.{sum-none, sum-ext, sum-in, sum-op}
use Rattle.laws.specs.Places.{up-sum, down-sum, columns-sum, row-times, scalars-sum}
use Rattle.laws.specs.Windows.{odd-in, odd-named}
use Rattle.laws.specs.Columns.{term, turn}

-- the entries that the digits of m rows and n places name are members
abbrev pub Named : {A : Type 0} → (A → Type 0) → (ℕ → ℕ → ℤ) → (ℕ → ℕ → A) → ℕ → ℕ → Type 0
Named In d x m n = (i j : ℕ) → i < m → j < n → In (x i (odd_entry (d i j)))

-- they are those of windows of odd multiples of the points P, and each digit is 0 or odd
pub record Windowed {A : Type 0} (o : Ops A) (In : A → Type 0) (d : ℕ → ℕ → ℤ) (x : ℕ → ℕ → A) (P : ℕ → A) (m n : ℕ) : Type 0 where
  pub point-in : (i : ℕ) → i < m → In (P i)
  pub entry-is : (i j : ℕ) → i < m → j < n → x i (odd_entry (d i j)) ≡ odd o (P i) (odd_entry (d i j))
  pub odd-digit : (i j : ℕ) → i < m → j < n → (d i j ≡ pos 0 → ⊥) → nat_abs (d i j) % 2 ≡ 1

module _ {A : Type 0} {o : Ops A} {In : A → Type 0} (l : Laws o In) where
  open o use {op as ◌⊕◌, sub, e}
  open l use {e-in, op-in, inv-in, assoc, idl, sub_is, twice-is}

  infixl 6 ◌⊕◌
  pub moved_in : (d : ℤ) {q x : A} → In q → In x → In (moved o d q x)
  unfolding moved
  moved_in (pos zero) hq hx = hq
  moved_in (pos (suc n)) hq hx = op-in hq hx
  moved_in (negsuc n) hq hx = sub_in l hq hx

  pub moved-is : (d : ℤ) {q x : A} → In q → In x → moved o d q x ≡ q ⊕ moved o d e x
  unfolding moved
  moved-is (pos zero) hq hx = sym (idr l hq)
  moved-is (pos (suc n)) {q} hq hx = ap (λ y. q ⊕ y) (sym (idl hx))
  moved-is (negsuc n) {q} hq hx = sub_is hq hx ∙ ap (λ y. q ⊕ y) (sym (sub_is e-in hx ∙ idl (inv-in hx)))

  -- an odd digit, or 0, and its entry in a window of odd multiples of p: digit times p
  pub moved-odd : (d : ℤ) {p : A} → ((d ≡ pos 0 → ⊥) → nat_abs d % 2 ≡ 1) → In p → moved o d e (odd o p (odd_entry d)) ≡ times_z o d p
  unfolding moved times_z times
  moved-odd (pos zero) h hp = refl
  moved-odd (pos (suc n)) h hp = idl (odd-in l (odd_entry (pos (suc n))) hp) ∙ odd-named l (pos (suc n)) (h (λ q. omega (arith, ap nat_abs q))) hp
  moved-odd (negsuc n) h hp =
      sub_is e-in (odd-in l (odd_entry (negsuc n)) hp)
      ∙ idl (inv-in (odd-in l (odd_entry (negsuc n)) hp))
      ∙ ap o.inv (odd-named l (negsuc n) (h (λ q. omega (arith, ap nat_abs q))) hp)

  pub column-sum : (d : ℕ → ℕ → ℤ) (x : ℕ → ℕ → A) (m j : ℕ) {q : A} → ((i : ℕ) → i < m → In (x i (odd_entry (d i j)))) → In q
      → column o d x m j q ≡ q ⊕ sum_below o (λ i. term o d x i j) m
  unfolding column
  column-sum d x m j h hq =
      up-sum l (λ i. term o d x i j) (λ i r. moved o (d i j) r (x i (odd_entry (d i j)))) m
      (λ i p. moved_in (d i j) e-in (h i p)) (λ i p r hr. moved-is (d i j) hr (h i p)) hq

  -- the walk over entries as they stand
  pub walk-entries : (d : ℕ → ℕ → ℤ) (x : ℕ → ℕ → A) (m : ℕ) (d' : ℕ → ℕ → ℤ) (x' : ℕ → ℕ → A) (m' n : ℕ) → Named In d x m n → Named In d' x' m' n
      → walk o d x m d' x' m' n
      ≡ sum_below o (λ i. sum_below o (λ j. times o (2 ^ j) (term o d x i j)) n) m ⊕ sum_below o (λ i. sum_below o (λ j. times o (2 ^ j) (term o d' x' i j)) n) m'
  unfolding walk
  walk-entries d x m d' x' m' n h h' =
      down-sum l 2 (λ j. C j ⊕ C' j) (turn o d x m d' x' m') n (λ j p. op-in (h_c j p) (h_c' j p)) step e-in
      ∙ ap₂ ◌⊕◌ (times-e l (2 ^ n)) (sum-ext o n (λ j p. times-op l (2 ^ j) (h_c j p) (h_c' j p)))
      ∙ idl (sum-in l n (λ j p. op-in (times-in l (2 ^ j) (h_c j p)) (times-in l (2 ^ j) (h_c' j p))))
      ∙ sym (sum-op l n (λ j p. times-in l (2 ^ j) (h_c j p)) (λ j p. times-in l (2 ^ j) (h_c' j p)))
      ∙ ap₂ ◌⊕◌ (columns-sum l 2 (term o d x) m n (λ i j p q. moved_in (d i j) e-in (h i j p q)))
      (columns-sum l 2 (term o d' x') m' n (λ i j p q. moved_in (d' i j) e-in (h' i j p q)))
    where
      C : ℕ → A
      C j = sum_below o (λ i. term o d x i j) m

      C' : ℕ → A
      C' j = sum_below o (λ i. term o d' x' i j) m'

      h_c : (j : ℕ) → j < n → In (C j)
      h_c j q = sum-in l m (λ i p. moved_in (d i j) e-in (h i j p q))

      h_c' : (j : ℕ) → j < n → In (C' j)
      h_c' j q = sum-in l m' (λ i p. moved_in (d' i j) e-in (h' i j p q))

      step : (j : ℕ) → j < n → (r : A) → In r → turn o d x m d' x' m' j r ≡ times o 2 r ⊕ (C j ⊕ C' j)
      step j p r hr =
          ap (λ (q : A). column o d' x' m' j q) (column-sum d x m j (λ i a. h i j a p) (twice_in l hr))
          ∙ column-sum d' x' m' j (λ i a. h' i j a p) (op-in (twice_in l hr) (h_c j p))
          ∙ assoc (twice_in l hr) (h_c j p) (h_c' j p)
          ∙ ap (λ y. y ⊕ (C j ⊕ C' j)) (twice-is hr ∙ sym (times-two l hr))

  row-digits : (d : ℕ → ℕ → ℤ) (x : ℕ → ℕ → A) (P : ℕ → A) (m n : ℕ) → Windowed o In d x P m n
      → sum_below o (λ i. sum_below o (λ j. times o (2 ^ j) (term o d x i j)) n) m ≡ sum_below o (λ i. times_z o (row_sum 2 (d i) n) (P i)) m
  row-digits d x P m n h =
      sum-ext o m (λ i p. sum-ext o n (λ j q. ap (times o (2 ^ j)) (ap (moved o (d i j) e) (h.entry-is i j p q) ∙ moved-odd (d i j) (h.odd-digit i j p q) (h.point-in i p)))
      ∙ sym (row-times l 2 (d i) n (h.point-in i p)))

  named : (d : ℕ → ℕ → ℤ) (x : ℕ → ℕ → A) (P : ℕ → A) (m n : ℕ) → Windowed o In d x P m n → Named In d x m n
  named d x P m n h i j p q = rw (h.entry-is i j p q) (odd-in l (odd_entry (d i j)) (h.point-in i p))

  -- the walk over windows: every point as often as its row says
  pub walk-digits : (d : ℕ → ℕ → ℤ) (x : ℕ → ℕ → A) (P : ℕ → A) (m : ℕ) (d' : ℕ → ℕ → ℤ) (x' : ℕ → ℕ → A) (P' : ℕ → A) (m' n : ℕ)
      → Windowed o In d x P m n → Windowed o In d' x' P' m' n
      → walk o d x m d' x' m' n ≡ sum_below o (λ i. times_z o (row_sum 2 (d i) n) (P i)) m ⊕ sum_below o (λ i. times_z o (row_sum 2 (d' i) n) (P' i)) m'
  walk-digits d x P m d' x' P' m' n h h' =
      walk-entries d x m d' x' m' n (named d x P m n h) (named d' x' P' m' n h') ∙ ap₂ ◌⊕◌ (row-digits d x P m n h) (row-digits d' x' P' m' n h')

  -- where each row's weighted sum is its scalar
  pub walk-sum : (d : ℕ → ℕ → ℤ) (x : ℕ → ℕ → A) (P : ℕ → A) (s : ℕ → ℕ) (m : ℕ) (d' : ℕ → ℕ → ℤ) (x' : ℕ → ℕ → A) (P' : ℕ → A) (s' : ℕ → ℕ) (m' n : ℕ)
      → Windowed o In d x P m n → ((i : ℕ) → i < m → row_sum 2 (d i) n ≡ pos (s i))
      → Windowed o In d' x' P' m' n → ((i : ℕ) → i < m' → row_sum 2 (d' i) n ≡ pos (s' i))
      → walk o d x m d' x' m' n ≡ sum_below o (λ i. times o (s i) (P i)) m ⊕ sum_below o (λ i. times o (s' i) (P' i)) m'
  walk-sum d x P s m d' x' P' s' m' n h r h' r' =
      walk-digits d x P m d' x' P' m' n h h' ∙ ap₂ ◌⊕◌ (scalars-sum o 2 d P s m n r) (scalars-sum o 2 d' P' s' m' n r')

  -- rows of one kind only
  module _ (d : ℕ → ℕ → ℤ) (x : ℕ → ℕ → A) (m : ℕ) (d' : ℕ → ℕ → ℤ) (x' : ℕ → ℕ → A) (n : ℕ) where
    pub walk-entries-one : Named In d x m n → walk o d x m d' x' 0 n ≡ sum_below o (λ i. sum_below o (λ j. times o (2 ^ j) (term o d x i j)) n) m
    walk-entries-one h =
        walk-entries d x m d' x' 0 n h (λ i j p q. absurd (not-suc-le-zero p))
        ∙ ap (λ y. sum_below o (λ i. sum_below o (λ j. times o (2 ^ j) (term o d x i j)) n) m ⊕ y) (sum-none o (λ i. sum_below o (λ j. times o (2 ^ j) (term o d' x' i j)) n))
        ∙ idr l (sum-in l m (λ i p. sum-in l n (λ j q. times-in l (2 ^ j) (moved_in (d i j) e-in (h i j p q)))))

    pub walk-sum-one : (P : ℕ → A) (s : ℕ → ℕ) → Windowed o In d x P m n → ((i : ℕ) → i < m → row_sum 2 (d i) n ≡ pos (s i))
        → walk o d x m d' x' 0 n ≡ sum_below o (λ i. times o (s i) (P i)) m
    walk-sum-one P s h r = walk-entries-one (named d x P m n h) ∙ row-digits d x P m n h ∙ scalars-sum o 2 d P s m n r
