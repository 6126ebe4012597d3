-- From the highest place down, q taken to B q + c j: what it sums to. Rows of digits times points.
use Rattle.std.specs.Prelude.{◌≡◌, ℤ, pos, ◌*ℤ◌}
use Rattle.std.proofs.Math.Path.{refl, sym, ap, ap₂}
use Rattle.std.proofs.Common.{◌∙◌, pow-suc, lt-suc_self, arith}
use Prim.Native.Nat.{ℕ, zero, suc, ◌+◌, ◌^◌, ◌<◌, ◌≤◌}
use Rattle.std.proofs.Math.Nat.{pow-zero, pow-succ', le_step}
use Rattle.std.proofs.Math.IntN.{*ℤ-zero}
use Rattle.rules.specs.Group.{Ops, times, times_z, sum_below}
use Rattle.rules.specs.Loops.{up, down, doubled}
use Rattle.rules.specs.Rows.{row_sum}
use Rattle.laws.specs.Group.{Laws, idr, twice_in}
use Rattle.laws.specs.Multiples.{times-in, times-one, times-two, times-op, times-mul, times-e, times_z-in, times_z-add, times_z-scale, times_z-pos}
use Rattle.laws.specs.Sums.{sum_more, sum-ext, sum-in, sum-swap, sum-times, sum_top}
use Rattle.laws.specs.Integers.{integers-laws}

module _ {A : Type 0} {o : Ops A} {In : A → Type 0} (l : Laws o In) where
  open o use {op as ◌⊕◌, e}
  open l use {e-in, op-in, assoc, comm, idl, twice-is}

  infixl 6 ◌⊕◌
  -- turns that each add a term
  pub up-sum : (t : ℕ → A) (f : ℕ → A → A) {q : A} (n : ℕ) → ((i : ℕ) → i < n → In (t i)) → ((i : ℕ) → i < n → (r : A) → In r → f i r ≡ r ⊕ t i)
      → In q → up f n q ≡ q ⊕ sum_below o t n
  unfolding up sum_below
  up-sum t f zero ht hf hq = sym (idr l hq)
  up-sum t f {q} (suc n) ht hf hq =
      ap (f n) (up-sum t f n (λ i p. ht i (le_step p)) (λ i p. hf i (le_step p)) hq)
      ∙ hf n (lt-suc_self n) (q ⊕ sum_below o t n) (op-in hq hs)
      ∙ assoc hq hs (ht n (lt-suc_self n))
    where
      hs : In (sum_below o t n)
      hs = sum-in l n (λ i p. ht i (le_step p))

  -- turns that each take q to B q + c j, from any start
  pub down-sum : (B : ℕ) (c : ℕ → A) (f : ℕ → A → A) {q : A} (n : ℕ) → ((j : ℕ) → j < n → In (c j))
      → ((j : ℕ) → j < n → (r : A) → In r → f j r ≡ times o B r ⊕ c j)
      → In q → down f n q ≡ times o (B ^ n) q ⊕ sum_below o (λ j. times o (B ^ j) (c j)) n
  unfolding down sum_below
  down-sum B c f {q} zero hc hf hq = sym (idr l (times-in l (B ^ 0) hq) ∙ ap (λ (k : ℕ). times o k q) (pow-zero B) ∙ times-one l hq)
  down-sum B c f {q} (suc n) hc hf hq =
      ap (down f n) (hf n (lt-suc_self n) q hq)
      ∙ down-sum B c f {q = times o B q ⊕ c n} n (λ j p. hc j (le_step p)) (λ j p. hf j (le_step p)) (op-in h_b hn)
      ∙ ap (λ x. x ⊕ S) (times-op l (B ^ n) h_b hn)
      ∙ assoc (times-in l (B ^ n) h_b) (times-in l (B ^ n) hn) h_s
      ∙ ap₂ ◌⊕◌ (sym (times-mul l (B ^ n) B hq) ∙ ap (λ (k : ℕ). times o k q) (sym (pow-suc B n))) (comm (times-in l (B ^ n) hn) h_s)
    where
      S : A
      S = sum_below o (λ j. times o (B ^ j) (c j)) n

      hn : In (c n)
      hn = hc n (lt-suc_self n)

      h_b : In (times o B q)
      h_b = times-in l B hq

      h_s : In S
      h_s = sum-in l n (λ j p. times-in l (B ^ j) (hc j (le_step p)))

  pub doubled-in : (w : ℕ) {q : A} → In q → In (doubled o w q)
  unfolding doubled
  doubled-in zero h = h
  doubled-in (suc w) h = twice_in l (doubled-in w h)

  pub doubled-is : (w : ℕ) {q : A} → In q → doubled o w q ≡ times o (2 ^ w) q
  unfolding doubled
  doubled-is zero h = sym (times-one l h)
  doubled-is (suc w) {q} h =
      twice-is (doubled-in w h)
      ∙ sym (times-two l (doubled-in w h))
      ∙ ap (times o 2) (doubled-is w h)
      ∙ sym (times-mul l 2 (2 ^ w) h)
      ∙ ap (λ (n : ℕ). times o n q) (sym (pow-succ' 2 w))

  -- w doublings and a column at each of n places
  pub places-sum : (w : ℕ) (c : ℕ → A) (f : ℕ → A → A) (n : ℕ) → ((j : ℕ) → j < n → In (c j))
      → ((j : ℕ) → j < n → (r : A) → In r → f j r ≡ doubled o w r ⊕ c j)
      → down f n e ≡ sum_below o (λ j. times o ((2 ^ w) ^ j) (c j)) n
  places-sum w c f n h step =
      down-sum (2 ^ w) c f n h (λ j p r hr. step j p r hr ∙ ap (λ x. x ⊕ c j) (doubled-is w hr)) e-in
      ∙ ap (λ x. x ⊕ sum_below o (λ j. times o ((2 ^ w) ^ j) (c j)) n) (times-e l ((2 ^ w) ^ n))
      ∙ idl (sum-in l n (λ j p. times-in l ((2 ^ w) ^ j) (h j p)))

  -- the same, started from the highest column as it is
  pub places-from : (w : ℕ) (c : ℕ → A) (f : ℕ → A → A) (n : ℕ) → ((j : ℕ) → j < n + 1 → In (c j))
      → ((j : ℕ) → j < n → (r : A) → In r → f j r ≡ doubled o w r ⊕ c j)
      → down f n (c n) ≡ sum_below o (λ j. times o ((2 ^ w) ^ j) (c j)) (n + 1)
  places-from w c f n h step =
      down-sum (2 ^ w) c f n below (λ j p r hr. step j p r hr ∙ ap (λ x. x ⊕ c j) (doubled-is w hr)) hn
      ∙ comm (times-in l ((2 ^ w) ^ n) hn) (sum-in l n (λ j p. times-in l ((2 ^ w) ^ j) (below j p)))
      ∙ sym (sum_more o (λ j. times o ((2 ^ w) ^ j) (c j)) n)
    where
      below : (j : ℕ) → j < n → In (c j)
      below j p = h j (omega (arith, p))

      hn : In (c n)
      hn = h n (omega arith)

  -- a row's weighted sum times a point, place by place
  pub row-times : (B : ℕ) (d : ℕ → ℤ) (n : ℕ) {p : A} → In p → times_z o (row_sum B d n) p ≡ sum_below o (λ j. times o (B ^ j) (times_z o (d j) p)) n
  unfolding row_sum sum_below
  row-times B d zero {p} h = times_z-pos o 0 p ∙ unfold times in refl
  row-times B d (suc n) {p} h =
      times_z-add l (row_sum B d n) (pos (B ^ n) *ℤ d n) h ∙ ap₂ ◌⊕◌ (row-times B d n h) (times_z-scale l (B ^ n) (d n) h)

  -- columns, each at its place, row by row
  pub columns-sum : (B : ℕ) (t : ℕ → ℕ → A) (m n : ℕ) → ((i j : ℕ) → i < m → j < n → In (t i j))
      → sum_below o (λ j. times o (B ^ j) (sum_below o (λ i. t i j) m)) n ≡ sum_below o (λ i. sum_below o (λ j. times o (B ^ j) (t i j)) n) m
  columns-sum B t m n h =
      sum-ext o n (λ j q. sum-times l (B ^ j) m (λ i p. h i j p q))
      ∙ sym (sum-swap l (λ i j. times o (B ^ j) (t i j)) m n (λ i j p q. times-in l (B ^ j) (h i j p q)))

  -- columns of digits times points: every point as often as its row says
  pub digits_sum : (B : ℕ) (d : ℕ → ℕ → ℤ) (P : ℕ → A) (m n : ℕ) → ((i : ℕ) → i < m → In (P i))
      → sum_below o (λ j. times o (B ^ j) (sum_below o (λ i. times_z o (d i j) (P i)) m)) n ≡ sum_below o (λ i. times_z o (row_sum B (d i) n) (P i)) m
  digits_sum B d P m n h =
      columns-sum B (λ i j. times_z o (d i j) (P i)) m n (λ i j p q. times_z-in l (d i j) (h i p))
      ∙ sum-ext o m (λ i p. sym (row-times B (d i) n (h i p)))

-- top digits that are 0 may be left out
pub row_sum-top : (B : ℕ) (d : ℕ → ℤ) (k n : ℕ) → k ≤ n → ((j : ℕ) → k ≤ j → j < n → d j ≡ pos 0) → row_sum B d n ≡ row_sum B d k
unfolding row_sum
row_sum-top B d k n le h =
    sum_top integers-laws k n le (λ j p. tt) (λ j a b. ap (λ (z : ℤ). pos (B ^ j) *ℤ z) (h j a b) ∙ *ℤ-zero (pos (B ^ j)))

-- where each row's weighted sum is its scalar
pub scalars-sum : {A : Type 0} (o : Ops A) (B : ℕ) (d : ℕ → ℕ → ℤ) (P : ℕ → A) (s : ℕ → ℕ) (m n : ℕ) → ((i : ℕ) → i < m → row_sum B (d i) n ≡ pos (s i))
    → sum_below o (λ i. times_z o (row_sum B (d i) n) (P i)) m ≡ sum_below o (λ i. times o (s i) (P i)) m
scalars-sum o B d P s m n h = sum-ext o m (λ i p. ap (λ (z : ℤ). times_z o z (P i)) (h i p) ∙ times_z-pos o (s i) (P i))

-- radix rows, w doublings and a column at each place: the sum of the scalars times the points
module _ {A : Type 0} {o : Ops A} {In : A → Type 0} (l : Laws o In) (w : ℕ) (d : ℕ → ℕ → ℤ) (P : ℕ → A) (s : ℕ → ℕ) (m : ℕ) (c : ℕ → A) (f : ℕ → A → A) (n : ℕ)
    (point-in : (i : ℕ) → i < m → In (P i)) (step : (j : ℕ) → j < n → (r : A) → In r → f j r ≡ o.op (doubled o w r) (c j)) where
  column-in : {j : ℕ} → c j ≡ sum_below o (λ i. times_z o (d i j) (P i)) m → In (c j)
  column-in {j} e = rw e (sum-in l m (λ i p. times_z-in l (d i j) (point-in i p)))

  pub radix-sum : ((j : ℕ) → j < n → c j ≡ sum_below o (λ i. times_z o (d i j) (P i)) m) → ((i : ℕ) → i < m → row_sum (2 ^ w) (d i) n ≡ pos (s i))
      → down f n o.e ≡ sum_below o (λ i. times o (s i) (P i)) m
  radix-sum column row =
      places-sum l w c f n (λ j p. column-in (column j p)) step
      ∙ sum-ext o n (λ j p. ap (times o ((2 ^ w) ^ j)) (column j p))
      ∙ digits_sum l (2 ^ w) d P m n point-in
      ∙ scalars-sum o (2 ^ w) d P s m n row

  pub radix-from : ((j : ℕ) → j < n + 1 → c j ≡ sum_below o (λ i. times_z o (d i j) (P i)) m) → ((i : ℕ) → i < m → row_sum (2 ^ w) (d i) (n + 1) ≡ pos (s i))
      → down f n (c n) ≡ sum_below o (λ i. times o (s i) (P i)) m
  radix-from column row =
      places-from l w c f n (λ j p. column-in (column j p)) step
      ∙ sum-ext o (n + 1) (λ j p. ap (times o ((2 ^ w) ^ j)) (column j p))
      ∙ digits_sum l (2 ^ w) d P m (n + 1) point-in
      ∙ scalars-sum o (2 ^ w) d P s m (n + 1) row
