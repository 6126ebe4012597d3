-- A map that carries a group's operations on members carries what is built of them: walks on four limbs to walks on residues.
use Rattle.std.specs.Prelude.{◌≡◌, refl, Bool, ℤ, pos, negsuc, nat_abs, eqb}
use Rattle.std.proofs.Common.{◌∙◌, lt-suc_self, arith}
use Rattle.std.proofs.Math.Path.{ap, ap₂}
use Rattle.std.proofs.Math.Bool.{true, false, cond}
use Prim.Native.Nat.{ℕ, zero, suc, ◌+◌, ◌<◌}
use Rattle.std.proofs.Math.Nat.{le_step}
use Rattle.rules.specs.Group.{Ops}
use Rattle.rules.specs.Loops.{up, down, doubled, odd_entry, moved, column, walk}
use Rattle.rules.specs.Windows.{stepped, successive, selected, selected_odd}
use Rattle.laws.specs.Loops.{up-carry, down-carry}
use Rattle.laws.specs.Columns.{turn}
use Rattle.laws.specs.Walk.{Named}
use Rattle.laws.specs.Buckets.{put, filled, ran, bucket_sum}

-- φ takes members of o's carrier to u's, and the operations with them
pub record Carries {A C : Type 0} (o : Ops A) (u : Ops C) (In : A → Type 0) (φ : A → C) : Type 0 where
  pub e-in : In o.e
  pub op-in : {a b : A} → In a → In b → In (o.op a b)
  pub sub_in : {a b : A} → In a → In b → In (o.sub a b)
  pub twice_in : {a : A} → In a → In (o.twice a)
  pub inv-in : {a : A} → In a → In (o.inv a)
  pub to-e : φ o.e ≡ u.e
  pub to-op : {a b : A} → In a → In b → φ (o.op a b) ≡ u.op (φ a) (φ b)
  pub to-sub : {a b : A} → In a → In b → φ (o.sub a b) ≡ u.sub (φ a) (φ b)
  pub to-twice : {a : A} → In a → φ (o.twice a) ≡ u.twice (φ a)
  pub to_inv : {a : A} → In a → φ (o.inv a) ≡ u.inv (φ a)

module _ {A C : Type 0} {o : Ops A} {u : Ops C} {In : A → Type 0} {φ : A → C} (k : Carries o u In φ) where
  open k use {e-in, op-in, sub_in, twice_in, inv-in, to-e, to-op, to-sub, to-twice, to_inv}

  pub moved-carry : (d : ℤ) {q x : A} → In q → In x → In (moved o d q x) × (φ (moved o d q x) ≡ moved u d (φ q) (φ x))
  unfolding moved
  moved-carry (pos zero) hq hx = (hq, refl)
  moved-carry (pos (suc n)) hq hx = (op-in hq hx, to-op hq hx)
  moved-carry (negsuc n) hq hx = (sub_in hq hx, to-sub hq hx)

  pub doubled-carry : (w : ℕ) {q : A} → In q → In (doubled o w q) × (φ (doubled o w q) ≡ doubled u w (φ q))
  unfolding doubled
  doubled-carry zero h = (h, refl)
  doubled-carry (suc w) h =
      let r = doubled-carry w h in
      (twice_in r.0, to-twice r.0 ∙ ap u.twice r.1)

  pub column-carry : (d : ℕ → ℕ → ℤ) (x : ℕ → ℕ → A) (m j : ℕ) {q : A} → ((i : ℕ) → i < m → In (x i (odd_entry (d i j)))) → In q
      → In (column o d x m j q) × (φ (column o d x m j q) ≡ column u d (λ i k. φ (x i k)) m j (φ q))
  unfolding column
  column-carry d x m j h hq =
      up-carry In φ (λ i r. moved o (d i j) r (x i (odd_entry (d i j)))) (λ i r. moved u (d i j) r (φ (x i (odd_entry (d i j))))) m
      (λ i p r hr. moved-carry (d i j) hr (h i p)) hq

  pub walk-carry : (d : ℕ → ℕ → ℤ) (x : ℕ → ℕ → A) (m : ℕ) (d' : ℕ → ℕ → ℤ) (x' : ℕ → ℕ → A) (m' n : ℕ) → Named In d x m n → Named In d' x' m' n
      → In (walk o d x m d' x' m' n) × (φ (walk o d x m d' x' m' n) ≡ walk u d (λ i k. φ (x i k)) m d' (λ i k. φ (x' i k)) m' n)
  unfolding walk
  walk-carry d x m d' x' m' n h h' =
      let r = down-carry In φ (turn o d x m d' x' m') (turn u d (λ i k. φ (x i k)) m d' (λ i k. φ (x' i k)) m') n step e-in in
      (r.0, r.1 ∙ ap (λ (q : C). down (turn u d (λ i k. φ (x i k)) m d' (λ i k. φ (x' i k)) m') n q) to-e)
    where
      step : (j : ℕ) → j < n → (q : A) → In q
          → In (turn o d x m d' x' m' j q) × (φ (turn o d x m d' x' m' j q) ≡ turn u d (λ i k. φ (x i k)) m d' (λ i k. φ (x' i k)) m' j (φ q))
      step j p q hq =
          let a = column-carry d x m j (λ i a. h i j a p) (twice_in hq) in
          let b = column-carry d' x' m' j (λ i a. h' i j a p) a.0 in (
            b.0,
            b.1
                ∙ ap (λ (r : C). column u d' (λ i k. φ (x' i k)) m' j r) (a.1 ∙ ap (λ (r : C). column u d (λ i k. φ (x i k)) m j r) (to-twice hq)),
          )

  -- windows and lookups
  pub stepped-carry : {s p : A} (n : ℕ) → In s → In p → In (stepped o s p n) × (φ (stepped o s p n) ≡ stepped u (φ s) (φ p) n)
  unfolding stepped
  stepped-carry zero hs hp = (hp, refl)
  stepped-carry {s} (suc n) hs hp =
      let r = stepped-carry n hs hp in
      (op-in r.0 hs, to-op r.0 hs ∙ ap (λ (y : C). u.op y (φ s)) r.1)

  pub successive-carry : {p : A} (n : ℕ) → In p → In (successive o p n) × (φ (successive o p n) ≡ successive u (φ p) n)
  unfolding successive
  successive-carry n h = stepped-carry n h h

  pub selected-carry : (t : ℕ → A) (d : ℤ) → ((i : ℕ) → i < nat_abs d → In (t i)) → In (selected o t d) × (φ (selected o t d) ≡ selected u (λ i. φ (t i)) d)
  unfolding selected
  selected-carry t (pos zero) h = (e-in, to-e)
  selected-carry t (pos (suc n)) h = (h n (lt-suc_self n), refl)
  selected-carry t (negsuc n) h = (inv-in (h n (lt-suc_self n)), to_inv (h n (lt-suc_self n)))

  pub selected_odd-carry : (t : ℕ → A) (d : ℤ) → In (t (odd_entry d)) → In (selected_odd o t d) × (φ (selected_odd o t d) ≡ selected_odd u (λ i. φ (t i)) d)
  unfolding selected_odd
  selected_odd-carry t (pos zero) h = (e-in, to-e)
  selected_odd-carry t (pos (suc n)) h = (h, refl)
  selected_odd-carry t (negsuc n) h = (inv-in h, to_inv h)

  -- buckets
  put-carry : (d : ℤ) (p : A) (b : ℕ → A) (c : ℕ → C) (n : ℕ) → In p → In (b n) → φ (b n) ≡ c n
      → In (put o d p b n) × (φ (put o d p b n) ≡ put u d (φ p) c n)
  unfolding put
  put-carry d p b c n hp hb e = go (eqb (n + 1) (nat_abs d))
    where
      go : (t : Bool) → In (cond t (moved o d (b n) p) (b n)) × (φ (cond t (moved o d (b n) p) (b n)) ≡ cond t (moved u d (c n) (φ p)) (c n))
      go true =
          let r = moved-carry d hb hp in
          (r.0, r.1 ∙ ap (λ (y : C). moved u d y (φ p)) e)
      go false = (hb, e)

  pub filled-carry : (d : ℕ → ℤ) (P : ℕ → A) (m n : ℕ) → ((i : ℕ) → i < m → In (P i))
      → In (filled o d P m n) × (φ (filled o d P m n) ≡ filled u d (λ i. φ (P i)) m n)
  unfolding filled up
  filled-carry d P zero n h = (e-in, to-e)
  filled-carry d P (suc m) n h =
      let r = filled-carry d P m n (λ i p. h i (le_step p)) in
      put-carry (d m) (P m) (filled o d P m) (filled u d (λ i. φ (P i)) m) n (h m (lt-suc_self m)) r.0 r.1

  pub bucket_sum-carry : (b : ℕ → A) (n : ℕ) → ((i : ℕ) → i < n + 1 → In (b i)) → In (bucket_sum o b n) × (φ (bucket_sum o b n) ≡ bucket_sum u (λ i. φ (b i)) n)
  unfolding bucket_sum
  bucket_sum-carry b n h =
      let r = down-carry (λ (s : A × A). In s.0 × In s.1) (λ (s : A × A). (φ s.0, φ s.1)) (ran o b) (ran u (λ i. φ (b i))) n step (h n (omega arith), h n (omega arith)) in
      (r.0.1, ap (λ (s : C × C). s.1) r.1)
    where
      step : (j : ℕ) → j < n → (s : A × A) → In s.0 × In s.1
          → (In (o.op s.0 (b j)) × In (o.op s.1 (o.op s.0 (b j))))
          × (◌≡◌ {A = C × C} (φ (o.op s.0 (b j)), φ (o.op s.1 (o.op s.0 (b j)))) (ran u (λ i. φ (b i)) j (φ s.0, φ s.1)))
      step j p s m =
          let hj = h j (omega (arith, p)) in
          let a = op-in m.0 hj in
          let e : φ (o.op s.0 (b j)) ≡ u.op (φ s.0) (φ (b j)) = to-op m.0 hj in
          ((a, op-in m.1 a), ap₂ (λ (y z : C). (y, z)) e (to-op m.1 a ∙ ap (u.op (φ s.1)) e))
