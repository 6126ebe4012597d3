-- The radix walk: from the highest place down w doublings, then every row's entry at that place, also where its digit is 0.
-- Where each entry is its digit times its point, it gives the sum of the scalars times the points.
use Rattle.std.specs.Prelude.{◌≡◌, refl, ℕ, ◌+◌, ◌^◌, ◌<◌, ◌≤◌, ℤ, pos}
use Rattle.std.proofs.Common.{sym, ◌∙◌, lt_of_lt_of_le, arith}
use Rattle.std.proofs.Math.Path.{ap}
use Rattle.rules.specs.Group.{Ops, times, times_z, sum_below}
use Rattle.rules.specs.Loops.{up, down, doubled}
use Rattle.rules.specs.Rows.{row_sum}
use Rattle.laws.specs.Group.{Laws}
use Rattle.laws.specs.Multiples.{times_z-in}
use Rattle.laws.specs.Sums.{sum-in}
use Rattle.laws.specs.Loops.{up-carry, down-carry}
use Rattle.laws.specs.Places.{up-sum, doubled-in, radix-sum, radix-from}
use Rattle.laws.specs.Carried.{Carries, doubled-carry}

-- entry t i j of row i at place j
module _ {A : Type 0} (o : Ops A) (t : ℕ → ℕ → A) (m : ℕ) where
  -- place j of the first m rows, on top of q
  unfoldable pub radix_column : ℕ → A → A
  radix_column j q = up (λ i r. o.op r (t i j)) m q

  -- w doublings, then place j
  abbrev pub radix_turn : ℕ → ℕ → A → A
  radix_turn w j q = radix_column j (doubled o w q)

-- entries that are multiples of points
module _ {C : Type 0} {u : Ops C} {In : C → Type 0} (l : Laws u In) (w : ℕ) (d : ℕ → ℕ → ℤ) (P : ℕ → C) (s : ℕ → ℕ) (m : ℕ) (point-in : (i : ℕ) → i < m → In (P i)) where
  abbrev multiple : ℕ → ℕ → C
  multiple i j = times_z u (d i j) (P i)

  abbrev placed : ℕ → C
  placed j = sum_below u (λ i. multiple i j) m

  placed-is : (j : ℕ) {q : C} → In q → radix_column u multiple m j q ≡ u.op q (placed j)
  unfolding radix_column
  placed-is j h = up-sum l (λ i. multiple i j) (λ i r. u.op r (multiple i j)) m (λ i p. times_z-in l (d i j) (point-in i p)) (λ i p r _. refl) h

  walk-sum : (n : ℕ) → ((i : ℕ) → i < m → row_sum (2 ^ w) (d i) n ≡ pos (s i)) → down (radix_turn u multiple m w) n u.e ≡ sum_below u (λ i. times u (s i) (P i)) m
  walk-sum n row = radix-sum l w d P s m placed (radix_turn u multiple m w) n point-in (λ j _ r h. placed-is j (doubled-in l w h)) (λ j _. refl) row

  walk_from : (n : ℕ) → ((i : ℕ) → i < m → row_sum (2 ^ w) (d i) (n + 1) ≡ pos (s i))
      → down (radix_turn u multiple m w) n (radix_column u multiple m n u.e) ≡ sum_below u (λ i. times u (s i) (P i)) m
  walk_from n row =
      ap (down (radix_turn u multiple m w) n) (placed-is n l.e-in ∙ l.idl (sum-in l m (λ i p. times_z-in l (d i n) (point-in i p))))
      ∙ radix-from l w d P s m placed (radix_turn u multiple m w) n point-in (λ j _ r h. placed-is j (doubled-in l w h)) (λ j _. refl) row

-- a map that carries the operations and the entries carries the walk
module _ {A C : Type 0} {o : Ops A} {u : Ops C} {In : A → Type 0} {φ : A → C} (k : Carries o u In φ) (w : ℕ) (t : ℕ → ℕ → A) (v : ℕ → ℕ → C) (m n : ℕ)
    (entry : (i j : ℕ) → i < m → j < n → In (t i j) × (φ (t i j) ≡ v i j)) where
  column-carry : (j : ℕ) → j < n → {q : A} → In q → In (radix_column o t m j q) × (φ (radix_column o t m j q) ≡ radix_column u v m j (φ q))
  unfolding radix_column
  column-carry j p h =
      up-carry In φ (λ i r. o.op r (t i j)) (λ i r. u.op r (v i j)) m
      (λ i a r hr.
      let e = entry i j a p in
      (k.op-in hr e.0, k.to-op hr e.0 ∙ ap (u.op (φ r)) e.1))
      h

  places-carry : (i : ℕ) → i ≤ n → {q : A} → In q → In (down (radix_turn o t m w) i q) × (φ (down (radix_turn o t m w) i q) ≡ down (radix_turn u v m w) i (φ q))
  places-carry i le h =
      down-carry In φ (radix_turn o t m w) (radix_turn u v m w) i
      (λ j p r hr.
      let a = doubled-carry k w hr in
      let b = column-carry j (lt_of_lt_of_le p le) a.0 in
      (b.0, b.1 ∙ ap (λ (x : C). radix_column u v m j x) a.1))
      h

-- both at once: from the identity, and from the highest column
module _ {A C : Type 0} {o : Ops A} {u : Ops C} {In : A → Type 0} {Un : C → Type 0} {φ : A → C} (k : Carries o u In φ) (l : Laws u Un) (w : ℕ) (t : ℕ → ℕ → A)
    (d : ℕ → ℕ → ℤ) (P : ℕ → C) (s : ℕ → ℕ) (m n : ℕ) (point-in : (i : ℕ) → i < m → Un (P i))
    (entry : (i j : ℕ) → i < m → j < n → In (t i j) × (φ (t i j) ≡ times_z u (d i j) (P i))) (row : (i : ℕ) → i < m → row_sum (2 ^ w) (d i) n ≡ pos (s i)) where
  pub radix-walk : φ (down (radix_turn o t m w) n o.e) ≡ sum_below u (λ i. times u (s i) (P i)) m
  radix-walk =
      (places-carry k w t (λ i j. times_z u (d i j) (P i)) m n entry n (omega arith) k.e-in).1
      ∙ ap (down (radix_turn u (λ i j. times_z u (d i j) (P i)) m w) n) k.to-e
      ∙ walk-sum l w d P s m point-in n row

  pub radix-walk-from : (b : ℕ) → n ≡ b + 1 → φ (down (radix_turn o t m w) b (radix_column o t m b o.e)) ≡ sum_below u (λ i. times u (s i) (P i)) m
  radix-walk-from b e =
      let v : ℕ → ℕ → C = λ i j. times_z u (d i j) (P i) in
      let a = column-carry k w t v m n entry b (omega arith) k.e-in in
      (places-carry k w t v m n entry b (omega arith) a.0).1
      ∙ ap (down (radix_turn u v m w) b) (a.1 ∙ ap (λ (x : C). radix_column u v m b x) k.to-e)
      ∙ walk_from l w d P s m point-in b (λ i p. ap (row_sum (2 ^ w) (d i)) (sym e) ∙ row i p)
