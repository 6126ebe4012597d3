-- The walk down the columns by buckets, over any group and any cells of u limbs: its loop, how large its counts are, and the sum that it comes to.
use Rattle.std.specs.Prelude.{◌≡◌, refl, List, pos, nat_abs, length}
use Rattle.std.proofs.Common.{sym, ◌∙◌, subst, add-mul, one-mul, zero-mul, mul-zero, mul-le-mul, mul-le-mul_left, sub-add_cancel, arith}
use Rattle.std.proofs.Math.Path.{ap}
use Prim.Native.Nat.{ℕ, zero, suc, ◌+◌, ◌-◌, ◌*◌, ◌/◌, ◌^◌, ◌<◌, ◌≤◌}
use Rattle.std.proofs.Math.Nat.{mul_assoc, mul-add, mul_comm, mul-one}
use Rattle.std.proofs.Math.IntN.{ℤ}
use Rattle.rules.specs.Group.{Ops, sum_below, times, times_z}
use Rattle.rules.specs.Loops.{down, doubled, weight}
use Rattle.rules.specs.Numbers.{cleared}
use Rattle.rules.specs.Rows.{row_sum, used_places}
use Rattle.laws.specs.Group.{Laws}
use Rattle.laws.specs.Loops.{down-none, down_turn, down-carry}
use Rattle.laws.specs.Weight.{column_weight, weight-empty, weight-off, weight-le}
use Rattle.laws.specs.Places.{radix-from}
use Rattle.laws.specs.Buckets.{filled, bucket_sum-ext, buckets-sum}
use Rattle.laws.specs.Carried.{Carries, doubled-carry, filled-carry, bucket_sum-carry}
use Rattle.laws.specs.Cells.{digit_at, column_in, Placed}

-- the widths 6 to 8
by_width : (P : ℕ → Type 0) → P 6 → P 7 → P 8 → (w : ℕ) → 6 ≤ w → w ≤ 8 → P w
by_width P p6 p7 p8 w lo hi =
    let e : 6 + (w - 6) ≡ w = omega arith in
    subst P e (go (w - 6) (omega arith))
  where
    go : (k : ℕ) → k ≤ 2 → P (6 + k)
    go zero h = p6
    go (suc zero) h = p7
    go (suc (suc zero)) h = p8
    go (suc (suc (suc k))) h = absurd (omega arith)

-- their places and their buckets
pub record Wide (w : ℕ) : Type 0 where
  pub some : 1 < used_places w
  pub inside : used_places w ≤ 64
  pub halved : 128 / 2 ^ (8 - w) ≡ 2 ^ (w - 1)
  pub bucket : 1 < 2 ^ (w - 1)
  pub buckets : 2 ^ (w - 1) ≤ 128

pub wide : (w : ℕ) → 6 ≤ w → w ≤ 8 → Wide w
unfolding used_places
wide = by_width Wide (omega arith) (omega arith) (omega arith)

-- from the highest place's column down: w doublings and the next column
module _ {A : Type 0} (o : Ops A) (ds : List ℤ) (P : ℕ → A) (m w : ℕ) where
  unfoldable pub turn_in : ℕ → A → A
  turn_in j q = o.op (doubled o w q) (column_in o ds P m (2 ^ (w - 1)) j)

  unfoldable pub walk_in : A
  walk_in = down turn_in (used_places w - 1) (column_in o ds P m (2 ^ (w - 1)) (used_places w - 1))

-- what it takes in additions with c places and n buckets
unfoldable pub walk_additions : List ℤ → ℕ → ℕ → ℕ → ℕ
walk_additions ds m c n = weight (digit_at ds) m c + c * 2 * (n - 1) + (c - 1)

-- m rows of width w have their buckets at every place, which lie in b limbs
pub record Walkable (u : ℕ) (ds : List ℤ) (m w b : ℕ) : Type 0 where
  pub low : 6 ≤ w
  pub high : w ≤ 8
  pub room : u * 2 ^ (w - 1) ≤ b
  pub placed : (j : ℕ) → j < 64 → Placed u ds m j (u * 2 ^ (w - 1))

-- what a column of n buckets leaves: its sum, the additions made, and the limbs as they were but for the buckets
pub record ColumnMade {A : Type 0} (o : Ops A) (u : ℕ) (ds : List ℤ) (P : ℕ → A) (m j n : ℕ) (l l' : List ℕ) (x : A) (a : ℕ) : Type 0 where
  pub element : x ≡ column_in o ds P m n j
  pub additions : a ≡ column_weight (digit_at ds) m j + 2 * (n - 1)
  pub kept : cleared 0 (u * n) l' ≡ cleared 0 (u * n) l

-- and what the walk leaves
pub record Walked {A : Type 0} (o : Ops A) (u : ℕ) (ds : List ℤ) (P : ℕ → A) (m w : ℕ) (l l' : List ℕ) (x : A) (a d : ℕ) : Type 0 where
  pub element : x ≡ walk_in o ds P m w
  pub additions : a ≡ walk_additions ds m (used_places w) (2 ^ (w - 1))
  pub doublings : d ≡ w * (used_places w - 1)
  pub kept : cleared 0 (u * 2 ^ (w - 1)) l' ≡ cleared 0 (u * 2 ^ (w - 1)) l

-- what a column asks
pub column-asked : {u : ℕ} {ds : List ℤ} {m w b n j : ℕ} → Walkable u ds m w b → n ≡ 2 ^ (w - 1) → j < used_places w → (l : List ℕ) → length l ≡ b
    → Placed u ds m j (u * n) × ((1 < n) × (u * n ≤ length l))
column-asked {w = w} {j = j} h e p l q = let v = wide w h.low h.high in rw (e, q) (h.placed j (omega (arith, v.inside)), (v.bucket, h.room))

additions-le : (ds : List ℤ) (m c n : ℕ) → c ≤ 64 → n ≤ 128 → walk_additions ds m c n ≤ m * 64 + 20000
unfolding walk_additions
additions-le ds m c n hc hn =
    let a : m * c ≤ m * 64 = mul-le-mul_left m hc in
    let b : c * 2 * (n - 1) ≤ 128 * 127 = mul-le-mul {n₁ = c * 2} {m₁ = n - 1} {n₂ = 128} {m₂ = 127} (omega arith) (omega arith) in
    omega (arith, weight-le (digit_at ds) m c)

doublings-le : (w c : ℕ) → w ≤ 8 → c ≤ 64 → w * (c - 1) ≤ 504
doublings-le w c hw hc = mul-le-mul {n₂ = 8} {m₂ = 63} hw (omega arith)

less_one : (j k : ℕ) → 0 < j → j * k ≡ (j - 1) * k + k
less_one j k h = ap (λ (i : ℕ). i * k) (sym (sub-add_cancel h)) ∙ add-mul (j - 1) 1 k ∙ ap (λ (x : ℕ). (j - 1) * k + x) (one-mul k)

module _ {A : Type 0} (o : Ops A) (u : ℕ) (ds : List ℤ) (P : ℕ → A) (m w : ℕ) (l₀ : List ℕ) where
  abbrev N : ℕ
  N = 2 ^ (w - 1)

  -- the additions of the places below j
  abbrev below : ℕ → ℕ
  below j = weight (digit_at ds) m j + j * (2 * (N - 1) + 1)

  -- at place j: what the sum, the counts and the buckets will come to stays
  pub record Going (j : ℕ) (l : List ℕ) (q : A) (a d : ℕ) : Type 0 where
    pub place : j < used_places w
    pub element : down (turn_in o ds P m w) j q ≡ walk_in o ds P m w
    pub additions : a + below j ≡ walk_additions ds m (used_places w) N
    pub doublings : d + w * j ≡ w * (used_places w - 1)
    pub kept : cleared 0 (u * N) l ≡ cleared 0 (u * N) l₀

  pub going_start : {l : List ℕ} {x : A} {a : ℕ} → 0 < used_places w → ColumnMade o u ds P m (used_places w - 1) N l₀ l x a → Going (used_places w - 1) l x a 0
  unfolding walk_in walk_additions
  going_start h c = record {
    place = omega arith;
    element = ap (down (turn_in o ds P m w) (used_places w - 1)) c.element;
    additions =
        omega (arith, c.additions, weight-off (digit_at ds) m (used_places w) h, mul_assoc (used_places w) 2 (N - 1), less_one (used_places w) (2 * (N - 1)) h, mul-add (used_places w - 1) (2 * (N - 1)) 1, mul-one (used_places w - 1));
    doublings = omega arith;
    kept = c.kept;
  }

  pub going-turn : (j : ℕ) {l l' : List ℕ} {q x y : A} {a b d : ℕ} → 0 < j → Going j l q a d → ColumnMade o u ds P m (j - 1) N l l' x b
      → y ≡ o.op (doubled o w q) x → Going (j - 1) l' y (a + (b + 1)) (d + w)
  unfolding turn_in
  going-turn j {q = q} h g c e = record {
    place = omega arith;
    element = rw (e, c.element) (sym (down_turn (turn_in o ds P m w) j q h) ∙ g.element);
    additions = omega (arith, c.additions, g.additions, weight-off (digit_at ds) m j h, less_one j (2 * (N - 1) + 1) h);
    doublings = omega (arith, g.doublings, mul_comm w j, mul_comm w (j - 1), less_one j w h);
    kept = c.kept ∙ g.kept;
  }

  -- its counts are small
  pub going-small : {j : ℕ} {l : List ℕ} {q : A} {a d : ℕ} → 6 ≤ w → w ≤ 8 → Going j l q a d → (a ≤ m * 64 + 20000) × (d ≤ 504)
  going-small lo hi g =
      let v = wide w lo hi in
      (omega (arith, g.additions, additions-le ds m (used_places w) N v.inside v.buckets), omega (arith, g.doublings, doublings-le w (used_places w) hi v.inside))

  pub going_end : (j : ℕ) {l : List ℕ} {q : A} {a d : ℕ} → j ≡ 0 → Going j l q a d → Walked o u ds P m w l₀ l q a d
  going_end j {q = q} z g = record {
    element = sym (ap (λ (i : ℕ). down (turn_in o ds P m w) i q) z ∙ down-none (turn_in o ds P m w) q) ∙ g.element;
    additions = omega (arith, g.additions, ap below z, weight-empty (digit_at ds) m, zero-mul (2 * (N - 1) + 1));
    doublings = omega (arith, g.doublings, ap (λ (i : ℕ). w * i) z, mul-zero w);
    kept = g.kept;
  }

-- a map that carries the operations takes the walk over members Q to the sum of their multiples, where the rows say them and the digits have their buckets
module _ {A C : Type 0} {o : Ops A} {v : Ops C} {In : A → Type 0} {φ : A → C} (k : Carries o v In φ) {Is : C → Type 0} (laws : Laws v Is)
    (ds : List ℤ) (Q : ℕ → A) (s : ℕ → ℕ) (m w : ℕ) (lo : 6 ≤ w) (hi : w ≤ 8) (point-in : (i : ℕ) → i < m → In (Q i)) (members : (i : ℕ) → i < m → Is (φ (Q i)))
    (small : (i j : ℕ) → i < m → nat_abs (digit_at ds i j) ≤ 2 ^ (w - 1)) (row : (i : ℕ) → i < m → row_sum (2 ^ w) (digit_at ds i) (used_places w) ≡ pos (s i)) where
  abbrev P : ℕ → C
  P i = φ (Q i)

  abbrev column : ℕ → A
  column j = column_in o ds Q m (2 ^ (w - 1)) j

  column-in : (j : ℕ) → In (column j) × (φ (column j) ≡ sum_below v (λ i. times_z v (digit_at ds i j) (P i)) m)
  unfolding column_in
  column-in j =
      let d : ℕ → ℤ = λ i. digit_at ds i j in
      let n : ℕ = 2 ^ (w - 1) - 1 in
      let held : (i : ℕ) → In (filled o d Q m i) × (φ (filled o d Q m i) ≡ filled v d P m i) = λ i. filled-carry k d Q m i point-in in
      let b = bucket_sum-carry k (filled o d Q m) n (λ i p. (held i).0) in (
        b.0,
        b.1
            ∙ bucket_sum-ext v (λ i. φ (filled o d Q m i)) (filled v d P m) n (λ i p. (held i).1)
            ∙ buckets-sum laws d P m n (λ i p. omega (arith, small i j p, (wide w lo hi).bucket)) members,
      )

  step : ℕ → C → C
  step j q = v.op (doubled v w q) (φ (column j))

  pub bucket-walk : φ (walk_in o ds Q m w) ≡ sum_below v (λ i. times v (s i) (P i)) m
  unfolding walk_in turn_in step
  bucket-walk =
      let c : used_places w - 1 + 1 ≡ used_places w = omega (arith, (wide w lo hi).some) in
      (down-carry In φ (turn_in o ds Q m w) step (used_places w - 1)
      (λ j p q hq.
      let a = doubled-carry k w hq in
      (k.op-in a.0 (column-in j).0, k.to-op a.0 (column-in j).0 ∙ ap (λ (x : C). v.op x (φ (column j))) a.1))
      (column-in (used_places w - 1)).0).1
      ∙ radix-from laws w (digit_at ds) P s m (λ j. φ (column j)) step (used_places w - 1) members (λ j p r hr. refl) (λ j p. (column-in j).1)
      (λ i p. rw c (row i p))
