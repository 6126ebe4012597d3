-- Buckets in flat limbs, over any group and any cells: points put by the digits of rows of 64, what that does to the elements, and what it leaves as it was.
use Rattle.std.specs.Prelude.{◌≡◌, List, ℤ, pos, negsuc, eqb}
use Rattle.std.proofs.Math.Path.{refl, sym, ap}
use Rattle.std.proofs.Common.{◌∙◌, lt-suc_self, mul-suc, arith}
use Rattle.std.proofs.Math.Bool.{cond}
use Prim.Native.Nat.{ℕ, zero, suc, ◌+◌, ◌-◌, ◌*◌, ◌<◌, ◌≤◌}
use Rattle.std.proofs.Math.Nat.{le_step, le_trans}
use Rattle.std.proofs.Math.Decide.{ℕ_discrete}
use Rattle.std.proofs.Math.IntN.{nat_abs}
use Rattle.std.proofs.Math.ListN.{length}
use Rattle.rules.specs.Group.{Ops}
use Rattle.rules.specs.Loops.{up, moved}
use Rattle.rules.specs.Values.{part}
use Rattle.rules.specs.Rows.{digit}
use Rattle.rules.specs.Numbers.{cleared}
use Rattle.laws.specs.Buckets.{put, put-here, put_other, filled, bucket_sum, bucket_sum-ext}

-- digit j of row i, in rows of 64
unfoldable pub digit_at : List ℤ → ℕ → ℕ → ℤ
digit_at ds i j = digit (part 64 i ds) j

-- elements of u limbs in flat limbs: one that is stored is read, the others stay, and so does all that is not to be cleared
pub record Cells {A : Type 0} (read : List ℕ → ℕ → A) (store : List ℕ → ℕ → A → List ℕ) (u : ℕ) : Type 0 where
  pub here : (l : List ℕ) (k : ℕ) (e : A) → u * k + u ≤ length l → read (store l k e) k ≡ e
  pub other : (l : List ℕ) (k : ℕ) (e : A) → u * k + u ≤ length l → (i : ℕ) → (i ≡ k → ⊥) → read (store l k e) i ≡ read l i
  pub long : (l : List ℕ) (k : ℕ) (e : A) → u * k + u ≤ length l → length (store l k e) ≡ length l
  pub kept : (l : List ℕ) (k : ℕ) (e : A) → u * k + u ≤ length l → (b : ℕ) → u * k + u ≤ b → cleared 0 b (store l k e) ≡ cleared 0 b l

module _ {A : Type 0} (o : Ops A) (read : List ℕ → ℕ → A) (store : List ℕ → ℕ → A → List ℕ) where
  -- the point p put by the digit d into bucket |d| - 1: added, taken away where d is negative; nowhere where d is 0
  unfoldable pub put_in : ℤ → A → List ℕ → List ℕ
  put_in (pos zero) p l = l
  put_in (pos (suc k)) p l = store l k (o.op (read l k) p)
  put_in (negsuc k) p l = store l k (o.sub (read l k) p)

  -- the first m points put by place j of their rows
  unfoldable pub put_rows_in : List ℤ → (ℕ → A) → ℕ → ℕ → List ℕ → List ℕ
  put_rows_in ds P j m l = up (λ i b. put_in (digit_at ds i j) (P i) b) m l

-- m rows lie in flat memory, and the digits at place j have their buckets, of u limbs each, among the first b limbs
pub record Placed (u : ℕ) (ds : List ℤ) (m j b : ℕ) : Type 0 where
  pub rows : 64 * m ≤ length ds
  pub place : j < 64
  pub small : (i : ℕ) → i < m → u * nat_abs (digit_at ds i j) ≤ b

-- place j of m rows by n buckets
unfoldable pub column_in : {A : Type 0} → Ops A → List ℤ → (ℕ → A) → ℕ → ℕ → ℕ → A
column_in o ds P m n j = bucket_sum o (filled o (λ i. digit_at ds i j) P m) (n - 1)

module _ {A : Type 0} (o : Ops A) (read : List ℕ → ℕ → A) (store : List ℕ → ℕ → A → List ℕ) (u : ℕ) (cells : Cells read store u) where
  -- the cell of a digit that is not 0
  cell : (k b : ℕ) → u * suc k ≤ b → u * k + u ≤ b
  cell k b h = rw mul-suc at h

  -- a point put by its digit
  module _ (d : ℤ) (p : A) (l : List ℕ) (room : u * nat_abs d ≤ length l) where
    put-at : (i : ℕ) → read (put_in o read store d p l) i ≡ put o d p (read l) i
    unfolding put_in moved
    put-at = go d room
      where
        into : (d : ℤ) (k : ℕ) → nat_abs d ≡ k + 1 → u * k + u ≤ length l → (i : ℕ)
            → read (store l k (moved o d (read l k) p)) i ≡ put o d p (read l) i
        into d k n h i = which (ℕ_discrete i k)
          where
            which : Dec (i ≡ k) → read (store l k (moved o d (read l k) p)) i ≡ put o d p (read l) i
            which (yes q) = rw q (cells.here l k _ h ∙ sym (put-here o d p (read l) k (sym n)))
            which (no ne) = cells.other l k _ h i ne ∙ sym (put_other o d p (read l) i (λ q. ne (omega (arith, q))))

        go : (d : ℤ) → u * nat_abs d ≤ length l → (i : ℕ) → read (put_in o read store d p l) i ≡ put o d p (read l) i
        go (pos zero) h i = sym (put_other o (pos 0) p (read l) i (λ q. omega (arith, q)))
        go (pos (suc k)) h i = into (pos (suc k)) k (omega arith) (cell k (length l) h) i
        go (negsuc k) h i = into (negsuc k) k (omega arith) (cell k (length l) h) i

    put-length : length (put_in o read store d p l) ≡ length l
    unfolding put_in
    put-length = go d room
      where
        go : (d : ℤ) → u * nat_abs d ≤ length l → length (put_in o read store d p l) ≡ length l
        go (pos zero) h = refl
        go (pos (suc k)) h = cells.long l k _ (cell k (length l) h)
        go (negsuc k) h = cells.long l k _ (cell k (length l) h)

    put-cleared : (b : ℕ) → u * nat_abs d ≤ b → cleared 0 b (put_in o read store d p l) ≡ cleared 0 b l
    unfolding put_in
    put-cleared b = go d room
      where
        go : (d : ℤ) → u * nat_abs d ≤ length l → u * nat_abs d ≤ b → cleared 0 b (put_in o read store d p l) ≡ cleared 0 b l
        go (pos zero) g h = refl
        go (pos (suc k)) g h = cells.kept l k _ (cell k (length l) g) b (cell k b h)
        go (negsuc k) g h = cells.kept l k _ (cell k (length l) g) b (cell k b h)

  -- the points of a column put
  module _ (ds : List ℤ) (P : ℕ → A) (j : ℕ) (l : List ℕ) where
    rows-length : (m : ℕ) → ((i : ℕ) → i < m → u * nat_abs (digit_at ds i j) ≤ length l) → length (put_rows_in o read store ds P j m l) ≡ length l
    unfolding put_rows_in up
    rows-length zero h = refl
    rows-length (suc m) h =
        let e = rows-length m (λ i p. h i (le_step p)) in
        put-length (digit_at ds m j) (P m) (put_rows_in o read store ds P j m l) (rw e (h m (lt-suc_self m))) ∙ e

    rows-cleared : (m b : ℕ) → ((i : ℕ) → i < m → u * nat_abs (digit_at ds i j) ≤ b) → b ≤ length l → cleared 0 b (put_rows_in o read store ds P j m l) ≡ cleared 0 b l
    unfolding put_rows_in up
    rows-cleared zero b h g = refl
    rows-cleared (suc m) b h g =
        let e = rows-length m (λ i p. le_trans (h i (le_step p)) g) in
        put-cleared (digit_at ds m j) (P m) (put_rows_in o read store ds P j m l) (rw e (le_trans (h m (lt-suc_self m)) g)) b (h m (lt-suc_self m)) ∙ rows-cleared m b (λ i p. h i (le_step p)) g

    -- a bucket that was empty
    rows_at : (m : ℕ) → ((i : ℕ) → i < m → u * nat_abs (digit_at ds i j) ≤ length l) → (k : ℕ) → read l k ≡ o.e
        → read (put_rows_in o read store ds P j m l) k ≡ filled o (λ i. digit_at ds i j) P m k
    unfolding put_rows_in filled up put
    rows_at zero h k e = e
    rows_at (suc m) h k e =
        put-at (digit_at ds m j) (P m) (put_rows_in o read store ds P j m l) (rw (rows-length m (λ i p. h i (le_step p))) (h m (lt-suc_self m))) k
        ∙ ap (λ (x : A). cond (eqb (k + 1) (nat_abs (digit_at ds m j))) (moved o (digit_at ds m j) x (P m)) x) (rows_at m (λ i p. h i (le_step p)) k e)

  -- a column: n buckets emptied in l, the points put, the buckets summed
  module _ {ds : List ℤ} (P : ℕ → A) {m j : ℕ} (n : ℕ) (l l₁ : List ℕ) (h : Placed u ds m j (u * n)) (room : u * n ≤ length l)
      (long : length l₁ ≡ length l) where
    inside : (i : ℕ) → i < m → u * nat_abs (digit_at ds i j) ≤ length l₁
    inside i p = rw long (le_trans (h.small i p) room)

    pub column-placed : Placed u ds m j (length l₁)
    column-placed = record { rows = h.rows; place = h.place; small = inside }

    pub column-is : ((k : ℕ) → k < n → read l₁ k ≡ o.e) → {l₂ : List ℕ} {x : A} → 1 < n → l₂ ≡ put_rows_in o read store ds P j m l₁ → x ≡ bucket_sum o (read l₂) (n - 1)
        → x ≡ column_in o ds P m n j
    unfolding column_in
    column-is empty {l₂} some e₂ e =
        e ∙ bucket_sum-ext o (read l₂) (filled o (λ i. digit_at ds i j) P m) (n - 1) (λ k p. rw e₂ (rows_at ds P j l₁ m inside k (empty k (omega (arith, p)))))

    pub column-cleared : cleared 0 (u * n) l₁ ≡ cleared 0 (u * n) l → {l₂ : List ℕ} → l₂ ≡ put_rows_in o read store ds P j m l₁ → cleared 0 (u * n) l₂ ≡ cleared 0 (u * n) l
    column-cleared same e₂ = rw e₂ (rows-cleared ds P j l₁ m (u * n) h.small (rw long room) ∙ same)
