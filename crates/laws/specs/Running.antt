-- A sum on its way down the columns of NAF rows in flat memory, with the additions made so far: one row's digit, one column, one place, over any way to read an entry.
use Rattle.std.specs.Prelude.{◌≡◌, ◌⊎◌, ℕ, zero, suc, ◌+◌, ◌-◌, ◌*◌, ◌^◌, ◌<◌, ◌≤◌, length, take, drop, ℤ}
use Rattle.std.proofs.Math.Path.{sym, ap, ap₂}
use Rattle.std.proofs.Common.{◌∙◌, inl, inr, add-zero, add_assoc, mul-suc, mul-le-mul_left, le_trans, eq-or-lt_of_le, le_of_suc-le-suc, arith}
use mathlib.Core.List.{List}
use Rattle.rules.specs.Group.{Ops, total}
use Rattle.rules.specs.Values.{part}
use Rattle.rules.specs.Rows.{digit}
use Rattle.rules.specs.Loops.{down, nonzero, odd_entry, moved, weight, column, walk}
use Rattle.rules.specs.Batch.{slot_digit}
use Rattle.rules.specs.Helpers.{entry_in}
use Rattle.laws.specs.Loops.{down-none, down_turn}
use Rattle.laws.specs.Weight.{column_weight, column-empty, column-row, weight-empty, weight-off, weight-le}
use Rattle.laws.specs.Columns.{column-none, column-more, turn, walk_is}
use Rattle.laws.specs.Parts.{part-is, part_length}

-- a sum and its count
pub record Run (A : Type 0) : Type 0 where
  pub sum : A
  pub additions : ℕ

abbrev pub running : {A : Type 0} → A → ℕ → Run A
running e a = record { sum = e; additions = a }

-- with the entry x of digit d
unfoldable pub onward : {A : Type 0} → Ops A → ℤ → A → Run A → Run A
onward o d x q = running (moved o d q.sum x) (q.additions + nonzero d)

-- with place j of m rows, whose entries are x
unfoldable pub passed : {A : Type 0} → Ops A → List ℤ → (ℕ → ℕ → A) → ℕ → ℕ → Run A → Run A
passed o ds x m j q = running (column o (slot_digit ds) x m j q.sum) (q.additions + column_weight (slot_digit ds) m j)

-- there are m rows with their windows of n limbs, place j is one of theirs, and the additions can be counted
pub record Passable (ds : List ℤ) (ws : List ℕ) (n m j a : ℕ) : Type 0 where
  pub rows : 256 * m ≤ length ds
  pub windows : n * m ≤ length ws
  pub place : j < 256
  pub count : a + column_weight (slot_digit ds) m j < 2 ^ 64

-- n places more below n m
pub room : (n i m k : ℕ) → i < m → n * m ≤ k → n * i + n ≤ k
room n i m k p h = le_trans (rw mul-suc at (mul-le-mul_left n p)) h

-- a sum of fewer is not more
total-grows : (f : ℕ → ℕ) (i m : ℕ) → i < m → total f i + f i ≤ total f m
unfolding total
total-grows f i zero p = absurd (omega arith)
total-grows f i (suc m) p = go (eq-or-lt_of_le (le_of_suc-le-suc p)) (total-grows f i m)
  where
    go : (i ≡ m) ⊎ (i < m) → (i < m → total f i + f i ≤ total f m) → total f i + f i ≤ total f m + f m
    go (inl e) again = rw e (omega arith)
    go (inr q) again = omega (arith, again q)

-- no rows
pub passed_none : {A : Type 0} (o : Ops A) (ds : List ℤ) (x : ℕ → ℕ → A) (j : ℕ) (q : Run A) → q ≡ passed o ds x 0 j q
unfolding passed
passed_none o ds x j q =
    sym (ap₂ running (column-none o (slot_digit ds) x j q.sum)
    (ap (λ (k : ℕ). q.additions + k) (column-empty (slot_digit ds) j) ∙ add-zero q.additions))

-- the loop over the rows of one column: row i's part and its window's part, as they are handed on
module _ {A : Type 0} (o : Ops A) (read : List ℕ → ℕ → A) (ds : List ℤ) (ws : List ℕ) (n j : ℕ) (q : Run A) (i : ℕ) (row : List ℤ) (row_is : row ≡ part 256 i ds)
    (r : Run A) (so_far : r ≡ passed o ds (entry_in read n ws) i j q) where
  digit_is : digit row j ≡ slot_digit ds i j
  unfolding slot_digit
  digit_is = ap (λ (t : List ℤ). digit t j) row_is

  pub passed-row : (window : List ℕ) → window ≡ part n i ws → (r' : Run A) → r' ≡ onward o (digit row j) (read window (odd_entry (digit row j))) r
      → r' ≡ passed o ds (entry_in read n ws) (i + 1) j q
  unfolding passed onward entry_in
  passed-row window window-is r' h =
      h
      ∙ ap₂ (λ (z : ℤ) (w : List ℕ). onward o z (read w (odd_entry z)) r) digit_is window-is
      ∙ ap (onward o (slot_digit ds i j) (read (part n i ws) (odd_entry (slot_digit ds i j)))) so_far
      ∙ sym (ap₂ running (column-more o (slot_digit ds) (entry_in read n ws) i j q.sum)
      (ap (λ (k : ℕ). q.additions + k) (column-row (slot_digit ds) i j)
      ∙ sym (add_assoc q.additions (column_weight (slot_digit ds) i j) (nonzero (slot_digit ds i j)))))

  pub passed-row-fits : (m : ℕ) → i < m → q.additions + column_weight (slot_digit ds) m j < 2 ^ 64 → r.additions + nonzero (digit row j) < 2 ^ 64
  unfolding passed column_weight
  passed-row-fits m p count =
      let a : r.additions ≡ q.additions + total (λ i. nonzero (slot_digit ds i j)) i = ap (λ (x : Run A). x.additions) so_far in
      let g = total-grows (λ i. nonzero (slot_digit ds i j)) i m p in
      rw digit_is (omega (arith, count))

-- the same where the parts are cut out by their ends, of m rows that can be passed
module _ {A : Type 0} (o : Ops A) (read : List ℕ → ℕ → A) (ds : List ℤ) (ws : List ℕ) (n j : ℕ) (q : Run A) where
  abbrev row_part : ℕ → List ℤ
  row_part i = take (256 * i + 256 - 256 * i) (drop (256 * i) ds)

  abbrev window_part : ℕ → List ℕ
  window_part i = take (n * i + n - n * i) (drop (n * i) ws)

  row_is : (i : ℕ) → digit (row_part i) j ≡ slot_digit ds i j
  unfolding slot_digit
  row_is i = ap (λ (r : List ℤ). digit r j) (part-is 256 i ds)

  window-is : (i k : ℕ) → read (window_part i) k ≡ entry_in read n ws i k
  unfolding entry_in
  window-is i k = ap (λ (w : List ℕ). read w k) (part-is n i ws)

  pub passed-more : (i : ℕ) (r r' : Run A) → r ≡ passed o ds (entry_in read n ws) i j q
      → r' ≡ onward o (digit (row_part i) j) (read (window_part i) (odd_entry (digit (row_part i) j))) r → r' ≡ passed o ds (entry_in read n ws) (i + 1) j q
  passed-more i r r' e h = passed-row o read ds ws n j q i (row_part i) (part-is 256 i ds) r e (window_part i) (part-is n i ws) r' h

  pub passed-fits : (i m : ℕ) (r : Run A) → i < m → Passable ds ws n m j q.additions → r ≡ passed o ds (entry_in read n ws) i j q
      → r.additions + nonzero (digit (row_part i) j) < 2 ^ 64
  passed-fits i m r p h e = passed-row-fits o read ds ws n j q i (row_part i) (part-is 256 i ds) r e m p h.count

  pub row-long : (i m : ℕ) → i < m → Passable ds ws n m j q.additions → j < length (row_part i)
  row-long i m p h = rw (part-is 256 i ds, part_length 256 i ds (room 256 i m (length ds) p h.rows)) h.place

-- the loop down n places: m rows with entries x, then m' rows with entries x'
module _ {A : Type 0} (o : Ops A) (ds : List ℤ) (x : ℕ → ℕ → A) (m : ℕ) (ds' : List ℤ) (x' : ℕ → ℕ → A) (m' n : ℕ) where
  abbrev pub whole : A
  whole = walk o (slot_digit ds) x m (slot_digit ds') x' m' n

  abbrev turned : ℕ → A → A
  turned = turn o (slot_digit ds) x m (slot_digit ds') x' m'

  abbrev pub heavy : ℕ → ℕ
  heavy j = weight (slot_digit ds) m j + weight (slot_digit ds') m' j

  -- j places are still to come
  pub record Walking (r : Run A) (j : ℕ) : Type 0 where
    pub place : j ≤ n
    pub rest : whole ≡ down turned j r.sum
    pub count : r.additions + heavy j ≡ heavy n

  pub walking-none : (e : A) → e ≡ o.e → Walking (running e 0) n
  walking-none e h = record {
    place = omega arith;
    rest = walk_is o (slot_digit ds) x m (slot_digit ds') x' m' n ∙ ap (down turned n) (sym h);
    count = omega arith;
  }

  module _ (r : Run A) (j : ℕ) (w : Walking r j) where
    pub walking-more : 0 < j → (e : A) (u s : Run A) → e ≡ o.twice r.sum
        → u ≡ passed o ds x m (j - 1) (running e r.additions) → s ≡ passed o ds' x' m' (j - 1) u → Walking s (j - 1)
    unfolding passed
    walking-more more e u s he hu hs =
        let step : A → A = λ q. column o (slot_digit ds) x m (j - 1) q in
        let step' : A → A = λ q. column o (slot_digit ds') x' m' (j - 1) q in
        let y : u.sum ≡ step (o.twice r.sum) = ap (λ (q : Run A). q.sum) hu ∙ ap step he in
        let z : s.sum ≡ step' (step (o.twice r.sum)) = ap (λ (q : Run A). q.sum) hs ∙ ap step' y in
        let a : u.additions ≡ r.additions + column_weight (slot_digit ds) m (j - 1) = ap (λ (q : Run A). q.additions) hu in
        let b : s.additions ≡ u.additions + column_weight (slot_digit ds') m' (j - 1) = ap (λ (q : Run A). q.additions) hs in
        record {
          place = omega (arith, w.place);
          rest = w.rest ∙ down_turn turned j r.sum more ∙ ap (down turned (j - 1)) (sym z);
          count = omega (arith, w.count, weight-off (slot_digit ds) m j more, weight-off (slot_digit ds') m' j more);
        }

    -- both columns of the next place can be counted, where the rows are there
    module _ (more : 0 < j) (places : n ≤ 256) (rows : 256 * m ≤ length ds) (rows' : 256 * m' ≤ length ds') (small : length ds * 1 < 2 ^ 63)
        (small' : length ds' * 1 < 2 ^ 63) where
      fits : r.additions + column_weight (slot_digit ds) m (j - 1) + column_weight (slot_digit ds') m' (j - 1) < 2 ^ 64
      fits =
          let a : weight (slot_digit ds) m n ≤ m * 256 = le_trans (weight-le (slot_digit ds) m n) (mul-le-mul_left m places) in
          let b : weight (slot_digit ds') m' n ≤ m' * 256 = le_trans (weight-le (slot_digit ds') m' n) (mul-le-mul_left m' places) in
          omega (arith, w.count, weight-off (slot_digit ds) m j more, weight-off (slot_digit ds') m' j more)

      pub walking-counts : r.additions + column_weight (slot_digit ds) m (j - 1) < 2 ^ 64
      walking-counts = omega (arith, fits)

      pub walking-counts' : (e : A) (u : Run A) → u ≡ passed o ds x m (j - 1) (running e r.additions) → u.additions + column_weight (slot_digit ds') m' (j - 1) < 2 ^ 64
      unfolding passed
      walking-counts' e u h =
          let a : u.additions ≡ r.additions + column_weight (slot_digit ds) m (j - 1) = ap (λ (q : Run A). q.additions) h in
          omega (arith, fits)

    -- so both columns can be passed
    module _ (more : 0 < j) (places : n ≤ 256) (rows : 256 * m ≤ length ds) (rows' : 256 * m' ≤ length ds') (small : length ds * 1 < 2 ^ 63)
        (small' : length ds' * 1 < 2 ^ 63) (ws : List ℕ) (k : ℕ) where
      pub walking-passes : k * m ≤ length ws → Passable ds ws k m (j - 1) r.additions
      walking-passes windows = record { rows = rows; windows = windows; place = omega (arith, w.place); count = walking-counts more places rows rows' small small' }

      pub walking-passes' : k * m' ≤ length ws → (e : A) (u : Run A) → u ≡ passed o ds x m (j - 1) (running e r.additions) → Passable ds' ws k m' (j - 1) u.additions
      walking-passes' windows e u h = record { rows = rows'; windows = windows; place = omega (arith, w.place); count = walking-counts' more places rows rows' small small' e u h }

    pub walking-end : j ≡ 0 → (r.sum ≡ whole) × (r.additions ≡ heavy n)
    walking-end e =
        let a : weight (slot_digit ds) m j ≡ 0 = ap (weight (slot_digit ds) m) e ∙ weight-empty (slot_digit ds) m in
        let b : weight (slot_digit ds') m' j ≡ 0 = ap (weight (slot_digit ds') m') e ∙ weight-empty (slot_digit ds') m' in
        (sym (w.rest ∙ ap (λ (i : ℕ). down turned i r.sum) e ∙ down-none turned r.sum), omega (arith, w.count))
