-- Slots that hold NAF rows and windows of odd multiples: their digits, their entries, and what these sum to.
use mathlib.Core.Path.{◌≡◌, refl, sym, ap, ap₂, ◌∙◌}
use mathlib.Core.List.{List}
use Prim.Native.Nat.{ℕ, ◌+◌, ◌-◌, ◌*◌, ◌%◌, ◌^◌, ◌<◌, ◌≤◌}
use native.Mathlib.Nat.{add-mod, min-eq_left, lt_of_lt_of_le}
use native.Mathlib.Omega.{arith}
use lib.IntN.{ℤ, pos}
use lib.Dec.{lit≤}
use lib.Pow.{pow_pos}
use Rattle.rules.specs.Values.{element_of, part, flat, point_at}
use Rattle.rules.specs.Group.{L, residues, total}
use Rattle.rules.specs.Loops.{odd_entry, weight}
use Rattle.rules.specs.Numbers.{row_bound}
use Rattle.rules.specs.Rows.{digit, row_sum, naf_row}
use Rattle.rules.specs.Windows.{odd, limbs_flat}
use Rattle.rules.specs.Batch.{slot_digit}
use Rattle.rules.specs.Engines.{entry_sum, entry_at}
use Rattle.rules.specs.Helpers.{windowed_rows, walked}
use Rattle.laws.specs.Parts.{flat-length, flat-part}
use Rattle.laws.specs.Weight.{weight-ext, weight-top}
use Rattle.laws.specs.Windows.{odd-in}
use Rattle.laws.specs.Walk.{Named, Windowed}
use Rattle.laws.specs.NafRows.{naf-length, naf-digit-odd, naf-entry}
use Rattle.laws.specs.RowsRule.{naf-obeys}
use Rattle.residue.proofs.Laws.{group}
use Rattle.window.proofs.Flat.{limbs-length, limbs-at}
use Rattle.columns.proofs.Entries.{entries-sum, entries-ext, entries-top}
use Rattle.columns.proofs.Walked.{rows_are, took, walked-entries}

-- rows of width w, one after the other
module _ (w : ℕ) (s : ℕ → ℕ) (m : ℕ) where
  abbrev pub naf_rows : List ℤ
  naf_rows = flat (λ i. naf_row w (s i)) m

  row_at : (i : ℕ) → i < m → part 256 i naf_rows ≡ naf_row w (s i)
  row_at i p = flat-part 256 (λ i. naf_row w (s i)) m i (λ i p. naf-length w (s i)) p

  pub slot-digit : (i j : ℕ) → i < m → slot_digit naf_rows i j ≡ digit (naf_row w (s i)) j
  unfolding slot_digit
  slot-digit i j p = ap (λ (r : List ℤ). digit r j) (row_at i p)

  pub slot-weight : (n : ℕ) → weight (slot_digit naf_rows) m n ≡ weight (λ i j. digit (naf_row w (s i)) j) m n
  slot-weight n = weight-ext (slot_digit naf_rows) (λ i j. digit (naf_row w (s i)) j) m n (λ i j p q. slot-digit i j p)

  -- on any windows
  pub slot-entries : (x : ℕ → ℕ → ℕ) (n : ℕ) → entry_sum (slot_digit naf_rows) x m n ≡ entry_sum (λ i j. digit (naf_row w (s i)) j) x m n
  slot-entries x n = entries-ext (slot_digit naf_rows) (λ i j. digit (naf_row w (s i)) j) x x m n (λ i j p q. slot-digit i j p) (λ i j p q. refl)

  -- a row reads back to its scalar
  pub slot-reads : 2 ≤ w → (i : ℕ) → i < m → s i < row_bound → row_sum 2 (slot_digit naf_rows i) 256 ≡ pos (s i)
  unfolding slot_digit
  slot-reads lo i p h = ap (λ (r : List ℤ). row_sum 2 (λ j. digit r j) 256) (row_at i p) ∙ (naf-obeys w lo (s i) h).sum_is

-- windows of n entries t i k, one after the other
pub slot-entry : (n : ℕ) (t : ℕ → ℕ → ℕ) (m i k : ℕ) → i < m → k < n → t i k < L → entry_at (4 * n) (flat (λ i. limbs_flat (t i) n) m) i k ≡ t i k
unfolding entry_at
slot-entry n t m i k p q h =
    ap (λ (l : List ℕ). point_at l k) (flat-part (4 * n) (λ i. limbs_flat (t i) n) m i (λ i p. limbs-length (t i) n) p) ∙ limbs-at (t i) n k q h

-- rows of width w of the scalars s, on windows of odd multiples of the points p
module _ (w : ℕ) (lo : 2 ≤ w) (s p : ℕ → ℕ) (m : ℕ) (small : (i : ℕ) → i < m → s i < row_bound) (under : (i : ℕ) → i < m → p i < L) where
  abbrev pub odd_windows : List ℕ
  odd_windows = flat (λ i. limbs_flat (odd residues (p i)) (2 ^ (w - 2))) m

  slots-windowed : Windowed residues (λ a. a < L) (slot_digit (naf_rows w s m)) (entry_at (4 * 2 ^ (w - 2)) odd_windows) p m 256
  slots-windowed = record {
    point-in = under;
    entry-is =
        λ i j a b. slot-entry (2 ^ (w - 2)) (λ i. odd residues (p i)) m i (odd_entry (slot_digit (naf_rows w s m) i j)) a
        (rw (slot-digit w s m i j a) (naf-entry w (s i) lo j))
        (odd-in group _ (under i a));
    odd-digit = λ i j a b. rw (slot-digit w s m i j a) (naf-digit-odd w (s i) lo j);
  }

  -- the entries are members
  pub slots-named : Named (λ a. a < L) (slot_digit (naf_rows w s m)) (entry_at (4 * 2 ^ (w - 2)) odd_windows) m 256
  slots-named i j a b = rw (slots-windowed.entry-is i j a b) (odd-in group (odd_entry (slot_digit (naf_rows w s m) i j)) (under i a))

  -- and sum to the products
  pub filled-sum : entry_sum (slot_digit (naf_rows w s m)) (entry_at (4 * 2 ^ (w - 2)) odd_windows) m 256 % L ≡ total (λ i. s i * p i) m % L
  filled-sum = entries-sum (slot_digit (naf_rows w s m)) (entry_at (4 * 2 ^ (w - 2)) odd_windows) m 256 p s slots-windowed (λ i a. slot-reads w s m lo i a (small i a))

-- the parts of a sum by their residues
both : (x x' y y' : ℕ) → x % L ≡ y % L → x' % L ≡ y' % L → (x + x') % L ≡ (y + y') % L
both x x' y y' e e' = add-mod x x' L ∙ ap₂ (λ (a b : ℕ). (a + b) % L) e e' ∙ sym (add-mod y y' L)

-- so many slots
slots-are : (w : ℕ) → 2 ≤ w → (s p : ℕ → ℕ) (m : ℕ)
    → windowed_rows (4 * 2 ^ (w - 2)) (naf_rows w s m) (flat (λ i. limbs_flat (odd residues (p i)) (2 ^ (w - 2))) m) ≡ m
slots-are w lo s p m =
    rows_are (4 * 2 ^ (w - 2)) m _ _ (omega (arith, pow_pos (w - 2))) (flat-length 256 (λ i. naf_row w (s i)) m (λ i _. naf-length w (s i)))
    (flat-length (4 * 2 ^ (w - 2)) _ m (λ i _. limbs-length (odd residues (p i)) (2 ^ (w - 2))))

-- the walk over slots of width 5
module _ (s p : ℕ → ℕ) (m : ℕ) (small : (i : ℕ) → i < m → s i < row_bound) (under : (i : ℕ) → i < m → p i < L) where
  abbrev slots : List ℤ
  slots = flat (λ i. naf_row 5 (s i)) m

  abbrev windows : List ℕ
  windows = flat (λ i. limbs_flat (odd residues (p i)) 8) m

  -- beside static rows on tables as they stand
  pub walked-slots : (ds' : List ℤ) (ts : List ℕ) (m' : ℕ) → windowed_rows 256 ds' ts ≡ m' → Named (λ a. a < L) (slot_digit ds') (entry_at 256 ts) m' 256
      → walked slots windows ds' ts 256
      ≡ took (element_of ((total (λ i. s i * p i) m + entry_sum (slot_digit ds') (entry_at 256 ts) m' 256) % L))
      (weight (λ i j. digit (naf_row 5 (s i)) j) m 256 + weight (slot_digit ds') m' 256) 256
  walked-slots ds' ts m' rows' named' =
      walked-entries slots windows ds' ts 256 m m' 256 (slots-are 5 (lit≤ tt) s p m) rows' refl (slots-named 5 (lit≤ tt) s p m small under) named'
      ∙ ap₂ (λ (v a : ℕ). took (element_of v) (a + weight (slot_digit ds') m' 256) 256)
      (both _ _ _ _ (filled-sum 5 (lit≤ tt) s p m small under) refl)
      (slot-weight 5 s m 256)

  -- beside slots of width 8, from any place k that no row's digits reach
  module _ (s' p' : ℕ → ℕ) (m' : ℕ) (small' : (i : ℕ) → i < m' → s' i < row_bound) (under' : (i : ℕ) → i < m' → p' i < L) (k : ℕ) (le : k ≤ 256)
      (top : (i j : ℕ) → i < m → k ≤ j → j < 256 → digit (naf_row 5 (s i)) j ≡ pos 0)
      (top' : (i j : ℕ) → i < m' → k ≤ j → j < 256 → digit (naf_row 8 (s' i)) j ≡ pos 0) where
    abbrev slots' : List ℤ
    slots' = flat (λ i. naf_row 8 (s' i)) m'

    abbrev tables : List ℕ
    tables = flat (λ i. limbs_flat (odd residues (p' i)) 64) m'

    pub walked-filled : walked slots windows slots' tables k
        ≡ took (element_of ((total (λ i. s i * p i) m + total (λ i. s' i * p' i) m') % L))
        (weight (λ i j. digit (naf_row 5 (s i)) j) m 256 + weight (λ i j. digit (naf_row 8 (s' i)) j) m' 256) k
    walked-filled =
        let zero : (i j : ℕ) → i < m → k ≤ j → j < 256 → slot_digit slots i j ≡ pos 0 = λ i j a b c. slot-digit 5 s m i j a ∙ top i j a b c in
        let zero' : (i j : ℕ) → i < m' → k ≤ j → j < 256 → slot_digit slots' i j ≡ pos 0 = λ i j a b c. slot-digit 8 s' m' i j a ∙ top' i j a b c in
        let sum = entries-top (slot_digit slots) (entry_at 32 windows) m 256 k le zero in
        let sum' = entries-top (slot_digit slots') (entry_at 256 tables) m' 256 k le zero' in
        walked-entries slots windows slots' tables k m m' k (slots-are 5 (lit≤ tt) s p m) (slots-are 8 (lit≤ tt) s' p' m') (min-eq_left le)
        (λ i j a b. slots-named 5 (lit≤ tt) s p m small under i j a (lt_of_lt_of_le b le))
        (λ i j a b. slots-named 8 (lit≤ tt) s' p' m' small' under' i j a (lt_of_lt_of_le b le))
        ∙ ap₂ (λ (v a : ℕ). took (element_of v) a k)
        (both _ _ _ _ (ap (λ (v : ℕ). v % L) (sym sum) ∙ filled-sum 5 (lit≤ tt) s p m small under) (ap (λ (v : ℕ). v % L) (sym sum') ∙ filled-sum 8 (lit≤ tt) s' p' m' small' under'))
        (ap₂ ◌+◌ (sym (weight-top (slot_digit slots) m k 256 le zero) ∙ slot-weight 5 s m 256) (sym (weight-top (slot_digit slots') m' k 256 le zero') ∙ slot-weight 8 s' m' 256))
