-- With tables as `new` builds them the static pairs are in the sum: a mixed sum is that of all products.
use mathlib.Core.Path.{◌≡◌, refl, sym, ap, ap₂, ◌∙◌}
use mathlib.Core.Bool.{false}
use mathlib.Core.List.{List}
use Prim.Native.Nat.{ℕ, ◌+◌, ◌*◌, ◌%◌, ◌<◌, ◌≤◌}
use native.Mathlib.Nat.{add-mod}
use native.Mathlib.Omega.{arith}
use lib.ListN.{length}
use lib.IntN.{ℤ}
use lib.Dec.{lit≤}
use Rattle.rules.specs.Values.{flat, point_at, scalar_at}
use Rattle.rules.specs.Group.{L, residues}
use Rattle.rules.specs.Loops.{odd_entry, weight}
use Rattle.rules.specs.Numbers.{given, summed}
use Rattle.rules.specs.Rows.{digit, naf_row}
use Rattle.rules.specs.Windows.{odd, limbs_flat}
use Rattle.rules.specs.Lists.{scalar_count, point_count, any_big}
use Rattle.rules.specs.Engines.{products, rows_digit, entry_sum, entry_at, new_refusal, new_tables, mixed_refusal, mixed}
use Rattle.laws.specs.RadixRows.{scalar-has-row}
use Rattle.laws.specs.Parts.{flat-length}
use Rattle.laws.specs.NafRows.{naf-entry}
use Rattle.laws.specs.Windows.{odd-in}
use Rattle.residue.proofs.Laws.{group}
use Rattle.lent.proofs.Passed.{small, under}
use Rattle.window.proofs.Flat.{limbs-length}
use Rattle.columns.proofs.Entries.{entries-ext}
use Rattle.columns.proofs.Slots.{slot-entries, slot-entry, filled-sum}
use Rattle.precomputed_straus.proofs.DoneTables.{points-under}
use Rattle.precomputed_straus.proofs.DoneMixed.{small-static, counts}

module _ (sps ts : List ℕ) (built : new_refusal sps (length ts) ≡ 0) where
  abbrev table_of : ℕ → List ℕ
  table_of i = limbs_flat (odd residues (point_at sps i)) 64

  tables-are : (new_tables sps ts).tables ≡ flat table_of (point_count sps)
  unfolding new_tables given
  tables-are = rw built

  -- entry k of table i is that of point i, among any number of tables past i
  entry-is : (m i k : ℕ) → i < m → i < point_count sps → k < 64 → entry_at 256 (flat table_of m) i k ≡ odd residues (point_at sps i) k
  entry-is m i k a b h =
      slot-entry 64 (λ i. odd residues (point_at sps i)) m i k a h (odd-in group k (under sps i (points-under sps ts built) b))

  -- static scalars, at most as many as points: what their rows name in the tables sums to the products
  pub static-sum : (sss : List ℕ) → any_big sss ≡ false → scalar_count sss ≤ point_count sps
      → entry_sum (rows_digit (naf_row 8) sss) (entry_at 256 (new_tables sps ts).tables) (scalar_count sss) 256 % L ≡ products sss sps (scalar_count sss) % L
  unfolding products rows_digit
  static-sum sss big le =
      let q = scalar_count sss in
      ap (λ (v : ℕ). v % L)
      (ap (λ (t : List ℕ). entry_sum (rows_digit (naf_row 8) sss) (entry_at 256 t) q 256) tables-are
      ∙ entries-ext (rows_digit (naf_row 8) sss) (rows_digit (naf_row 8) sss) (entry_at 256 (flat table_of (point_count sps))) (entry_at 256 (flat table_of q)) q 256 (λ i j a b. refl)
      (λ i j a b. same sss i j (omega (arith, le)) a)
      ∙ sym (slot-entries 8 (scalar_at sss) q (entry_at 256 (flat table_of q)) 256))
      ∙ filled-sum 8 (lit≤ tt) (scalar_at sss) (point_at sps) q (λ i a. scalar-has-row (small sss i big a)) (λ i a. under sps i (points-under sps ts built) (omega (arith, le)))
    where
      same : (sss : List ℕ) (i j : ℕ) → i < point_count sps → i < scalar_count sss
          → entry_at 256 (flat table_of (point_count sps)) i (odd_entry (digit (naf_row 8 (scalar_at sss i)) j)) ≡ entry_at 256 (flat table_of (scalar_count sss)) i (odd_entry (digit (naf_row 8 (scalar_at sss i)) j))
      same sss i j a b =
          let h = naf-entry 8 (scalar_at sss i) (lit≤ tt) j in
          entry-is (point_count sps) i _ a a h ∙ sym (entry-is (scalar_count sss) i _ b a h)

  -- a mixed sum on them that is done
  pub mixed-whole : (sss ss ps fs : List ℕ) (ds : List ℤ) (ls : List ℕ) → mixed_refusal (new_tables sps ts).tables sss ss ps fs (length ds) (length ls) ≡ 0
      → (mixed (new_tables sps ts).tables sss ss ps fs ds ls).result
      ≡ summed 0 ((products ss ps (scalar_count ss) + products sss sps (scalar_count sss)) % L)
      (7 * scalar_count ss + (weight (rows_digit (naf_row 5) ss) (scalar_count ss) 256 + weight (rows_digit (naf_row 8) sss) (scalar_count sss) 256))
      (256 + scalar_count ss)
  unfolding mixed
  mixed-whole sss ss ps fs ds ls passed =
      let T = (new_tables sps ts).tables in
      let long : length T ≡ 256 * point_count sps = ap length tables-are ∙ flat-length 256 table_of (point_count sps) (λ i _. limbs-length (odd residues (point_at sps i)) 64) in
      let le : scalar_count sss ≤ point_count sps = omega (arith, (counts T sss ss ps fs ds ls passed).0) in
      ap₂ (λ (n v : ℕ). summed n v
      (7 * scalar_count ss + (weight (rows_digit (naf_row 5) ss) (scalar_count ss) 256 + weight (rows_digit (naf_row 8) sss) (scalar_count sss) 256))
      (256 + scalar_count ss))
      passed
      (add-mod (products ss ps (scalar_count ss)) _ L
      ∙ ap (λ (v : ℕ). (products ss ps (scalar_count ss) % L + v) % L) (static-sum sss (small-static T sss ss ps fs ds ls passed) le)
      ∙ sym (add-mod (products ss ps (scalar_count ss)) (products sss sps (scalar_count sss)) L))
