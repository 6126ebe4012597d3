-- Rows: the row that a recoding answers is the one that its rule allows, and which rows a reader refuses by 10.
use mathlib.Core.Path.{◌≡◌}
use mathlib.Core.List.{List}
use mathlib.Core.Logic.{◌↔◌}
use Prim.Native.Nat.{ℕ, ◌≤◌, ◌<◌}
use native.Mathlib.Omega.{arith}
use lib.ListN.{length}
use lib.IntN.{ℤ}
use borrow.Author.Tests.{ltb-false, leb-false}
use Rattle.rules.specs.Values.{number}
use Rattle.rules.specs.Numbers.{row_bound, bad_digit, row_answer}
use Rattle.rules.specs.Rows.{IsNaf, IsRadix, naf_row, radix_row, width_off, rowless, recode_conditions, recode_refusal, naf_of, radix_of, read_naf, read_radix}
use Rattle.laws.specs.Conditions.{or_split, given-done}
use Rattle.laws.specs.RowsRule.{naf-obeys, naf-only}
use Rattle.laws.proofs.RadixRule.{radix-obeys, radix-only}
use Rattle.reader.proofs.ReadBack as back
use Rattle.arguments.proofs.Passing.{passed}

-- a recoding that is not refused: the width is within its bounds, the scalar below the bound of rows
recoded : (low : ℕ) (l : List ℕ) (w : ℕ) → recode_refusal low l w ≡ 0 → (low ≤ w) × (w ≤ 8) × (number 256 l < row_bound)
unfolding recode_refusal width_off rowless
recoded low l w e =
    let h = passed 0 (recode_conditions low l w) (omega arith) e in
    let o = or_split _ _ h.1.0 in
    (ltb-false _ _ o.0, ltb-false _ _ o.1, leb-false _ _ h.1.1.0)

-- a row obeys its rule for a scalar below the bound exactly where it is that scalar's row
module _ (row : List ℤ) (w s : ℕ) (l : s < row_bound) where
  naf-rule : 2 ≤ w → IsNaf w row s ↔ (row ≡ naf_row w s)
  naf-rule lo = (naf-only w lo row s l, λ q. rw q (naf-obeys w lo s l))

  radix-rule : 4 ≤ w → w ≤ 8 → IsRadix w row s ↔ (row ≡ radix_row w s)
  radix-rule lo hi = (radix-only w lo hi row s l, λ q. rw q (radix-obeys w lo hi s l))

pub naf-one-row : (l : List ℕ) (w : ℕ) → (naf_of l w).number ≡ 0 → (row : List ℤ) → IsNaf w row (number 256 l) ↔ (row ≡ (naf_of l w).row)
unfolding naf_of row_answer
naf-one-row l w e row =
    let r = recoded 2 l w e in
    rw (e, given-done _ (naf_row w (number 256 l))) (naf-rule row w (number 256 l) r.2 r.0)

pub radix-one-row : (l : List ℕ) (w : ℕ) → (radix_of l w).number ≡ 0 → (row : List ℤ) → IsRadix w row (number 256 l) ↔ (row ≡ (radix_of l w).row)
unfolding radix_of row_answer
radix-one-row l w e row =
    let r = recoded 4 l w e in
    rw (e, given-done _ (radix_row w (number 256 l))) (radix-rule row w (number 256 l) r.2 r.0 r.1)

-- no scalar below the bound has the row
pub naf-refused-by-10 : (row : List ℤ) (w : ℕ)
    → ((read_naf row w).number ≡ bad_digit) ↔ ((length row ≡ 256) × ((2 ≤ w) × (w ≤ 8)) × ((s : ℕ) → s < row_bound → IsNaf w row s → ⊥))
naf-refused-by-10 row w =
    let b = back.naf-refused-by-10 row w in (
      λ e. let r = b.0 e in (r.0, r.1, λ s l h. r.2 s l ((naf-rule row w s l r.1.0).0 h)),
      λ r. b.1 (r.0, r.1, λ s l q. r.2 s l ((naf-rule row w s l r.1.0).1 q)),
    )

pub radix-refused-by-10 : (row : List ℤ) (w : ℕ)
    → ((read_radix row w).number ≡ bad_digit) ↔ ((length row ≡ 64) × ((4 ≤ w) × (w ≤ 8)) × ((s : ℕ) → s < row_bound → IsRadix w row s → ⊥))
radix-refused-by-10 row w =
    let b = back.radix-refused-by-10 row w in (
      λ e. let r = b.0 e in (r.0, r.1, λ s l h. r.2 s l ((radix-rule row w s l r.1.0 r.1.1).0 h)),
      λ r. b.1 (r.0, r.1, λ s l q. r.2 s l ((radix-rule row w s l r.1.0 r.1.1).1 q)),
    )
