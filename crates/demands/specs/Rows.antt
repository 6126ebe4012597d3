-- Demand 2, rows: each recoding gives the one digit row its rule allows; recode then read gives the scalar, read then recode gives the row;
-- a reader refuses by 10 exactly the rows that no scalar below 2^255 has.
use Rattle.std.specs.Prelude.{◌≡◌, List, ◌↔◌, ℕ, ◌≤◌, ◌<◌, length, ℤ}
use Rattle.rules.specs.Values.{number, Below}
use Rattle.rules.specs.Numbers.{row_bound, bad_digit}
use Rattle.rules.specs.Rows.{IsNaf, IsRadix, naf_of, radix_of, read_naf, read_radix}
use Rattle.reader.proofs.ReadBack as back
use Rattle.arguments.proofs.Recoded as recoded

-- one row: the answer obeys the rule, and whatever obeys it is the answer
pub naf-one-row : (l : List ℕ) (w : ℕ) → (naf_of l w).number ≡ 0 → (row : List ℤ) → IsNaf w row (number 256 l) ↔ (row ≡ (naf_of l w).row)
naf-one-row = recoded.naf-one-row

pub radix-one-row : (l : List ℕ) (w : ℕ) → (radix_of l w).number ≡ 0 → (row : List ℤ) → IsRadix w row (number 256 l) ↔ (row ≡ (radix_of l w).row)
radix-one-row = recoded.radix-one-row

-- recode then read gives the scalar's bytes; read then recode gives the row
pub naf-recode-read : (l : List ℕ) → Below 256 l → (w : ℕ) → (naf_of l w).number ≡ 0 → read_naf (naf_of l w).row w ≡ record { number = 0; bytes = l }
naf-recode-read = back.naf-recode-read

pub naf-read-recode : (row : List ℤ) (w : ℕ) → (read_naf row w).number ≡ 0 → naf_of (read_naf row w).bytes w ≡ record { number = 0; row = row }
naf-read-recode = back.naf-read-recode

pub radix-recode-read : (l : List ℕ) → Below 256 l → (w : ℕ) → (radix_of l w).number ≡ 0 → read_radix (radix_of l w).row w ≡ record { number = 0; bytes = l }
radix-recode-read = back.radix-recode-read

pub radix-read-recode : (row : List ℤ) (w : ℕ) → (read_radix row w).number ≡ 0 → radix_of (read_radix row w).bytes w ≡ record { number = 0; row = row }
radix-read-recode = back.radix-read-recode

-- the rows of the right length, at a width within its bounds, that no scalar below the bound has
pub naf-refused-by-10 : (row : List ℤ) (w : ℕ)
    → ((read_naf row w).number ≡ bad_digit) ↔ ((length row ≡ 256) × ((2 ≤ w) × (w ≤ 8)) × ((s : ℕ) → s < row_bound → IsNaf w row s → ⊥))
naf-refused-by-10 = recoded.naf-refused-by-10

pub radix-refused-by-10 : (row : List ℤ) (w : ℕ)
    → ((read_radix row w).number ≡ bad_digit) ↔ ((length row ≡ 64) × ((4 ≤ w) × (w ≤ 8)) × ((s : ℕ) → s < row_bound → IsRadix w row s → ⊥))
radix-refused-by-10 = recoded.radix-refused-by-10
