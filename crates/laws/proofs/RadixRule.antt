-- The radix rule: the row of a scalar obeys it, and whatever obeys it is that row.
use Rattle.std.specs.Prelude.{◌≡◌, ℤ}
use Rattle.std.proofs.Common.{arith}
use mathlib.Core.List.{List}
use Prim.Native.Nat.{ℕ, ◌≤◌, ◌<◌}
use Rattle.std.specs.Int.Signed.{mag}
use Rattle.rules.specs.Numbers.{row_bound}
use Rattle.rules.specs.Rows.{digit, IsRadix, used_places, radix_row}
use Rattle.laws.specs.RadixRows.{radix-length, radix-range, radix-rest, radix-last-range, radix-16-last, radix-256-last}
use Rattle.laws.specs.RowsRule.{radix-sum, radix-unique}

-- the row of a scalar below the bound obeys the rule
pub radix-obeys : (w : ℕ) → 4 ≤ w → w ≤ 8 → (s : ℕ) → s < row_bound → IsRadix w (radix_row w s) s
radix-obeys w lo hi s l =
    record {
      long = radix-length w lo hi s;
      range = radix-range w lo hi s;
      rest = radix-rest w lo hi s;
      last-at-4 = λ e. rw e (radix-16-last s l);
      last-at-5-to-7 = λ h _. radix-last-range w lo hi s h l;
      last-at-8 = λ e. (byte e, rw e (radix-256-last s l));
      sum_is = radix-sum w lo hi s;
    }
  where
    byte : w ≡ 8 → mag (digit (radix_row w s) 31) < 128
    byte e = rw e (radix-range 8 (omega arith) (omega arith) s 31 (unfold used_places in (omega arith)))

pub radix-only : (w : ℕ) → 4 ≤ w → w ≤ 8 → (row : List ℤ) (s : ℕ) → s < row_bound → IsRadix w row s → row ≡ radix_row w s
radix-only w lo hi row s l h = radix-unique w lo hi row (radix_row w s) s h (radix-obeys w lo hi s l)
