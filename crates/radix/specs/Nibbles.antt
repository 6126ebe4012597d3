-- Digits before they are recentred.
use Rattle.std.specs.Prelude.{◌≡◌, List, ℕ, ◌*◌, ◌/◌, ◌%◌, ◌^◌, ◌<◌, length, ℤ, pos}
use Rattle.rules.specs.Rows.{digit}

-- 64 digits, each four bits of n
pub record Nibbles (row : List ℤ) (n : ℕ) : Type 0 where
  pub long : length row ≡ 64
  pub four : (j : ℕ) → j < 64 → digit row j ≡ pos (n / 2 ^ (4 * j) % 2 ^ 4)
