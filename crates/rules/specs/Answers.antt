-- The answers in 01's form that carry a row, bytes or a window: the number, and what a done call carries. (A value, counts and a sum are types of src.)
use Rattle.std.specs.Prelude.{List, ℕ, ℤ}

-- a row of N digits
pub record RowAnswer (N : ℕ) : Type 0 where
  pub number : ℕ
  pub row : List ℤ

-- the 32 bytes of a scalar
pub record ScalarBytes : Type 0 where
  pub number : ℕ
  pub bytes : List ℕ

-- a window of N elements, flat
pub record WindowAnswer (N : ℕ) : Type 0 where
  pub number : ℕ
  pub limbs : List ℕ
