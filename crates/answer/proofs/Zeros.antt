-- What a refused call carries is zero, whatever its number.
use mathlib.Core.Path.{◌≡◌, refl}
use mathlib.Core.Bool.{Bool, true, false, cond}
use Prim.Native.Nat.{ℕ}
use lib.Dec.{eqb}
use Rattle.rules.specs.Numbers.{given}

same : (b : Bool) (x : ℕ) → cond b x x ≡ x
same true x = refl
same false x = refl

pub none : (n : ℕ) → given {A = ℕ} n 0 0 ≡ 0
unfolding given
none n = same (eqb n 0) 0
