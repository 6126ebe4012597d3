-- A call that is done: none of its conditions holds.
use mathlib.Core.Path.{◌≡◌, refl}
use mathlib.Core.Bool.{Bool, true, false}
use mathlib.Core.List.{List, [], ◌∷◌}
use Prim.Native.Nat.{ℕ, ◌-◌}
use native.Mathlib.Omega.{arith}
use Rattle.rules.specs.Numbers.{first}
use Rattle.laws.specs.Answers.{Rising}

abbrev pub None : List (Bool × ℕ) → Type 0
None [] = Unit {0}
None ((b, n) ∷ r) = (b ≡ false) × None r

pub passes : (c : List (Bool × ℕ)) → None c → first c ≡ 0
unfolding first
passes [] h = refl
passes ((b, n) ∷ r) h = rw h.0 (passes r h.1)

pub passed : (k : ℕ) (c : List (Bool × ℕ)) → Rising k c → first c ≡ 0 → None c
unfolding first
passed k [] rise e = tt
passed k ((true, n) ∷ r) rise e = absurd (omega (arith, rise.0))
passed k ((false, n) ∷ r) rise e = (refl, passed (n - 1) r rise.1 e)
