-- The first n units of a list, of which the places are counted first.
use mathlib.Core.Path.{◌≡◌, ◌∙◌, ap, sym}
use mathlib.Core.List.{List}
use Prim.Native.Nat.{ℕ, ◌*◌, ◌<◌, min}
use native.Mathlib.Omega.{arith}
use native.Mathlib.Decide.{dec_lt}
use lib.ListN.{length, take}
use lib.Seq.{take_all}
use Rattle.rules.specs.Parts.{first_units}

-- the part that is cut there is the first n units
pub units-cut : {A : Type 0} (unit n e : ℕ) (l : List A) → e ≡ min (unit * n) (length l) → take e l ≡ first_units unit n l
unfolding first_units
units-cut unit n e l q = go (dec_lt (unit * n) (length l))
  where
    go : Dec (unit * n < length l) → take e l ≡ take (unit * n) l
    go (yes p) = let r : e ≡ unit * n = omega arith in ap (λ (k : ℕ). take k l) r
    go (no p) = take_all e l (omega arith) ∙ sym (take_all (unit * n) l (omega arith))
