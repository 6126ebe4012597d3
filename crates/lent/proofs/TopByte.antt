-- A scalar's top byte says whether it is at or above the bound of the engines.
use mathlib.Core.Path.{◌≡◌, refl, ◌∙◌}
use mathlib.Core.List.{List}
use Prim.Native.Nat.{ℕ, ◌+◌, ◌*◌, ◌^◌, ◌<◌}
use native.Mathlib.Omega.{arith}
use native.Mathlib.Decide.{dec_lt}
use lib.ListN.{get_or, take, drop, length-take, get_or-eq_default}
use lib.Seq.{get_or-take, get_or-drop}
use lib.Dec.{ltb}
use Rattle.rules.specs.Values.{part, scalar_at, Below}
use Rattle.rules.specs.Numbers.{scalar_bound}
use Rattle.rules.specs.Lists.{big_at}
use Rattle.laws.proofs.Numerals.{top-test}

-- the tie of the scalars' bound to the byte that the code tests
bound-is : scalar_bound ≡ 128 * 2 ^ 248
unfolding scalar_bound
bound-is = refl

-- a scalar is over the bound where its top byte is above 127
pub top-is : (s : List ℕ) → Below 256 s → (i : ℕ) → big_at s i ≡ ltb 127 (get_or (take 32 (drop (32 * i) s)) 31 0)
unfolding big_at scalar_at part
top-is s b i = rw bound-is (top-test t bytes (simp length-take (omega arith)))
  where
    t : List ℕ
    t = take 32 (drop (32 * i) s)

    bytes : Below 256 t
    bytes j = go (dec_lt j 32)
      where
        go : Dec (j < 32) → get_or t j 0 < 256
        go (yes h) = rw (get_or-take 32 (drop (32 * i) s) j 0 h ∙ get_or-drop (32 * i) s j 0) (b (32 * i + j))
        go (no n) = rw (get_or-eq_default t 0 {n = j} (simp length-take (omega arith))) (omega arith)
