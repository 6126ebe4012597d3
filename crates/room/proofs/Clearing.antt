-- A loop that clears the first n places of l₀, or all: of the part that is cut there, which has e places, the first i are cleared.
use mathlib.Core.Path.{◌≡◌, refl, ◌∙◌, ap, ap₂}
use mathlib.Core.List.{List, [], ◌∷◌, ◌++◌, append-nil}
use Prim.Native.Nat.{ℕ, zero, suc, ◌+◌, ◌<◌, ◌≤◌, min}
use native.Mathlib.Omega.{arith}
use native.Mathlib.Decide.{dec_lt}
use lib.ListN.{length, set, take, drop, drop_of_length-le}
use lib.Seq.{length-take-le, take_all}
use Rattle.rules.specs.Numbers.{cleared}
use Rattle.laws.proofs.Room.{cleared_more, cleared-past}

module _ {A : Type 0} (z : A) where
  -- the part that is cleared, then the rest
  cleared-part : (n : ℕ) (l : List A) → cleared z n (take n l) ++ drop n l ≡ cleared z n l
  unfolding cleared
  cleared-part zero l = refl
  cleared-part (suc n) [] = refl
  cleared-part (suc n) (x ∷ l) = ap (λ (t : List A). z ∷ t) (cleared-part n l)

  module _ (l₀ : List A) (n e : ℕ) (q : e ≡ min n (length l₀)) (i : ℕ) (l : List A) (s : l ≡ cleared z i (take e l₀)) where
    pub clear-turn : i < length (take e l₀) → set l i z ≡ cleared z (i + 1) (take e l₀)
    clear-turn h = ap (λ (t : List A). set t i z) s ∙ cleared_more z i (take e l₀) h

    pub clear-end : length (take e l₀) ≤ i → l ++ drop e l₀ ≡ cleared z n l₀
    clear-end h = ap (λ (t : List A). t ++ drop e l₀) s ∙ go (dec_lt n (length l₀))
      where
        long : length (take e l₀) ≡ e
        long = length-take-le e l₀ (omega arith)

        go : Dec (n < length l₀) → cleared z i (take e l₀) ++ drop e l₀ ≡ cleared z n l₀
        go (yes p) =
            let r : e ≡ n = omega arith in
            ap (λ (t : List A). t ++ drop e l₀) (cleared-past z i n (take e l₀) h (omega (arith, long))) ∙ ap (λ (k : ℕ). cleared z n (take k l₀) ++ drop k l₀) r ∙ cleared-part n l₀
        go (no p) =
            let a = take_all e l₀ (omega arith) in
            ap₂ (λ (t d : List A). cleared z i t ++ d) a (drop_of_length-le l₀ {i = e} (omega arith)) ∙ append-nil _ ∙ cleared-past z i n l₀ (omega (arith, long)) (omega arith)
