-- A search over a range of places or over chunks, lowest first, and `any_below`, which looks at the highest last.
use Rattle.std.proofs.Common.{◌≡◌, ℕ, zero, suc, ◌+◌, ◌*◌, Bool, List, take, drop, ◌||◌, refl, sym, ap, ◌∙◌, arith}
use Rattle.std.proofs.Math.Bool.{true, false}
use native.Mathlib.Nat.{mul-zero, mul-suc, add_comm}
use lib.Seq.{drop-drop}
use Rattle.std.specs.Simd.{first_chunks}
use Rattle.std.specs.List.{list_any, range_with_len}
use Rattle.rules.specs.Numbers.{any_below}

or-false : (b : Bool) → b ≡ (b || false)
or-false true = refl
or-false false = refl

or_assoc : (a b c : Bool) → ((a || b) || c) ≡ (a || (b || c))
or_assoc true b c = refl
or_assoc false b c = refl

-- the lowest place first
front : (g : ℕ → Bool) (n : ℕ) → any_below g (suc n) ≡ (g 0 || any_below (λ i. g (suc i)) n)
unfolding any_below
front g zero = or-false (g 0)
front g (suc n) = ap (λ (b : Bool). b || g (suc n)) (front g n) ∙ or_assoc (g 0) (any_below (λ i. g (suc i)) n) (g (suc n))

from : (f g : ℕ → Bool) (a n : ℕ) → ((i : ℕ) → g i ≡ f (a + i)) → list_any f (range_with_len a n) ≡ any_below g n
unfolding any_below
from f g a zero h = refl
from f g a (suc n) h =
    let e : f a ≡ g 0 = ap f (omega arith) ∙ sym (h 0) in
    let r : list_any f (range_with_len (a + 1) n) ≡ any_below (λ i. g (suc i)) n = from f (λ i. g (suc i)) (a + 1) n (λ i. h (suc i) ∙ ap f (omega arith)) in
    rw (e, r) (sym (front g n))

-- places 0 to n - 1
pub places-below : (f g : ℕ → Bool) (n : ℕ) → ((i : ℕ) → g i ≡ f i) → list_any f (range_with_len 0 n) ≡ any_below g n
places-below f g n h = from f g 0 n (λ i. h i ∙ ap f (omega arith))

-- chunks of m places each
pub chunks-below : (m : ℕ) (f : List ℕ → Bool) (g : ℕ → Bool) (l : List ℕ) (n : ℕ) → ((i : ℕ) → g i ≡ f (take m (drop (m * i) l))) → list_any f (first_chunks m n l) ≡ any_below g n
unfolding any_below
chunks-below m f g l zero h = refl
chunks-below m f g l (suc n) h =
    let start : m * 0 ≡ 0 = mul-zero m in
    let e : f (take m l) ≡ g 0 = sym (h 0 ∙ ap (λ (j : ℕ). f (take m (drop j l))) start) in
    let r : list_any f (first_chunks m n (drop m l)) ≡ any_below (λ i. g (suc i)) n =
    chunks-below m f (λ i. g (suc i)) (drop m l) n λ i.
    let k : m * suc i ≡ m + m * i = mul-suc m i ∙ add_comm (m * i) m in
    h (suc i) ∙ ap (λ (t : List ℕ). f (take m t)) (ap (λ (j : ℕ). drop j l) k ∙ sym (drop-drop (m * i) m l)) in
    rw (e, r) (sym (front g n))
