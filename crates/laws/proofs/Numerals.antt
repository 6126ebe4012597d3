-- Numbers by their places in base 2 ^ m: one place, a part of the places, how large they are.
use mathlib.Core.Path.{◌≡◌, refl, sym, ap, ◌∙◌, subst}
use mathlib.Core.List.{List, [], ◌∷◌}
use Prim.Native.Nat.{ℕ, zero, suc, ◌+◌, ◌*◌, ◌/◌, ◌%◌, ◌^◌, ◌<◌, ◌≤◌}
use native.Mathlib.Nat.{mul-zero, mul-suc, mul_comm, mul-add, mul_assoc, add-zero, zero-add, one-mul, pow-zero, pow-succ', div-one, zero-div, suc-add, add-suc, add_comm, mod-add-div, div-lt_iff_lt-mul}
use native.Mathlib.Omega.{arith}
use native.Mathlib.Decide.{dec_lt}
use lib.ListN.{length, get_or, take, drop, drop_of_length-le}
use lib.Arith.{digits_lt}
use lib.Dec.{leb, ltb}
use lib.Pow.{shr-shr, shr_lt, high, pow-add, pow_pos}
use borrow.Author.Tests.{lt-ltb, le-ltb, le-leb, lt-leb}
use Rattle.rules.specs.Values.{number, places, Below}

-- the number from place k on
pub number_at : (B : ℕ) (l : List ℕ) (k : ℕ) → number B (drop k l) ≡ get_or l k 0 + B * number B (drop (suc k) l)
unfolding number
number_at B [] zero = rw (mul-zero B)
number_at B [] (suc k) = rw (mul-zero B)
number_at B (x ∷ l) zero = refl
number_at B (x ∷ l) (suc k) = number_at B l k

none : (B n : ℕ) → 0 ≡ 0 + B * number B (take n [])
unfolding number
none B zero = rw (mul-zero B)
none B (suc n) = rw (mul-zero B)

-- n + 1 places from place k on
pub part_at : (B : ℕ) (l : List ℕ) (n k : ℕ) → number B (take (suc n) (drop k l)) ≡ get_or l k 0 + B * number B (take n (drop (suc k) l))
unfolding number
part_at B [] n zero = none B n
part_at B [] n (suc k) = none B n
part_at B (x ∷ l) n zero = refl
part_at B (x ∷ l) n (suc k) = part_at B l n k

-- a part is two parts
pub part-split : (B : ℕ) (l : List ℕ) (a b k : ℕ) → number B (take (a + b) (drop k l)) ≡ number B (take a (drop k l)) + B ^ a * number B (take b (drop (a + k) l))
unfolding number
part-split B l zero b k = rw (zero-add b, zero-add k, pow-zero B, one-mul (number B (take b (drop k l))), zero-add (number B (take b (drop k l))))
part-split B l (suc a) b k =
    let y : ℕ = number B (take b (drop (a + suc k) l)) in
    rw (suc-add a b, part_at B l (a + b) k, part-split B l a b (suc k), part_at B l a k, mul-add B (number B (take a (drop (suc k) l))) (B ^ a * y), ← mul_assoc B (B ^ a) y, ← pow-succ' B a, suc-add a k, ← add-suc a k)
    (omega arith)

-- n places hold less than 2 ^ (m * n)
pub part-lt : (m : ℕ) (l : List ℕ) → Below (2 ^ m) l → (n k : ℕ) → number (2 ^ m) (take n (drop k l)) < 2 ^ (m * n)
unfolding number
part-lt m l h zero k = rw (mul-zero m) (omega arith)
part-lt m l h (suc n) k =
    rw (part_at (2 ^ m) l n k, mul-suc m n, pow-add 2 (m * n) m, mul_comm (2 ^ m) (number (2 ^ m) (take n (drop (suc k) l))))
    (omega (arith, digits_lt {q = number (2 ^ m) (take n (drop (suc k) l))} {m = 2 ^ (m * n)} (part-lt m l h n (suc k)) (h k)))

-- what a number has from bit m * k on
pub number-from : (m : ℕ) (l : List ℕ) → Below (2 ^ m) l → (k : ℕ) → number (2 ^ m) l / 2 ^ (m * k) ≡ number (2 ^ m) (drop k l)
unfolding number
number-from m l h zero = rw (mul-zero m) (div-one (number (2 ^ m) l))
number-from m [] h (suc k) = zero-div (2 ^ (m * suc k))
number-from m (x ∷ l) h (suc k) =
    let one : number (2 ^ m) (x ∷ l) / 2 ^ m ≡ number (2 ^ m) l = rw (mul_comm (2 ^ m) (number (2 ^ m) l)) (ap (λ (y : ℕ). y / 2 ^ m) (add_comm x (number (2 ^ m) l * 2 ^ m)) ∙ high (number (2 ^ m) l) m (h 0)) in
    let e : m * suc k ≡ m + m * k = mul-suc m k ∙ add_comm (m * k) m in
    rw (e, ← shr-shr (number (2 ^ m) (x ∷ l)) m (m * k), one) (number-from m l (λ i. h (suc i)) k)

-- ---- the places of a number

pub places-length : (B n v : ℕ) → length (places B n v) ≡ n
unfolding places
places-length B zero v = refl
places-length B (suc n) v = ap suc (places-length B n (v / B))

-- each is so many bits of it
pub places-at : (m n v i : ℕ) → i < n → get_or (places (2 ^ m) n v) i 0 ≡ v / 2 ^ (m * i) % 2 ^ m
unfolding places
places-at m zero v i h = absurd (omega arith)
places-at m (suc n) v zero h = rw (mul-zero m) (ap (λ (x : ℕ). x % 2 ^ m) (sym (div-one v)))
places-at m (suc n) v (suc i) h =
    let e : m * suc i ≡ m + m * i = mul-suc m i ∙ add_comm (m * i) m in
    rw (e, ← shr-shr v m (m * i)) (places-at m n (v / 2 ^ m) i (omega arith))

-- they say it again, where there are enough
pub number-places : (m n v : ℕ) → v < 2 ^ (m * n) → number (2 ^ m) (places (2 ^ m) n v) ≡ v
unfolding places number
number-places m zero v h = let l : v < 1 = subst (λ (x : ℕ). v < 2 ^ x) (mul-zero m) h in omega arith
number-places m (suc n) v h =
    let e : m * suc n ≡ m * n + m = mul-suc m n in
    rw (number-places m n (v / 2 ^ m) (shr_lt (m * n) m (subst (λ (x : ℕ). v < 2 ^ x) e h))) (mod-add-div v (2 ^ m))

-- ---- 32 bytes, by the last of them

-- it is what the number has from bit 248 on
top_byte : (l : List ℕ) → Below 256 l → length l ≤ 32 → number 256 l / 2 ^ 248 ≡ get_or l 31 0
unfolding number
top_byte l b e =
    let z : drop 32 l ≡ [] = drop_of_length-le l {i = 32} e in
    number-from 8 l b 31 ∙ number_at 256 l 31 ∙ ap (λ (t : List ℕ). get_or l 31 0 + 256 * number 256 t) z ∙ add-zero (get_or l 31 0)

module _ (v t : ℕ) (e : v / 2 ^ 248 ≡ t) where
  below : t < 128 → v < 128 * 2 ^ 248
  below h = (div-lt_iff_lt-mul {k = 2 ^ 248} {x = v} {y = 128} (pow_pos 248)).0 (rw e h)

  above : 127 < t → 128 * 2 ^ 248 ≤ v
  above h = not-lt v (128 * 2 ^ 248) λ s. off (subst (λ (y : ℕ). y < 128) e ((div-lt_iff_lt-mul {k = 2 ^ 248} {x = v} {y = 128} (pow_pos 248)).1 s))
    where
      not-lt : (a b : ℕ) → (a < b → ⊥) → b ≤ a
      not-lt a b n = omega arith

      off : t < 128 → ⊥
      off l = omega arith

  test : leb (128 * 2 ^ 248) v ≡ ltb 127 t
  test = go (dec_lt 127 t)
    where
      go : Dec (127 < t) → leb (128 * 2 ^ 248) v ≡ ltb 127 t
      go (yes h) = rw (lt-ltb 127 t h) (le-leb (128 * 2 ^ 248) v (above h))
      go (no n) = rw (le-ltb 127 t (omega arith)) (lt-leb (128 * 2 ^ 248) v (below (omega arith)))

-- they say a number at or above 2 ^ 255 where it is above 127
pub top-test : (l : List ℕ) → Below 256 l → length l ≤ 32 → leb (128 * 2 ^ 248) (number 256 l) ≡ ltb 127 (get_or l 31 0)
top-test l b e = test (number 256 l) (get_or l 31 0) (top_byte l b e)
