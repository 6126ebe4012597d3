-- The eight bytes of a limb: what `from_le_bytes` reads, and what `to_le_bytes` writes.
use Rattle.std.proofs.Common.{◌≡◌, ℕ, zero, suc, ◌+◌, ◌*◌, ◌/◌, ◌%◌, ◌^◌, ◌<◌, ◌≤◌, List, [], ◌++◌, get_or, take, drop, length, replicate, min, ◌-◌, refl, sym, ap, ◌∙◌, subst, arith}
use native.Mathlib.Decide.{ℕ_discrete, dec_lt}
use native.Mathlib.Nat.{add-zero, add_comm, mul-zero, mul-suc, div-eq_of_lt, lt_of_lt_of_le}
use lib.ListN.{length-take, get_or-eq_default, get_or-append}
use lib.Seq.{get_or-take, get_or-drop, get_or-append_right, drop-drop}
use lib.Pow.{pow_mono}
use mir.Syntax.{w64}
use denote.Param.Members.{Mut}
use Rattle.std.specs.Simd.{first_chunks}
use Rattle.std.specs.Fn.{Called}
use Rattle.std.specs.Array.{IsFromFnResultFrom}
use Rattle.std.specs.Int.{from_le_bytes, to_le_bytes}
use Rattle.rules.specs.Values.{number, limb}
use Rattle.laws.proofs.Numerals.{part_at}

-- an array that `from_fn` makes, where each call answers v at its place and leaves the closure as it was
module _ {F : Type 0} (g : Mut F (ℕ × Unit {0}) ℕ) (v : ℕ → ℕ) (f : F) (keeps : (x b : ℕ) (q : F) → Called g f (x, tt) b q → (q ≡ f) × (b ≡ v x)) where
  pub each-is : (ys : List ℕ) (i n : ℕ) (p : F) → p ≡ f → IsFromFnResultFrom g p ys i n → (k : ℕ) → i ≤ k → k < i + n → get_or ys k 0 ≡ v k
  each-is ys i zero p e h k le lt = absurd (omega arith)
  each-is ys i (suc n) p e h k le lt = go (λ (q : k ≡ i → ⊥). each-is ys (i + 1) n h.0 here.0 h.4 k (omega arith) (omega arith)) (ℕ_discrete k i)
    where
      here : (h.0 ≡ f) × (h.1 ≡ v i)
      here = keeps i h.1 h.0 (subst (λ (x : F). Called g x (i, tt) h.1 h.0) e h.3)

      go : ((k ≡ i → ⊥) → get_or ys k 0 ≡ v k) → Dec (k ≡ i) → get_or ys k 0 ≡ v k
      go later (yes q) = rw q (h.2.1 0 ∙ here.1)
      go later (no q) = later q

-- eight bytes from place n on, and the number that they say
module _ (l : List ℕ) (n : ℕ) where
  from : ℕ → ℕ → ℕ
  from m k = number 256 (take m (drop (n + k) l))

  step : (m k : ℕ) → from (suc m) k ≡ get_or l (n + k) 0 + 256 * from m (suc k)
  unfolding from
  step m k =
      let e : suc (n + k) ≡ n + suc k = omega arith in
      part_at 256 l m (n + k) ∙ ap (λ (j : ℕ). get_or l (n + k) 0 + 256 * number 256 (take m (drop j l))) e

  end : (k : ℕ) → from 0 k ≡ 0
  unfolding from number
  end k = refl

  start : number 256 (take 8 (drop n l)) ≡ from 8 0
  unfolding from
  start = ap (λ (j : ℕ). number 256 (take 8 (drop j l))) (sym (add-zero n))

  pub eight-says : (ys : List ℕ) → ((k : ℕ) → k < 8 → get_or ys k 0 ≡ get_or l (n + k) 0) → from_le_bytes w64 ys ≡ number 256 (take 8 (drop n l))
  eight-says ys h =
      let b : (k : ℕ) → k < 8 → get_or ys k 0 ≡ get_or l (n + k) 0 = h in
      omega (
        arith,
        start,
        step 7 0,
        step 6 1,
        step 5 2,
        step 4 3,
        step 3 4,
        step 2 5,
        step 1 6,
        step 0 7,
        end 8,
        b 0 (omega arith),
        b 1 (omega arith),
        b 2 (omega arith),
        b 3 (omega arith),
        b 4 (omega arith),
        b 5 (omega arith),
        b 6 (omega arith),
        b 7 (omega arith),
      )

-- chunk i of n elements each
pub chunk-is : (n c : ℕ) (l : List ℕ) (i : ℕ) → i < c → get_or (first_chunks n c l) i [] ≡ take n (drop (n * i) l)
chunk-is n zero l i h = absurd (omega arith)
chunk-is n (suc c) l zero h = rw (mul-zero n)
chunk-is n (suc c) l (suc i) h =
    let e : n + n * i ≡ n * suc i = add_comm n (n * i) ∙ sym (mul-suc n i) in
    chunk-is n c (drop n l) i (omega arith) ∙ ap (λ (t : List ℕ). take n t) (drop-drop (n * i) n l ∙ ap (λ (j : ℕ). drop j l) e)

-- its place j
pub chunk_at : (n c : ℕ) (l : List ℕ) (i j : ℕ) → i < c → j < n → get_or (get_or (first_chunks n c l) i []) j 0 ≡ get_or l (n * i + j) 0
chunk_at n c l i j h g = rw (chunk-is n c l i h) (get_or-take n (drop (n * i) l) j 0 g ∙ get_or-drop (n * i) l j 0)

pub zeros : (n i : ℕ) → get_or {A = ℕ} (replicate n 0) i 0 ≡ 0
zeros zero i = refl
zeros (suc n) zero = refl
zeros (suc n) (suc i) = zeros n i

-- the front n places of l, and 0 after them
pub padded : (l z : List ℕ) (n k : ℕ) → n ≡ min (length l) 32 → ((i : ℕ) → get_or z i 0 ≡ 0) → k < 32 → get_or (take n l ++ drop n z) k 0 ≡ get_or l k 0
padded l z n k e h lt = go (dec_lt k n)
  where
    long : length (take n l) ≡ n
    long = simp length-take (omega arith)

    go : Dec (k < n) → get_or (take n l ++ drop n z) k 0 ≡ get_or l k 0
    go (yes g) = get_or-append (take n l) (drop n z) 0 k (omega (arith, long)) ∙ get_or-take n l k 0 g
    go (no g) =
        get_or-append_right (take n l) (drop n z) k 0 (omega (arith, long)) ∙ get_or-drop n z (k - length (take n l)) 0 ∙ h (n + (k - length (take n l)))
        ∙ sym (get_or-eq_default l 0 {n = k} (omega arith))

-- parts that agree at each place say the same number
pub part-same : (l m : List ℕ) (c n : ℕ) → ((k : ℕ) → k < c → get_or l (n + k) 0 ≡ get_or m (n + k) 0) → number 256 (take c (drop n l)) ≡ number 256 (take c (drop n m))
unfolding number
part-same l m zero n h = refl
part-same l m (suc c) n h =
    let head : get_or l n 0 ≡ get_or m n 0 = rw (add-zero n) at (h 0 (omega arith)) in
    let rest : number 256 (take c (drop (suc n) l)) ≡ number 256 (take c (drop (suc n) m)) =
    part-same l m c (suc n) λ k g. let e : n + suc k ≡ suc n + k = omega arith in rw e at (h (suc k) (omega arith)) in
    rw (part_at 256 l c n, part_at 256 m c n, head, rest)

-- byte k of a limb, and none past its eight
pub byte-is : (x k : ℕ) → x < limb → get_or (to_le_bytes w64 x) k 0 ≡ x / 2 ^ (8 * k) % 256
byte-is x zero h = omega arith
byte-is x (suc zero) h = refl
byte-is x (suc (suc zero)) h = refl
byte-is x (suc (suc (suc zero))) h = refl
byte-is x (suc (suc (suc (suc zero)))) h = refl
byte-is x (suc (suc (suc (suc (suc zero))))) h = refl
byte-is x (suc (suc (suc (suc (suc (suc zero)))))) h = refl
byte-is x (suc (suc (suc (suc (suc (suc (suc zero))))))) h = refl
byte-is x (suc (suc (suc (suc (suc (suc (suc (suc k)))))))) h =
    let j : ℕ = suc (suc (suc (suc (suc (suc (suc (suc k))))))) in
    sym (ap (λ (v : ℕ). v % 256) (div-eq_of_lt (lt_of_lt_of_le {n = x} {m = 2 ^ 64} (omega arith) (pow_mono {i = 64} {j = 8 * j} (omega arith)))))
