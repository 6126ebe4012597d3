-- The bits of a number that limbs say: w of them from bit pos on stand in one limb, or in two neighbouring ones.
use mathlib.Core.Path.{◌≡◌, sym, ap, ◌∙◌}
use mathlib.Core.List.{List}
use Prim.Native.Nat.{ℕ, suc, ◌+◌, ◌-◌, ◌*◌, ◌/◌, ◌%◌, ◌^◌, ◌≤◌, ◌<◌}
use native.Mathlib.Nat.{mul_assoc, mul_comm, mul-mod_left, mul-add-div_right, add-mul-mod_self_left, add_comm}
use native.Mathlib.Omega.{arith}
use lib.ListN.{get_or, drop}
use lib.Bits.{bit_or, or_shifted_r}
use lib.Pow.{shr_lt, shl-shr, shr-shr, field, high, low, mod-mod-pow, mod-pow-add, pow-add, pow_pos}
use Rattle.rules.specs.Values.{number, limb, Below}
use Rattle.laws.proofs.Numerals.{number_at, number-from}

-- y is x and what stands above its 64 bits; r of x are passed
one-limb : (y x z r w : ℕ) → y ≡ x + limb * z → x ≡ y % limb → r + w ≤ 64 → x / 2 ^ r % 2 ^ w ≡ y / 2 ^ r % 2 ^ w
one-limb y x z r w e l h =
    let p : 64 ≡ 64 - r + r = omega arith in
    let j : 64 - r ≡ 64 - r - w + w = omega arith in
    ap (λ (v : ℕ). v / 2 ^ r % 2 ^ w) (l ∙ ap (λ (k : ℕ). y % 2 ^ k) p)
    ∙ ap (λ (v : ℕ). v % 2 ^ w) (field y (64 - r) r ∙ ap (λ (k : ℕ). y / 2 ^ r % 2 ^ k) j)
    ∙ mod-mod-pow (y / 2 ^ r) (64 - r - w) w

module _ (l : List ℕ) (b : Below limb l) (pos : ℕ) where
  -- from the limb of bit pos on
  from-bit : number limb (drop (pos / 64) l) / 2 ^ (pos % 64) ≡ number limb l / 2 ^ pos
  from-bit =
      let e : 64 * (pos / 64) + pos % 64 ≡ pos = omega arith in
      ap (λ (v : ℕ). v / 2 ^ (pos % 64)) (sym (number-from 64 l b (pos / 64)))
      ∙ shr-shr (number limb l) (64 * (pos / 64)) (pos % 64)
      ∙ ap (λ (v : ℕ). number limb l / 2 ^ v) e

  pub in-limb : (w : ℕ) → pos % 64 + w ≤ 64 → get_or l (pos / 64) 0 / 2 ^ (pos % 64) % 2 ^ w ≡ number limb l / 2 ^ pos % 2 ^ w
  in-limb w h =
      let x : ℕ = get_or l (pos / 64) 0 in
      let y : ℕ = number limb (drop (pos / 64) l) in
      let z : ℕ = number limb (drop (suc (pos / 64)) l) in
      one-limb y x z (pos % 64) w (number_at limb l (pos / 64)) (omega (arith, number_at limb l (pos / 64), b (pos / 64))) h
      ∙ ap (λ (v : ℕ). v % 2 ^ w) from-bit

-- byte k stands in limb k / 8
pub byte-in : (l : List ℕ) → Below limb l → (k : ℕ) → get_or l (k / 8) 0 / 2 ^ (8 * (k % 8)) % 256 ≡ number limb l / 2 ^ (8 * k) % 256
byte-in l b k =
    let e : k / 8 ≡ 8 * k / 64 = omega arith in
    let f : 8 * (k % 8) ≡ 8 * k % 64 = omega arith in
    rw (e, f) (in-limb l b (8 * k) 8 (omega arith))

-- the lowest j + k bits of a number that k bits of 0 were put below
shifted : (x j k : ℕ) → x * 2 ^ k % 2 ^ (j + k) ≡ x % 2 ^ j * 2 ^ k
shifted x j k = mod-pow-add (x * 2 ^ k) j k ∙ rw (shl-shr x k, mul-mod_left x (2 ^ k)) (omega arith)

-- y is x and what stands above its 64 bits; r of x are passed
module _ (y x z r : ℕ) (lt : x < limb) (e : y ≡ x + limb * z) (h : r < 64) where
  whole : 64 - r + r ≡ 64
  whole = omega arith

  -- the bits that wait in x, and those of the next limb x' shifted to stand above them
  module _ (x' z' : ℕ) (e' : z ≡ x' + limb * z') where
    p : ℕ
    p = 64 - r

    -- all 64 bits from bit r of y on
    waiting : bit_or (x / 2 ^ r) (x' * 2 ^ p % 2 ^ (r + p)) ≡ y / 2 ^ r % 2 ^ (r + p)
    unfolding p
    waiting =
        let q : x / 2 ^ r < 2 ^ p = shr_lt p r (rw whole lt) in
        let f : limb ≡ 2 ^ p * 2 ^ r = ap (λ (k : ℕ). 2 ^ k) (sym whole) ∙ pow-add 2 p r in
        let d : y / 2 ^ r ≡ z * 2 ^ p + x / 2 ^ r =
        rw (e, f, mul_comm (2 ^ p * 2 ^ r) z, ← mul_assoc z (2 ^ p) (2 ^ r), add_comm x (z * 2 ^ p * 2 ^ r))
        (mul-add-div_right (pow_pos r) (z * 2 ^ p) x) in
        let g : z % 2 ^ r ≡ x' % 2 ^ r =
        sym (mod-mod-pow z p r) ∙ rw whole (ap (λ (v : ℕ). v % 2 ^ r) (ap (λ (v : ℕ). v % limb) e' ∙ add-mul-mod_self_left x' limb z') ∙ ap (λ (k : ℕ). x' % 2 ^ k % 2 ^ r) (sym whole) ∙ mod-mod-pow x' p r) in
        rw (shifted x' r p, or_shifted_r (x' % 2 ^ r) p (x / 2 ^ r) q, d, mod-pow-add (z * 2 ^ p + x / 2 ^ r) r p, high z p q, low z p q, g)

    two-limbs : (w : ℕ) → w ≤ 64 → bit_or (x / 2 ^ r) (x' * 2 ^ (64 - r) % limb) % 2 ^ w ≡ y / 2 ^ r % 2 ^ w
    unfolding p
    two-limbs w wle =
        let s : r + (64 - r) ≡ 64 = omega arith in
        let j : 64 ≡ 64 - w + w = omega arith in
        ap (λ (k : ℕ). bit_or (x / 2 ^ r) (x' * 2 ^ (64 - r) % 2 ^ k) % 2 ^ w) (sym s)
        ∙ ap (λ (v : ℕ). v % 2 ^ w) (waiting ∙ ap (λ (k : ℕ). y / 2 ^ r % 2 ^ k) (s ∙ j))
        ∙ mod-mod-pow (y / 2 ^ r) (64 - w) w

-- bits that reach into the next limb
pub in_two : (l : List ℕ) → Below limb l → (pos w : ℕ) → w ≤ 64
    → bit_or (get_or l (pos / 64) 0 / 2 ^ (pos % 64)) (get_or l (1 + pos / 64) 0 * 2 ^ (64 - pos % 64) % limb) % 2 ^ w ≡ number limb l / 2 ^ pos % 2 ^ w
in_two l b pos w h =
    let s : 1 + pos / 64 ≡ suc (pos / 64) = omega arith in
    rw s
    (two-limbs _ (get_or l (pos / 64) 0) (number limb (drop (suc (pos / 64)) l)) (pos % 64) (b (pos / 64)) (number_at limb l (pos / 64)) (omega arith)
    (get_or l (suc (pos / 64)) 0) (number limb (drop (suc (suc (pos / 64))) l)) (number_at limb l (suc (pos / 64))) w h
    ∙ ap (λ (v : ℕ). v % 2 ^ w) (from-bit l b pos))
