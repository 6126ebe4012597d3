-- The lowest bits of a number read as signed, what is left above them, and the states that a recoder goes through.
use Rattle.std.specs.Prelude.{◌≡◌, cond, ℕ, zero, suc, ◌+◌, ◌-◌, ◌*◌, ◌/◌, ◌%◌, ◌^◌, ◌≤◌, ◌<◌, ℤ, pos, negsuc, nat_abs, ltb}
use Rattle.std.proofs.Common.{sym, ap, ◌∙◌, zero-mul, mul-add, add-mul, mul_comm, one-mul, add-zero, zero-add, suc-add, div-add-mod', mod-lt, mod-eq_of_lt, div-lt_iff_lt-mul, arith, pow_pos, pow_mono, pow-add, shr-shr, lt-ltb, le-ltb}
use Rattle.std.proofs.Math.Nat.{pow-succ', mul-add-div_right, div-add-mod, div-eq_of_lt, div-eq_of_lt-le, mod-add-mod, mod_self}
use Rattle.std.proofs.Math.Decide.{dec_lt}
use Rattle.std.proofs.Math.Pow.{mod-mod-pow}
use Rattle.std.proofs.Math.IntN.{sub_ℕ}
use Rattle.std.specs.Int.Signed.{mag}
use Rattle.rules.specs.Rows.{centred, above}
use Rattle.laws.specs.DigitsSum.{plus, minus}

pub wide : (w : ℕ) → 1 ≤ w → 2 ^ w ≡ 2 * 2 ^ (w - 1)
wide w h =
    let e : w ≡ suc (w - 1) = omega arith in
    ap (λ (k : ℕ). 2 ^ k) e ∙ pow-succ' 2 (w - 1)

-- what a window carries out, the carry into it included
abbrev pub carry : ℕ → ℕ → ℕ
carry w v = (v + 2 ^ (w - 1)) / 2 ^ w

pub carry-low : (w v : ℕ) → 1 ≤ w → v < 2 ^ (w - 1) → carry w v ≡ 0
carry-low w v h l = div-eq_of_lt (omega (arith, wide w h))

pub carry-high : (w v : ℕ) → 1 ≤ w → 2 ^ (w - 1) ≤ v → v ≤ 2 ^ w → carry w v ≡ 1
carry-high w v h a b = div-eq_of_lt-le (2 ^ w) {m = v + 2 ^ (w - 1)} (omega (arith, wide w h)) (omega (arith, wide w h, pow_pos (w - 1)))

pub carry-bit : (w v : ℕ) → 1 ≤ w → v ≤ 2 ^ w → carry w v ≤ 1
carry-bit w v h l = go (dec_lt v (2 ^ (w - 1)))
  where
    go : Dec (v < 2 ^ (w - 1)) → carry w v ≤ 1
    go (yes a) = omega (arith, carry-low w v h a)
    go (no n) = omega (arith, carry-high w v h (omega arith) l)

pub window-le : (w m c : ℕ) → c ≤ 1 → m % 2 ^ w + c ≤ 2 ^ w
window-le w m c h = omega (arith, mod-lt m (pow_pos w))

-- the digit of a window: the window itself below half, else less 2 ^ w
pub window-low : (w v : ℕ) → 1 ≤ w → v < 2 ^ (w - 1) → sub_ℕ v (carry w v * 2 ^ w) ≡ pos v
window-low w v h l = rw (carry-low w v h l, zero-mul (2 ^ w), le-ltb v 0 (omega arith)) (ap pos (omega arith))

pub window-high : (w v : ℕ) → 1 ≤ w → 2 ^ (w - 1) ≤ v → v ≤ 2 ^ w → sub_ℕ v (carry w v * 2 ^ w) ≡ sub_ℕ v (2 ^ w)
window-high w v h a b = rw (carry-high w v h a b, one-mul (2 ^ w))

-- a window of at most eight bits less what it carries out is from -128 to 127
pub near : (w v : ℕ) → 1 ≤ w → w ≤ 8 → v ≤ 2 ^ w → (carry w v * 2 ^ w ≤ 256) × ((carry w v * 2 ^ w ≤ v + 128) × (v < carry w v * 2 ^ w + 128))
near w v lo hi le = go (dec_lt v (2 ^ (w - 1)))
  where
    half : 2 ^ (w - 1) ≤ 128
    half = pow_mono {i = w - 1} {j = 7} (omega arith)

    go : Dec (v < 2 ^ (w - 1)) → (carry w v * 2 ^ w ≤ 256) × ((carry w v * 2 ^ w ≤ v + 128) × (v < carry w v * 2 ^ w + 128))
    go (yes l) = rw (carry-low w v lo l, zero-mul (2 ^ w)) (omega (arith, half))
    go (no l) = rw (carry-high w v lo (omega arith) le, one-mul (2 ^ w)) (omega (arith, half, wide w lo))

-- a carry c comes in at the lowest bit of m: the window and c say what is carried out
pub above-window : (w m c : ℕ) → above w (m + c) ≡ m / 2 ^ w + carry w (m % 2 ^ w + c)
unfolding above
above-window w m c =
    let e : m + c + 2 ^ (w - 1) ≡ m / 2 ^ w * 2 ^ w + (m % 2 ^ w + c + 2 ^ (w - 1)) = omega (arith, div-add-mod' m (2 ^ w)) in
    ap (λ (x : ℕ). x / 2 ^ w) e ∙ mul-add-div_right (pow_pos w) (m / 2 ^ w) (m % 2 ^ w + c + 2 ^ (w - 1))

-- what holds of the digit and of what is left: the digit is the window, or the window less 2 ^ w with a carry out
pub by-half : (P : ℤ → ℕ → Type 0) (w s : ℕ) → 1 ≤ w
    → (s % 2 ^ w < 2 ^ (w - 1) → P (pos (s % 2 ^ w)) (s / 2 ^ w))
    → (2 ^ (w - 1) ≤ s % 2 ^ w → P (negsuc (2 ^ w - suc (s % 2 ^ w))) (s / 2 ^ w + 1))
    → P (centred w s) (above w s)
unfolding centred
by-half P w s h low high = go (dec_lt (s % 2 ^ w) (2 ^ (w - 1)))
  where
    r : s % 2 ^ w < 2 ^ w
    r = mod-lt s (pow_pos w)

    left : above w s ≡ s / 2 ^ w + carry w (s % 2 ^ w)
    left = ap (above w) (sym (add-zero s)) ∙ above-window w s 0 ∙ ap (λ (x : ℕ). s / 2 ^ w + carry w x) (add-zero (s % 2 ^ w))

    go : Dec (s % 2 ^ w < 2 ^ (w - 1)) → P (cond (ltb (s % 2 ^ w) (2 ^ (w - 1))) (pos (s % 2 ^ w)) (sub_ℕ (s % 2 ^ w) (2 ^ w))) (above w s)
    go (yes a) = rw (lt-ltb (s % 2 ^ w) (2 ^ (w - 1)) a, left, carry-low w (s % 2 ^ w) h a, add-zero) (low a)
    go (no n) =
        let a : 2 ^ (w - 1) ≤ s % 2 ^ w = omega arith in
        let b : s % 2 ^ w ≤ 2 ^ w = omega (arith, r) in
        rw (le-ltb (s % 2 ^ w) (2 ^ (w - 1)) a, lt-ltb (s % 2 ^ w) (2 ^ w) r, left, carry-high w (s % 2 ^ w) h a b) (high a)

-- the digit and what is left make the number
pub centred-above : (w s : ℕ) → 1 ≤ w → plus (centred w s) + 2 ^ w * above w s ≡ s + minus (centred w s)
centred-above w s h =
    by-half (λ d q. plus d + 2 ^ w * q ≡ s + minus d) w s h
    (λ _. omega (arith, div-add-mod s (2 ^ w)))
    (λ _. rw (mul-add (2 ^ w) (s / 2 ^ w) 1) (omega (arith, div-add-mod s (2 ^ w), mod-lt s (pow_pos w))))

-- the digit lies in -2 ^ (w - 1) to 2 ^ (w - 1) - 1
pub centred-range : (w s : ℕ) → 1 ≤ w → mag (centred w s) < 2 ^ (w - 1)
centred-range w s h =
    by-half (λ d q. mag d < 2 ^ (w - 1)) w s h
    (λ a. a)
    (λ a. omega (arith, wide w h, mod-lt s (pow_pos w)))

-- of an odd number it is odd, and less than half from 0
pub half-even : (w : ℕ) → 2 ≤ w → 2 ^ (w - 1) ≡ 2 * 2 ^ (w - 2)
half-even w h =
    let e : w - 1 ≡ suc (w - 2) = omega arith in
    ap (λ (k : ℕ). 2 ^ k) e ∙ pow-succ' 2 (w - 2)

pub low_bit : (w s : ℕ) → 1 ≤ w → s % 2 ^ w % 2 ≡ s % 2
low_bit w s h =
    let e : w ≡ w - 1 + 1 = omega arith in
    ap (λ (k : ℕ). s % 2 ^ k % 2) e ∙ mod-mod-pow s (w - 1) 1

pub centred-odd : (w s : ℕ) → 2 ≤ w → s % 2 ≡ 1 → (nat_abs (centred w s) % 2 ≡ 1) × (nat_abs (centred w s) < 2 ^ (w - 1))
centred-odd w s h o =
    let k : 1 ≤ w = omega arith in
    let r : s % 2 ^ w % 2 ≡ 1 = low_bit w s k ∙ o in
    by-half (λ d q. (nat_abs d % 2 ≡ 1) × (nat_abs d < 2 ^ (w - 1))) w s k
    (λ a. (r, a))
    (λ a. odd (s % 2 ^ w) (2 ^ (w - 1)) (2 ^ (w - 2)) (2 ^ w) (half-even w h) (wide w k) (mod-lt s (pow_pos w)) r a)
  where
    odd : (r H h B : ℕ) → H ≡ 2 * h → B ≡ 2 * H → r < B → r % 2 ≡ 1 → H ≤ r → (suc (B - suc r) % 2 ≡ 1) × (suc (B - suc r) < H)
    odd r H h B e f l o a =
        let n : H < r = omega arith in
        omega arith

-- with a carry coming in below, the digit is the window less what is carried out
pub centred-window : (w m c : ℕ) → 1 ≤ w → c ≤ 1 → centred w (m + c) ≡ sub_ℕ (m % 2 ^ w + c) (carry w (m % 2 ^ w + c) * 2 ^ w)
unfolding centred
centred-window w m c h b =
    let v : ℕ = m % 2 ^ w + c in
    rw (← mod-add-mod m (2 ^ w) c) (go v (window-le w m c b) (dec_lt v (2 ^ (w - 1))) (dec_lt v (2 ^ w)))
  where
    go : (v : ℕ) → v ≤ 2 ^ w → Dec (v < 2 ^ (w - 1)) → Dec (v < 2 ^ w)
        → cond (ltb (v % 2 ^ w) (2 ^ (w - 1))) (pos (v % 2 ^ w)) (sub_ℕ (v % 2 ^ w) (2 ^ w)) ≡ sub_ℕ v (carry w v * 2 ^ w)
    go v le (yes a) (no n) = absurd (omega (arith, wide w h))
    go v le (yes a) (yes l) = rw (mod-eq_of_lt l, lt-ltb v (2 ^ (w - 1)) a) (sym (window-low w v h a))
    go v le (no n) (yes l) =
        let a : 2 ^ (w - 1) ≤ v = omega arith in
        rw (mod-eq_of_lt l, le-ltb v (2 ^ (w - 1)) a) (sym (window-high w v h a le))
    go v le (no n) (no l) =
        let e : v ≡ 2 ^ w = omega arith in
        let a : 2 ^ (w - 1) ≤ 2 ^ w = omega (arith, wide w h) in
        let o : 2 ^ w ≤ 2 ^ w = omega arith in
        rw (e, mod_self (2 ^ w), lt-ltb 0 (2 ^ (w - 1)) (pow_pos (w - 1)), window-high w (2 ^ w) h a o, le-ltb (2 ^ w) (2 ^ w) o) (ap pos (omega arith))

-- what is left of a number up to 2 ^ (w + k) is up to 2 ^ k
pub above-le : (w k s : ℕ) → 1 ≤ w → s ≤ 2 ^ (w + k) → above w s ≤ 2 ^ k
unfolding above
above-le w k s h l =
    let e : 2 ^ (w + k) ≡ 2 ^ w * 2 ^ k = pow-add 2 w k in
    let p : s + 2 ^ (w - 1) < (2 ^ k + 1) * 2 ^ w = rw (add-mul (2 ^ k) 1 (2 ^ w), mul_comm (2 ^ k) (2 ^ w)) (omega (arith, wide w h, pow_pos (w - 1))) in
    omega (arith, (div-lt_iff_lt-mul (pow_pos w)).1 p)

pub above_zero : (w s : ℕ) → 1 ≤ w → s < 2 ^ (w - 1) → above w s ≡ 0
unfolding above
above_zero w s h l = carry-low w s h l

-- ---- states of a recoder

-- f done n times
unfoldable pub after : (ℕ → ℕ) → ℕ → ℕ → ℕ
after f zero s = s
after f (suc n) s = after f n (f s)

pub after-add : (f : ℕ → ℕ) (m n s : ℕ) → after f (m + n) s ≡ after f n (after f m s)
unfolding after
after-add f zero n s = rw (zero-add n)
after-add f (suc m) n s = rw (suc-add m n) (after-add f m n (f s))

pub after_next : (f : ℕ → ℕ) (n s : ℕ) → after f (n + 1) s ≡ f (after f n s)
unfolding after
after_next f n s = after-add f n 1 s

-- where what is left of N from bit b on, with the carry c, is above it
pub above_at : (w N b c : ℕ) → above w (N / 2 ^ b + c) ≡ N / 2 ^ (b + w) + carry w (N / 2 ^ b % 2 ^ w + c)
above_at w N b c = above-window w (N / 2 ^ b) c ∙ ap (λ (x : ℕ). x + carry w (N / 2 ^ b % 2 ^ w + c)) (shr-shr N b w)
