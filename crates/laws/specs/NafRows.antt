-- NAF rows, for the widths from 2: the row of a number by its states, and how large its digits are. They hold of every number.
use Rattle.std.specs.Prelude.{◌≡◌, refl, cond, ℕ, zero, suc, ◌+◌, ◌-◌, ◌*◌, ◌/◌, ◌%◌, ◌^◌, ◌≤◌, ◌<◌, length, ℤ, pos, nat_abs, eqb}
use Rattle.std.proofs.Common.{ap, ◌∙◌, mul_assoc, one-mul, add-zero, suc-add, zero-add, div-one, arith, pow_pos, shr-shr, eq-eqb, ne_eqb}
use Rattle.std.proofs.Math.Nat.{pow-succ', mul-mod_right, mul-div_right}
use Rattle.std.proofs.Math.Decide.{dec_lt, ℕ_discrete}
use Rattle.std.proofs.Math.ListN.{get_or-eq_default}
use Rattle.std.proofs.Math.IntN.{sub_ℕ}
use Rattle.rules.specs.Loops.{odd_entry}
use Rattle.rules.specs.Rows.{digit, centred, above, naf_digits, naf_row}
use Rattle.laws.specs.Digits.{half-even, low_bit, carry, centred-window, centred-odd, above_at, after, after-add, after_next}

-- the digit of a state, and the state after it
abbrev pub naf_digit : ℕ → ℕ → ℤ
naf_digit w s = cond (eqb (s % 2) 0) (pos 0) (centred w s)

abbrev pub naf_next : ℕ → ℕ → ℕ
naf_next w s = cond (eqb (s % 2) 0) (s / 2) (2 ^ (w - 1) * above w s)

-- what holds of the digit and of the state after it
pub by-parity : (w s : ℕ) (P : ℤ → ℕ → Type 0) → (s % 2 ≡ 0 → P (pos 0) (s / 2)) → (s % 2 ≡ 1 → P (centred w s) (2 ^ (w - 1) * above w s)) → P (naf_digit w s) (naf_next w s)
by-parity w s P even odd = go (ℕ_discrete (s % 2) 0)
  where
    go : Dec (s % 2 ≡ 0) → P (naf_digit w s) (naf_next w s)
    go (yes e) = rw (eq-eqb (s % 2) 0 e) (even e)
    go (no n) = rw (ne_eqb (s % 2) 0 n) (odd (omega arith))

even-digit : (w s : ℕ) → s % 2 ≡ 0 → naf_digit w s ≡ pos 0
even-digit w s e = rw (eq-eqb (s % 2) 0 e)

even-next : (w s : ℕ) → s % 2 ≡ 0 → naf_next w s ≡ s / 2
even-next w s e = rw (eq-eqb (s % 2) 0 e)

odd-digit : (w s : ℕ) → s % 2 ≡ 1 → naf_digit w s ≡ centred w s
odd-digit w s e = rw (ne_eqb (s % 2) 0 (omega arith))

odd-next : (w s : ℕ) → s % 2 ≡ 1 → naf_next w s ≡ 2 ^ (w - 1) * above w s
odd-next w s e = rw (ne_eqb (s % 2) 0 (omega arith))

-- a multiple of a power of 2: so many places hold 0
twice-even : (k a : ℕ) → (2 ^ suc k * a) % 2 ≡ 0
twice-even k a = rw (pow-succ' 2 k, mul_assoc 2 (2 ^ k) a) (mul-mod_right 2 (2 ^ k * a))

twice-next : (w k a : ℕ) → naf_next w (2 ^ suc k * a) ≡ 2 ^ k * a
twice-next w k a = even-next w (2 ^ suc k * a) (twice-even k a) ∙ rw (pow-succ' 2 k, mul_assoc 2 (2 ^ k) a) (mul-div_right (2 ^ k * a) (omega arith))

after-zeros : (w m k a : ℕ) → after (naf_next w) m (2 ^ (m + k) * a) ≡ 2 ^ k * a
unfolding after
after-zeros w zero k a = rw (zero-add k)
after-zeros w (suc m) k a =
    let e : naf_next w (2 ^ (suc m + k) * a) ≡ 2 ^ (m + k) * a = rw (suc-add m k) (twice-next w (m + k) a) in
    ap (after (naf_next w) m) e ∙ after-zeros w m k a

-- ---- the row, digit by digit

length_digits : (w n s : ℕ) → length (naf_digits w n s) ≡ n
unfolding naf_digits
length_digits w zero s = refl
length_digits w (suc n) s = ap suc (length_digits w n (naf_next w s))

digit_at_lem : (w n s j : ℕ) → j < n → digit (naf_digits w n s) j ≡ naf_digit w (after (naf_next w) j s)
unfolding naf_digits after
digit_at_lem w zero s j h = absurd (omega arith)
digit_at_lem w (suc n) s zero h = refl
digit_at_lem w (suc n) s (suc j) h = digit_at_lem w n (naf_next w s) j (omega arith)

-- after an odd state there are w - 1 places with 0, and then what is left
after-odd : (w s : ℕ) → 1 ≤ w → s % 2 ≡ 1 → after (naf_next w) w s ≡ above w s
unfolding after
after-odd w s h e =
    let n : w ≡ suc (w - 1) = omega arith in
    let z : after (naf_next w) (w - 1) (2 ^ (w - 1 + 0) * above w s) ≡ 1 * above w s = after-zeros w (w - 1) 0 (above w s) in
    ap (λ (k : ℕ). after (naf_next w) k s) n ∙ ap (after (naf_next w) (w - 1)) (odd-next w s e) ∙ rw (add-zero (w - 1), one-mul (above w s)) at z

gap-odd : (w s m : ℕ) → 0 < m → m < w → s % 2 ≡ 1 → naf_digit w (after (naf_next w) m s) ≡ pos 0
unfolding after
gap-odd w s zero a b e = absurd (omega arith)
gap-odd w s (suc m) a b e =
    let n : w - 1 ≡ m + suc (w - 2 - m) = omega arith in
    let f : after (naf_next w) m (naf_next w s) ≡ 2 ^ suc (w - 2 - m) * above w s =
    ap (after (naf_next w) m) (odd-next w s e ∙ ap (λ (x : ℕ). 2 ^ x * above w s) n) ∙ after-zeros w m (suc (w - 2 - m)) (above w s) in
    ap (naf_digit w) f ∙ even-digit w (2 ^ suc (w - 2 - m) * above w s) (twice-even (w - 2 - m) (above w s))

pub naf-length : (w s : ℕ) → length (naf_row w s) ≡ 256
unfolding naf_row
naf-length w s = length_digits w 256 s

pub naf-digit : (w s j : ℕ) → j < 256 → digit (naf_row w s) j ≡ naf_digit w (after (naf_next w) j s)
unfolding naf_row
naf-digit w s j h = digit_at_lem w 256 s j h

past : (w s j : ℕ) → 256 ≤ j → digit (naf_row w s) j ≡ pos 0
past w s j h = get_or-eq_default (naf_row w s) (pos 0) (omega (arith, naf-length w s))

-- what holds of 0 and of the digits of all states holds of each digit
each : (P : ℤ → Type 0) (w s : ℕ) → P (pos 0) → ((t : ℕ) → t % 2 ≡ 1 → P (centred w t)) → (j : ℕ) → P (digit (naf_row w s) j)
each P w s z o j = go (dec_lt j 256)
  where
    go : Dec (j < 256) → P (digit (naf_row w s) j)
    go (yes h) = rw (naf-digit w s j h) (by-parity w (after (naf_next w) j s) (λ d _. P d) (λ _. z) (o (after (naf_next w) j s)))
    go (no h) = rw (past w s j (omega arith)) z

-- what follows an odd state at place i is 0 for w - 1 places
gap : (w s i j : ℕ) → i < j → j < i + w → after (naf_next w) i s % 2 ≡ 1 → digit (naf_row w s) j ≡ pos 0
gap w s i j l r e = go (dec_lt j 256)
  where
    go : Dec (j < 256) → digit (naf_row w s) j ≡ pos 0
    go (no h) = past w s j (omega arith)
    go (yes h) =
        let k : j ≡ i + (j - i) = omega arith in
        naf-digit w s j h
        ∙ ap (naf_digit w) (ap (λ (x : ℕ). after (naf_next w) x s) k ∙ after-add (naf_next w) i (j - i) s)
        ∙ gap-odd w (after (naf_next w) i s) (j - i) (omega arith) (omega arith) e

-- each digit is 0 or odd, and less than half from 0: whatever the number
pub naf-digit-odd : (w s : ℕ) → 2 ≤ w → (j : ℕ) → (digit (naf_row w s) j ≡ pos 0 → ⊥) → nat_abs (digit (naf_row w s) j) % 2 ≡ 1
naf-digit-odd w s h = each (λ d. (d ≡ pos 0 → ⊥) → nat_abs d % 2 ≡ 1) w s (λ n. absurd (n refl)) (λ t o _. (centred-odd w t h o).0)

pub naf-small : (w s : ℕ) → 2 ≤ w → (j : ℕ) → nat_abs (digit (naf_row w s) j) < 2 ^ (w - 1)
naf-small w s h = each (λ d. nat_abs d < 2 ^ (w - 1)) w s (pow_pos (w - 1)) (λ t o. (centred-odd w t h o).1)

-- of w neighbours at most one is not 0
pub naf-apart : (w s i j : ℕ) → i < j → j < i + w → (digit (naf_row w s) i ≡ pos 0 → ⊥) → digit (naf_row w s) j ≡ pos 0
naf-apart w s i j l r n = go (dec_lt i 256) (ℕ_discrete (after (naf_next w) i s % 2) 0)
  where
    go : Dec (i < 256) → Dec (after (naf_next w) i s % 2 ≡ 0) → digit (naf_row w s) j ≡ pos 0
    go (no h) e = absurd (n (past w s i (omega arith)))
    go (yes h) (yes e) = absurd (n (naf-digit w s i h ∙ even-digit w (after (naf_next w) i s) e))
    go (yes h) (no e) = gap w s i j l r (omega arith)

pub naf-entry : (w s : ℕ) → 2 ≤ w → (j : ℕ) → odd_entry (digit (naf_row w s) j) < 2 ^ (w - 2)
unfolding odd_entry
naf-entry w s h j = omega (arith, naf-small w s h j, half-even w h, pow_pos (w - 2))

-- ---- in the recoder's own numbers: the window at place b with the carry c into it

pub naf-start : (w N : ℕ) → after (naf_next w) 0 N ≡ N / 2 ^ 0 + 0
unfolding after
naf-start w N = omega (arith, div-one N)

module _ (w : ℕ) (lo : 2 ≤ w) (N b c : ℕ) (bit : c ≤ 1) (state : after (naf_next w) b N ≡ N / 2 ^ b + c) where
  parity : (N / 2 ^ b + c) % 2 ≡ (N / 2 ^ b % 2 ^ w + c) % 2
  parity = omega (arith, low_bit w (N / 2 ^ b) (omega arith))

  -- an even window: 0 stands there, and the carry goes on
  pub naf-skip : (N / 2 ^ b % 2 ^ w + c) % 2 ≡ 0 → b < 256 → digit (naf_row w N) b ≡ pos 0
  naf-skip e h = naf-digit w N b h ∙ ap (naf_digit w) state ∙ even-digit w (N / 2 ^ b + c) (parity ∙ e)

  pub naf-skipped : (N / 2 ^ b % 2 ^ w + c) % 2 ≡ 0 → after (naf_next w) (b + 1) N ≡ N / 2 ^ (b + 1) + c
  naf-skipped e =
      let f : (N / 2 ^ b + c) / 2 ≡ N / 2 ^ b / 2 ^ 1 + c = omega (arith, parity) in
      after_next (naf_next w) b N ∙ ap (naf_next w) state ∙ even-next w (N / 2 ^ b + c) (parity ∙ e) ∙ f ∙ ap (λ (x : ℕ). x + c) (shr-shr N b 1)

  -- an odd one: the window less what is carried out, then w - 1 zeros
  pub naf-put : (N / 2 ^ b % 2 ^ w + c) % 2 ≡ 1 → b < 256 → digit (naf_row w N) b ≡ sub_ℕ (N / 2 ^ b % 2 ^ w + c) (carry w (N / 2 ^ b % 2 ^ w + c) * 2 ^ w)
  naf-put e h =
      naf-digit w N b h ∙ ap (naf_digit w) state ∙ odd-digit w (N / 2 ^ b + c) (parity ∙ e) ∙ centred-window w (N / 2 ^ b) c (omega arith) bit

  pub naf-gap : (N / 2 ^ b % 2 ^ w + c) % 2 ≡ 1 → (j : ℕ) → b < j → j < b + w → digit (naf_row w N) j ≡ pos 0
  naf-gap e j l r = gap w N b j l r (ap (λ (x : ℕ). x % 2) state ∙ parity ∙ e)

  pub naf-passed : (N / 2 ^ b % 2 ^ w + c) % 2 ≡ 1 → after (naf_next w) (b + w) N ≡ N / 2 ^ (b + w) + carry w (N / 2 ^ b % 2 ^ w + c)
  naf-passed e =
      after-add (naf_next w) b w N ∙ ap (after (naf_next w) w) state ∙ after-odd w (N / 2 ^ b + c) (omega arith) (parity ∙ e) ∙ above_at w N b c
