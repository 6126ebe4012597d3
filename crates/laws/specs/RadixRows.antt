-- Radix rows, for the widths 4 to 8: the row of a scalar by its states, and how large its digits are.
use Rattle.std.specs.Prelude.{◌≡◌, refl, ℕ, zero, suc, ◌+◌, ◌-◌, ◌*◌, ◌/◌, ◌%◌, ◌^◌, ◌≤◌, ◌<◌, replicate, pos, nat_abs}
use Rattle.std.proofs.Common.{sym, ◌∙◌, subst, mul-zero, mul-add, mul-one, mul-suc, lt_of_lt_of_le, le_of_lt, le_trans, arith, length-append, pow_mono}
use Rattle.std.proofs.Math.Path.{ap}
use mathlib.Core.List.{List}
use Rattle.std.proofs.Math.Nat.{div-one}
use Rattle.std.proofs.Math.Decide.{dec_lt}
use Rattle.std.proofs.Math.ListN.{length, length-replicate, get_or-append}
use Rattle.std.proofs.Math.Seq.{get_or-append-add}
use Rattle.std.proofs.Math.Pow.{shr_mod}
use Rattle.std.proofs.Math.IntN.{ℤ, sub_ℕ}
use Rattle.std.specs.Int.Signed.{mag, nat_abs-le}
use Rattle.rules.specs.Numbers.{row_bound, scalar_bound}
use Rattle.rules.specs.Rows.{digit, UpTo, used_places, centred, above, radix_digits, radix_row}
use Rattle.laws.specs.DigitsSum.{get_or-zeros}
use Rattle.laws.specs.Digits.{carry, centred-window, centred-range, above_at, above-le, after, after_next}

-- a scalar that the engines take has a row
pub scalar-has-row : {s : ℕ} → s < scalar_bound → s < row_bound
unfolding scalar_bound row_bound
scalar-has-row h = h

-- a fact of each width
by_width : (P : ℕ → Type 0) → P 4 → P 5 → P 6 → P 7 → P 8 → (w : ℕ) → 4 ≤ w → w ≤ 8 → P w
by_width P p4 p5 p6 p7 p8 w lo hi =
    let e : 4 + (w - 4) ≡ w = omega arith in
    subst P e (go (w - 4) (omega arith))
  where
    go : (k : ℕ) → k ≤ 4 → P (4 + k)
    go zero h = p4
    go (suc zero) h = p5
    go (suc (suc zero)) h = p6
    go (suc (suc (suc zero))) h = p7
    go (suc (suc (suc (suc zero)))) h = p8
    go (suc (suc (suc (suc (suc k))))) h = absurd (omega arith)

-- the places used: how many there are, what the last of them weighs, and that each starts within 256 bits
pub record Place (w : ℕ) : Type 0 where
  pub some : 1 ≤ used_places w
  pub inside : used_places w ≤ 64
  pub low : 252 ≤ w * (used_places w - 1)
  pub starts : (i : ℕ) → i < used_places w → i * w ≤ 256

pub place : (w : ℕ) → 4 ≤ w → w ≤ 8 → Place w
unfolding used_places
place = by_width Place (omega arith) (omega arith) (omega arith) (omega arith) (omega arith)

-- ---- the row, digit by digit

length_digits : (w n s : ℕ) → length (radix_digits w n s) ≡ suc n
unfolding radix_digits
length_digits w zero s = refl
length_digits w (suc n) s = ap suc (length_digits w n (above w s))

digit_at_lem : (w n s i : ℕ) → i < n → digit (radix_digits w n s) i ≡ centred w (after (above w) i s)
unfolding radix_digits after
digit_at_lem w zero s i h = absurd (omega arith)
digit_at_lem w (suc n) s zero h = refl
digit_at_lem w (suc n) s (suc i) h = digit_at_lem w n (above w s) i (omega arith)

digit-end : (w n s : ℕ) → digit (radix_digits w n s) n ≡ pos (after (above w) n s)
unfolding radix_digits after
digit-end w zero s = refl
digit-end w (suc n) s = digit-end w n (above w s)

-- what is left after n digits of a number up to 2 ^ (w * n + k)
left_le : (w n k s : ℕ) → 1 ≤ w → s ≤ 2 ^ (w * n + k) → after (above w) n s ≤ 2 ^ k
unfolding after
left_le w zero k s h l =
    let e : w * 0 + k ≡ k = rw (mul-zero w) (omega arith) in
    subst (λ (x : ℕ). s ≤ 2 ^ x) e l
left_le w (suc n) k s h l =
    let e : w * suc n + k ≡ w + (w * n + k) = rw (mul-suc w n) (omega arith) in
    left_le w n k (above w s) h (above-le w (w * n + k) s h (subst (λ (x : ℕ). s ≤ 2 ^ x) e l))

module _ (w : ℕ) (lo : 4 ≤ w) (hi : w ≤ 8) where
  some : 1 ≤ w
  some = omega arith

  used : suc (used_places w - 1) ≡ used_places w
  used = omega (arith, (place w lo hi).some)

  pub radix-length : (s : ℕ) → length (radix_row w s) ≡ 64
  unfolding radix_row
  radix-length s =
      rw (length-append (radix_digits w (used_places w - 1) s), length_digits w (used_places w - 1) s, length-replicate (64 - used_places w) (pos 0))
      (omega (arith, place w lo hi))

  inner : (s i : ℕ) → i < used_places w → digit (radix_row w s) i ≡ digit (radix_digits w (used_places w - 1) s) i
  unfolding radix_row
  inner s i h =
      get_or-append (radix_digits w (used_places w - 1) s) (replicate (64 - used_places w) (pos 0)) (pos 0) i
      (omega (arith, length_digits w (used_places w - 1) s, used))

  -- below the last carry target a digit is what is left there, centred; at it all that is left; past it 0
  pub radix-digit : (s i : ℕ) → i + 1 < used_places w → digit (radix_row w s) i ≡ centred w (after (above w) i s)
  radix-digit s i h = inner s i (omega arith) ∙ digit_at_lem w (used_places w - 1) s i (omega arith)

  pub radix-last : (s : ℕ) → digit (radix_row w s) (used_places w - 1) ≡ pos (after (above w) (used_places w - 1) s)
  radix-last s = inner s (used_places w - 1) (omega (arith, used)) ∙ digit-end w (used_places w - 1) s

  pub radix-rest : (s i : ℕ) → used_places w < i + 1 → digit (radix_row w s) i ≡ pos 0
  unfolding radix_row
  radix-rest s i h =
      let l : List ℤ = radix_digits w (used_places w - 1) s in
      let e : length l + (i - used_places w) ≡ i = omega (arith, length_digits w (used_places w - 1) s, used) in
      ap (digit (radix_row w s)) (sym e) ∙ get_or-append-add l (replicate (64 - used_places w) (pos 0)) (i - used_places w) (pos 0) ∙ get_or-zeros (64 - used_places w) (i - used_places w)

  pub radix-range : (s i : ℕ) → i + 1 < used_places w → mag (digit (radix_row w s) i) < 2 ^ (w - 1)
  radix-range s i h = rw (radix-digit s i h) (centred-range w (after (above w) i s) some)

  -- ---- how large the digits are

  last-le : (k s : ℕ) → s ≤ 2 ^ (w * (used_places w - 1) + k) → after (above w) (used_places w - 1) s ≤ 2 ^ k
  last-le k s l = left_le w (used_places w - 1) k s some l

  -- what the last place holds, for a scalar of 32 bytes
  pub radix-last-16 : (s : ℕ) → s < 2 ^ 256 → after (above w) (used_places w - 1) s ≤ 16
  radix-last-16 s l = last-le 4 s (le_trans (le_of_lt l) (pow_mono {i = 256} {j = w * (used_places w - 1) + 4} (omega (arith, (place w lo hi).low))))

  -- and for one below the bound of rows
  pub radix-last-8 : (s : ℕ) → s < row_bound → after (above w) (used_places w - 1) s ≤ 8
  unfolding row_bound
  radix-last-8 s l = last-le 3 s (le_trans (le_of_lt l) (pow_mono {i = 255} {j = w * (used_places w - 1) + 3} (omega (arith, (place w lo hi).low))))

  -- what holds of the digits below the last place, of the last and of 0 holds of all
  each : (P : ℤ → Type 0) (s : ℕ) → ((i : ℕ) → i + 1 < used_places w → P (digit (radix_row w s) i)) → P (pos (after (above w) (used_places w - 1) s)) → P (pos 0)
      → (i : ℕ) → P (digit (radix_row w s) i)
  each P s low top z i = go (dec_lt (i + 1) (used_places w)) (dec_lt (used_places w) (i + 1))
    where
      go : Dec (i + 1 < used_places w) → Dec (used_places w < i + 1) → P (digit (radix_row w s) i)
      go (yes a) b = low i a
      go (no a) (yes b) = rw (radix-rest s i b) z
      go (no a) (no b) =
          let e : i ≡ used_places w - 1 = omega arith in
          rw (e, radix-last s) top

  half : 8 ≤ 2 ^ (w - 1)
  half = pow_mono {i = 3} {j = w - 1} (omega arith)

  -- from w = 5 on the last digit lies in the range of the others
  pub radix-last-range : (s : ℕ) → 5 ≤ w → s < row_bound → mag (digit (radix_row w s) (used_places w - 1)) < 2 ^ (w - 1)
  radix-last-range s h l = rw (radix-last s) (omega (arith, radix-last-8 s l, pow_mono {i = 4} {j = w - 1} (omega arith)))

  -- each digit of a row of 32 bytes fits i8
  pub radix-byte : (s : ℕ) → s < 2 ^ 256 → (i : ℕ) → mag (digit (radix_row w s) i) < 128
  radix-byte s l =
      each (λ d. mag d < 128) s
      (λ i h. lt_of_lt_of_le (radix-range s i h) (pow_mono {i = w - 1} {j = 7} (omega arith)))
      (omega (arith, radix-last-16 s l))
      (omega arith)

  -- each digit has its entry in a window, its bucket, of 2 ^ (w - 1)
  pub radix-small : (s : ℕ) → s < row_bound → (i : ℕ) → nat_abs (digit (radix_row w s) i) ≤ 2 ^ (w - 1)
  radix-small s l =
      each (λ d. nat_abs d ≤ 2 ^ (w - 1)) s
      (λ i h. nat_abs-le (digit (radix_row w s) i) (radix-range s i h))
      (omega (arith, radix-last-8 s l, half))
      (omega arith)

  -- ---- in the recoder's own numbers: the window at place i with the carry c into it

  pub radix-start : (N : ℕ) → after (above w) 0 N ≡ N / 2 ^ (w * 0) + 0
  unfolding after
  radix-start N = rw (mul-zero w) (omega (arith, div-one N))

  module _ (N i c : ℕ) (bit : c ≤ 1) (state : after (above w) i N ≡ N / 2 ^ (w * i) + c) where
    pub radix-state : after (above w) (i + 1) N ≡ N / 2 ^ (w * (i + 1)) + carry w (N / 2 ^ (w * i) % 2 ^ w + c)
    radix-state =
        let e : w * i + w ≡ w * (i + 1) = rw (mul-add w i 1, mul-one w) in
        after_next (above w) i N ∙ ap (above w) state ∙ above_at w N (w * i) c ∙ ap (λ (x : ℕ). N / 2 ^ x + carry w (N / 2 ^ (w * i) % 2 ^ w + c)) e

    pub radix-window : i + 1 < used_places w → digit (radix_row w N) i ≡ sub_ℕ (N / 2 ^ (w * i) % 2 ^ w + c) (carry w (N / 2 ^ (w * i) % 2 ^ w + c) * 2 ^ w)
    radix-window h = radix-digit N i h ∙ ap (centred w) state ∙ centred-window w (N / 2 ^ (w * i)) c some bit

    -- at the last place all of it stays: for 32 bytes it is the window with the carry
    pub radix-window-last : i + 1 ≡ used_places w → N < 2 ^ 256 → digit (radix_row w N) i ≡ pos (N / 2 ^ (w * i) % 2 ^ w + c)
    radix-window-last h l =
        let e : i ≡ used_places w - 1 = omega arith in
        let m : 252 ≤ w * i = rw e (place w lo hi).low in
        let t : N / 2 ^ (w * i) % 2 ^ w ≡ N / 2 ^ (w * i) = shr_mod {n = N} w (w * i) (lt_of_lt_of_le l (pow_mono {i = 256} {j = w + w * i} (omega arith))) in
        rw t (ap (digit (radix_row w N)) e ∙ radix-last N ∙ ap (λ (x : ℕ). pos (after (above w) x N)) (sym e) ∙ ap pos state)

-- at w = 4 the last digit is 0 to 8
pub radix-16-last : (s : ℕ) → s < row_bound → UpTo 8 (digit (radix_row 4 s) 63)
unfolding used_places
radix-16-last s l =
    let lo : 4 ≤ 4 = omega arith in
    let hi : 4 ≤ 8 = omega arith in
    (after (above 4) 63 s, radix-last 4 lo hi s, radix-last-8 4 lo hi s l)

-- at w = 8 it is 0 or 1
pub radix-256-last : (s : ℕ) → s < row_bound → UpTo 1 (digit (radix_row 8 s) 32)
unfolding used_places row_bound
radix-256-last s l =
    let hi : 8 ≤ 8 = omega arith in
    (after (above 8) 32 s, radix-last 8 (omega arith) hi s, left_le 8 32 0 s (omega arith) (le_trans (le_of_lt l) (pow_mono {i = 255} {j = 256} (omega arith))))
