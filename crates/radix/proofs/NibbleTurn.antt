-- A scalar's bytes taken apart into digits of four bits, and the turns that recentre them.
use mathlib.Core.Path.{◌≡◌, refl, sym, ap, ◌∙◌}
use mathlib.Core.List.{List}
use Prim.Native.Nat.{ℕ, ◌+◌, ◌*◌, ◌/◌, ◌%◌, ◌^◌, ◌≤◌, ◌<◌}
use native.Mathlib.Omega.{arith}
use native.Mathlib.Decide.{dec_lt, ℕ_discrete}
use lib.ListN.{length, get_or, set, take, replicate, length-set, length-take, get_or-eq_default}
use lib.Seq.{get_or-set_same, get_or-set_other, get_or-take, ext_get_or}
use lib.Pow.{shr-shr}
use lib.IntN.{ℤ, pos, sub_ℕ}
use Rattle.rules.specs.Values.{number, Below}
use Rattle.rules.specs.Rows.{digit, above, radix_row, used_places}
use Rattle.laws.specs.Digits.{carry, carry-bit, window-le, after}
use Rattle.laws.specs.RadixRows.{radix-length, radix-start, radix-state, radix-window, radix-window-last}
use Rattle.radix.specs.Nibbles.{Nibbles}
use Rattle.laws.proofs.Numerals.{number_at, number-from}

-- ---- a byte of the first 32, in the number that they say

taken-below : (l : List ℕ) (n : ℕ) → Below 256 l → Below 256 (take n l)
taken-below l n b i = go (dec_lt i n)
  where
    go : Dec (i < n) → get_or (take n l) i 0 < 256
    go (yes h) = rw (get_or-take n l i 0 h) (b i)
    go (no h) = rw (get_or-eq_default (take n l) 0 {n = i} (simp length-take (omega arith))) (omega arith)

pub byte-is : (l : List ℕ) → Below 256 l → (i : ℕ) → i < 32 → get_or l i 0 ≡ number 256 (take 32 l) / 2 ^ (8 * i) % 256
byte-is l b i h =
    let t : List ℕ = take 32 l in
    omega (arith, get_or-take 32 l i 0 h, number-from 8 t (taken-below l 32 b) i, number_at 256 t i, taken-below l 32 b i)

-- ---- two digits a byte

-- what is done after i bytes of n
pub record Halves (row : List ℤ) (n i : ℕ) : Type 0 where
  pub long : length row ≡ 64
  pub four : (j : ℕ) → j < 2 * i → digit row j ≡ pos (n / 2 ^ (4 * j) % 2 ^ 4)

pub halves-none : (n : ℕ) → Halves (replicate 64 (pos 0)) n 0
halves-none n = record { long = refl; four = λ j h. absurd (omega arith) }

pub halves-end : (row : List ℤ) (n i : ℕ) → Halves row n i → 32 ≤ i → Nibbles row n
halves-end row n i h e = record { long = h.long; four = λ j l. h.four j (omega arith) }

module _ (row : List ℤ) (n i b : ℕ) (h : Halves row n i) (lt : i < 32) (is : b ≡ n / 2 ^ (8 * i) % 256) (x y : ℤ) (low : x ≡ pos (b % 16)) (high : y ≡ pos (b / 16 % 16)) where
  bottom : x ≡ pos (n / 2 ^ (4 * (2 * i)) % 2 ^ 4)
  bottom =
      let e : 4 * (2 * i) ≡ 8 * i = omega arith in
      low ∙ rw e (ap pos (omega arith))

  top : y ≡ pos (n / 2 ^ (4 * (2 * i + 1)) % 2 ^ 4)
  top =
      let e : 4 * (2 * i + 1) ≡ 8 * i + 4 = omega arith in
      high ∙ rw (e, ← shr-shr n (8 * i) 4) (ap pos (omega arith))

  pub halves-more : Halves (set (set row (2 * i) x) (2 * i + 1) y) n (i + 1)
  halves-more =
      record {
        long = simp length-set h.long;
        four = λ j l. go j l (ℕ_discrete j (2 * i + 1)) (ℕ_discrete j (2 * i));
      }
    where
      go : (j : ℕ) → j < 2 * (i + 1) → Dec (j ≡ 2 * i + 1) → Dec (j ≡ 2 * i) → digit (set (set row (2 * i) x) (2 * i + 1) y) j ≡ pos (n / 2 ^ (4 * j) % 2 ^ 4)
      go j l (yes e) _ = rw e (get_or-set_same (set row (2 * i) x) (2 * i + 1) y (pos 0) (simp length-set (omega (arith, h.long))) ∙ top)
      go j l (no q) (yes e) =
          get_or-set_other (set row (2 * i) x) (2 * i + 1) j y (pos 0) q
          ∙ rw e (get_or-set_same row (2 * i) x (pos 0) (omega (arith, h.long)) ∙ bottom)
      go j l (no q) (no r) =
          get_or-set_other (set row (2 * i) x) (2 * i + 1) j y (pos 0) q ∙ get_or-set_other row (2 * i) j x (pos 0) r ∙ h.four j (omega arith)

-- ---- recentred one by one

-- what is done below place i of N, with the carry into it added there already
pub record Centring (N : ℕ) (row : List ℤ) (i : ℕ) : Type 0 where
  pub c : ℕ
  pub bit : c ≤ 1
  pub state : after (above 4) i N ≡ N / 2 ^ (4 * i) + c
  pub long : length row ≡ 64
  pub done : (j : ℕ) → j < i → digit row j ≡ digit (radix_row 4 N) j
  pub here : digit row i ≡ pos (N / 2 ^ (4 * i) % 2 ^ 4 + c)
  pub rest : (j : ℕ) → i < j → j < 64 → digit row j ≡ pos (N / 2 ^ (4 * j) % 2 ^ 4)

pub centring-none : (N : ℕ) (row : List ℤ) → Nibbles row N → Centring N row 0
centring-none N row h =
    record {
      c = 0;
      bit = omega arith;
      state = radix-start 4 (omega arith) (omega arith) N;
      long = h.long;
      done = λ j l. absurd (omega arith);
      here = h.four 0 (omega arith) ∙ ap pos (omega arith);
      rest = λ j _ l. h.four j l;
    }

-- the last digit takes its carry, and stays
pub centring-end : (N : ℕ) → N < 2 ^ 256 → (row : List ℤ) (i : ℕ) → Centring N row i → i ≡ 63 → row ≡ radix_row 4 N
unfolding used_places
centring-end N l row i h e =
    ext_get_or (pos 0) row (radix_row 4 N) (h.long ∙ sym (radix-length 4 (omega arith) (omega arith) N)) (λ j k. go j (omega (arith, h.long)) (dec_lt j i))
  where
    go : (j : ℕ) → j < 64 → Dec (j < i) → digit row j ≡ digit (radix_row 4 N) j
    go j k (yes q) = h.done j q
    go j k (no q) =
        let f : j ≡ i = omega arith in
        rw f (h.here ∙ sym (radix-window-last 4 (omega arith) (omega arith) N i h.c h.bit h.state (omega arith) l))

module _ (N : ℕ) (row : List ℤ) (i : ℕ) (h : Centring N row i) (lt : i < 63) where
  -- the digit here, and the next one once x stands for it
  pub v : ℕ
  v = N / 2 ^ (4 * i) % 2 ^ 4 + h.c

  pub v-le : v ≤ 16
  unfolding v
  v-le = window-le 4 (N / 2 ^ (4 * i)) h.c h.bit

  pub here-is : digit row i ≡ pos v
  unfolding v
  here-is = h.here

  pub carry-le : carry 4 v ≤ 1
  carry-le = carry-bit 4 v (omega arith) v-le

  pub next-is : (x : ℤ) → digit (set row i x) (i + 1) ≡ pos (N / 2 ^ (4 * (i + 1)) % 2 ^ 4)
  next-is x = get_or-set_other row i (i + 1) x (pos 0) (λ e. omega arith) ∙ h.rest (i + 1) (omega arith) (omega arith)

  pub centring-more : (x y : ℤ) → x ≡ sub_ℕ v (carry 4 v * 2 ^ 4) → y ≡ pos (N / 2 ^ (4 * (i + 1)) % 2 ^ 4 + carry 4 v) → Centring N (set (set row i x) (i + 1) y) (i + 1)
  unfolding v used_places
  centring-more x y p q =
      record {
        c = carry 4 v;
        bit = carry-le;
        state = radix-state 4 (omega arith) (omega arith) N i h.c h.bit h.state;
        long = simp length-set h.long;
        done = λ j l. get_or-set_other (set row i x) (i + 1) j y (pos 0) (λ e. omega arith) ∙ go j l (ℕ_discrete j i);
        here = get_or-set_same (set row i x) (i + 1) y (pos 0) (simp length-set (omega (arith, h.long))) ∙ q;
        rest = λ j l m.
            get_or-set_other (set row i x) (i + 1) j y (pos 0) (λ e. omega arith)
            ∙ get_or-set_other row i j x (pos 0) (λ e. omega arith)
            ∙ h.rest j (omega arith) m;
      }
    where
      go : (j : ℕ) → j < i + 1 → Dec (j ≡ i) → digit (set row i x) j ≡ digit (radix_row 4 N) j
      go j l (yes e) =
          rw e
          (get_or-set_same row i x (pos 0) (omega (arith, h.long))
          ∙ p ∙ sym (radix-window 4 (omega arith) (omega arith) N i h.c h.bit h.state (omega arith)))
      go j l (no n) = get_or-set_other row i j x (pos 0) n ∙ h.done j (omega arith)
