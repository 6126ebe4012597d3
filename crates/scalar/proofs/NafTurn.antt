-- The turns of the NAF recoder, by the width: what is done below a place, what waits from it on.
use Rattle.std.proofs.Common.{◌≡◌, ℕ, ◌+◌, ◌-◌, ◌*◌, ◌/◌, ◌%◌, ◌^◌, ◌<◌, ◌≤◌, List, length, set, replicate, ℤ, pos, sym, refl, ◌∙◌, mod-lt, one-mul, zero-mul, arith, length-set, get_or-set_other, get_or-set_same, ext_get_or, pow_pos, pow_mono}
use native.Mathlib.Decide.{dec_lt, ℕ_discrete}
use lib.Bits.{bit_and, and_mask}
use Rattle.rules.specs.Rows.{digit, naf_row}
use Rattle.laws.specs.DigitsSum.{get_or-zeros}
use Rattle.laws.specs.Digits.{wide, carry, carry-low, carry-high, carry-bit, after}
use Rattle.laws.specs.NafRows.{naf_next, naf-length, naf-start, naf-skip, naf-skipped, naf-put, naf-gap, naf-passed}
use Rattle.scalar.specs.Wrap.{wrapped}
use Rattle.scalar.proofs.Ints.{wrapped-window}

-- what the recoder holds at place b of N: digits below b, the carry c into b
pub record Done (w N : ℕ) (row : List ℤ) (b c : ℕ) : Type 0 where
  pub long : length row ≡ 256
  pub bit : c ≤ 1
  pub state : after (naf_next w) b N ≡ N / 2 ^ b + c
  pub done : (j : ℕ) → j < b → j < 256 → digit row j ≡ digit (naf_row w N) j
  pub rest : (j : ℕ) → b ≤ j → digit row j ≡ pos 0

pub start : (w N : ℕ) → Done w N (replicate 256 (pos 0)) 0 0
start w N =
    record {
      long = refl;
      bit = omega arith;
      state = naf-start w N;
      done = λ j h _. absurd (omega arith);
      rest = λ j _. get_or-zeros 256 j;
    }

pub end : (w N : ℕ) (row : List ℤ) (b c : ℕ) → Done w N row b c → 256 ≤ b → row ≡ naf_row w N
end w N row b c d h = ext_get_or (pos 0) row (naf_row w N) (d.long ∙ sym (naf-length w N)) (λ j l. d.done j (omega (arith, d.long)) (omega (arith, d.long)))

module _ (w : ℕ) (lo : 2 ≤ w) (hi : w ≤ 8) (N : ℕ) (row : List ℤ) (b c v : ℕ) (d : Done w N row b c) (is : v ≡ c + N / 2 ^ b % 2 ^ w) (at : b < 256) where
  turned : N / 2 ^ b % 2 ^ w + c ≡ v
  turned = omega arith

  pub window-le : v ≤ 2 ^ w
  window-le = omega (arith, mod-lt (N / 2 ^ b) (pow_pos w), d.bit)

  pub width-le : 2 ^ w ≤ 256
  width-le = pow_mono {i = w} {j = 8} hi

  -- an even window
  pub skip : v % 2 ≡ 0 → Done w N row (b + 1) c
  skip e =
      let p : (N / 2 ^ b % 2 ^ w + c) % 2 ≡ 0 = rw turned e in
      record {
        long = d.long;
        bit = d.bit;
        state = naf-skipped w lo N b c d.bit d.state p;
        done = λ j h l. go p j l (dec_lt j b) h;
        rest = λ j h. d.rest j (omega arith);
      }
    where
      go : (N / 2 ^ b % 2 ^ w + c) % 2 ≡ 0 → (j : ℕ) → j < 256 → Dec (j < b) → j < b + 1 → digit row j ≡ digit (naf_row w N) j
      go p j l (yes h) _ = d.done j h l
      go p j l (no n) h =
          let e : j ≡ b = omega arith in
          rw e (d.rest b (omega arith) ∙ sym (naf-skip w lo N b c d.bit d.state p at))

  -- an odd one, with the digit x and the carry k out of it
  put : (x : ℤ) (k : ℕ) → v % 2 ≡ 1 → k ≡ carry w v → x ≡ wrapped v (k * 2 ^ w) → Done w N (set row b x) (b + w) k
  put x k e f g =
      let p : (N / 2 ^ b % 2 ^ w + c) % 2 ≡ 1 = rw turned e in
      record {
        long = length-set row b x ∙ d.long;
        bit = rw f (carry-bit w v (omega arith) window-le);
        state = naf-passed w lo N b c d.bit d.state p ∙ rw (turned, f);
        done = λ j h l. go p j l (ℕ_discrete j b) (dec_lt j b) h;
        rest = λ j h. get_or-set_other row b j x (pos 0) (λ q. omega arith) ∙ d.rest j (omega arith);
      }
    where
      go : (N / 2 ^ b % 2 ^ w + c) % 2 ≡ 1 → (j : ℕ) → j < 256 → Dec (j ≡ b) → Dec (j < b) → j < b + w → digit (set row b x) j ≡ digit (naf_row w N) j
      go p j l (yes q) _ h =
          rw q (get_or-set_same row b x (pos 0) (omega (arith, d.long)) ∙ g ∙ rw f (wrapped-window w v (omega arith) hi window-le ∙ sym (naf-put w lo N b c d.bit d.state p at ∙ rw turned)))
      go p j l (no q) (yes r) h = get_or-set_other row b j x (pos 0) q ∙ d.done j r l
      go p j l (no q) (no r) h =
          get_or-set_other row b j x (pos 0) q ∙ d.rest j (omega arith) ∙ sym (naf-gap w lo N b c d.bit d.state p j (omega arith) h)

  -- below half the width F, and from there on
  module _ (F : ℕ) (full : F ≡ 2 ^ w) (odd : v % 2 ≡ 1) (x : ℤ) (row' : List ℤ) (k : ℕ) (stored : row' ≡ set row b x) where
    half : 2 ^ w ≡ 2 * 2 ^ (w - 1)
    half = wide w (omega arith)

    pub put_low : v < F / 2 → x ≡ wrapped v 0 → k ≡ 0 → Done w N row' (b + w) k
    put_low l g z = rw (stored, z) (put x 0 odd (sym (carry-low w v (omega arith) (omega (arith, half)))) (g ∙ rw zero-mul))

    pub put-high : F / 2 ≤ v → x ≡ wrapped v F → k ≡ 1 → Done w N row' (b + w) k
    put-high l g z = rw (stored, z) (put x 1 odd (sym (carry-high w v (omega arith) (omega (arith, half)) window-le)) (g ∙ rw (full, one-mul)))

-- the lowest bit
pub even-bit : (x : ℕ) → bit_and x 1 ≡ 0 → x % 2 ≡ 0
even-bit x e = sym (and_mask x 1) ∙ e

pub odd-bit : (x : ℕ) → (bit_and x 1 ≡ 0 → ⊥) → x % 2 ≡ 1
odd-bit x n = other (λ e. n (and_mask x 1 ∙ e))
  where
    other : (x % 2 ≡ 0 → ⊥) → x % 2 ≡ 1
    other h = omega arith
