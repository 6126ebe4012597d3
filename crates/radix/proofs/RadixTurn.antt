-- The turns of the radix recoder for the widths 5 to 8, and its last place.
use mathlib.Core.Path.{◌≡◌, refl, sym, ap, ◌∙◌, subst}
use mathlib.Core.List.{List}
use Prim.Native.Nat.{ℕ, ◌+◌, ◌-◌, ◌*◌, ◌/◌, ◌%◌, ◌^◌, ◌≤◌, ◌<◌}
use native.Mathlib.Nat.{mul_comm, mod-lt, mod-eq_of_lt}
use native.Mathlib.Omega.{arith}
use native.Mathlib.Decide.{dec_lt, ℕ_discrete}
use lib.ListN.{length, set, take, replicate, length-set}
use lib.Seq.{get_or-set_same, get_or-set_other, ext_get_or}
use lib.Pow.{pow_pos, pow_mono}
use lib.IntN.{ℤ, pos, sub_ℕ}
use lib.Signed.{mag}
use borrow.Author.Tests.{le-ltb}
use Rattle.rules.specs.Values.{number, Below, limb}
use Rattle.rules.specs.Helpers.{five_words, waiting_bits}
use Rattle.rules.specs.Rows.{digit, above, radix_row, used_places}
use Rattle.laws.specs.DigitsSum.{get_or-zeros}
use Rattle.laws.specs.Digits.{wide, carry, carry-bit, near, after}
use Rattle.laws.proofs.Numerals.{part-lt}
use Rattle.bits.proofs.Waiting.{power-is, scalar-bits}
use Rattle.laws.specs.RadixRows.{Place, place, radix-length, radix-rest, radix-byte, radix-start, radix-state, radix-window, radix-window-last}

-- what is done below place i of N, with the carry c into it
pub record Part (w N : ℕ) (row : List ℤ) (c i : ℕ) : Type 0 where
  pub long : length row ≡ 64
  pub bit : c ≤ 1
  pub state : after (above w) i N ≡ N / 2 ^ (w * i) + c
  pub done : (j : ℕ) → j < i → digit row j ≡ digit (radix_row w N) j
  pub rest : (j : ℕ) → i ≤ j → digit row j ≡ pos 0

-- the widths from 5 on, and a scalar of 32 bytes
pub record Scope (w N : ℕ) : Type 0 where
  pub low : 5 ≤ w
  pub high : w ≤ 8
  pub room : N < 2 ^ 256

module _ (w N : ℕ) (s : Scope w N) where
  lo : 4 ≤ w
  lo = omega (arith, s.low)

  hi : w ≤ 8
  hi = s.high

  places : Place w
  places = place w lo hi

  pub part_none : Part w N (replicate 64 (pos 0)) 0 0
  part_none =
      record {
        long = refl;
        bit = omega arith;
        state = radix-start w lo hi N;
        done = λ j h. absurd (omega arith);
        rest = λ j _. get_or-zeros 64 j;
      }

  -- the window v with the carry c into it; F is 2 ^ w as the machine has it
  module _ (row : List ℤ) (c i v F : ℕ) (h : Part w N row c i) (is : v ≡ c + N / 2 ^ (i * w) % 2 ^ w) (full : F ≡ 2 ^ w) where
    window-is : N / 2 ^ (w * i) % 2 ^ w + c ≡ v
    window-is = rw (mul_comm w i) (omega arith)

    le-full : v ≤ 2 ^ w
    le-full = omega (arith, mod-lt (N / 2 ^ (i * w)) (pow_pos w), h.bit)

    pub coef-le : (v ≤ 256) × (F ≤ 256)
    coef-le = let p : 2 ^ w ≤ 256 = pow_mono {i = w} {j = 8} hi in (omega (arith, le-full), rw full p)

    -- the carry out of it, and that shifted back
    out-is : (v + F / 2) / 2 ^ w ≡ carry w v
    out-is = let e : F / 2 ≡ 2 ^ (w - 1) = rw full (omega (arith, wide w (omega (arith, lo)))) in ap (λ (x : ℕ). (v + x) / 2 ^ w) e

    close : (carry w v * 2 ^ w ≤ 256) × ((carry w v * 2 ^ w ≤ v + 128) × (v < carry w v * 2 ^ w + 128))
    close = near w v (omega (arith, lo)) hi le-full

    shifted-is : (v + F / 2) / 2 ^ w * 2 ^ w % 2 ^ 64 ≡ carry w v * 2 ^ w
    shifted-is = rw out-is (mod-eq_of_lt (omega (arith, close.0)))

    pub digit-asks : (v < 512) × (((v + F / 2) / 2 ^ w * 2 ^ w % 2 ^ 64 ≤ v + 128) × (v < (v + F / 2) / 2 ^ w * 2 ^ w % 2 ^ 64 + 128))
    digit-asks = rw shifted-is (omega (arith, coef-le.0), close.1)

    -- the digits up to x, that of this place
    done-with : (x : ℤ) → x ≡ digit (radix_row w N) i → i < 64 → (j : ℕ) → j < i + 1 → digit (set row i x) j ≡ digit (radix_row w N) j
    done-with x e lt j l = go (ℕ_discrete j i)
      where
        go : Dec (j ≡ i) → digit (set row i x) j ≡ digit (radix_row w N) j
        go (yes q) = rw q (get_or-set_same row i x (pos 0) (omega (arith, h.long)) ∙ e)
        go (no q) = get_or-set_other row i j x (pos 0) q ∙ h.done j (omega arith)

    pub part-more : i + 1 < used_places w → (x : ℤ) → x ≡ sub_ℕ v ((v + F / 2) / 2 ^ w * 2 ^ w % 2 ^ 64) → Part w N (set row i x) ((v + F / 2) / 2 ^ w) (i + 1)
    part-more lt x e =
        record {
          long = length-set row i x ∙ h.long;
          bit = rw out-is (carry-bit w v (omega (arith, lo)) le-full);
          state = radix-state w lo hi N i c h.bit h.state ∙ rw (window-is, out-is);
          done = done-with x here (omega (arith, places.inside));
          rest = λ j l. get_or-set_other row i j x (pos 0) (λ q. omega arith) ∙ h.rest j (omega arith);
        }
      where
        here : x ≡ digit (radix_row w N) i
        here = e ∙ ap (sub_ℕ v) shifted-is ∙ sym (radix-window w lo hi N i c h.bit h.state lt ∙ rw window-is)

    -- the last place that is used
    module _ (u : i + 1 ≡ used_places w) where
      last-is : digit (radix_row w N) i ≡ pos v
      last-is = radix-window-last w lo hi N i c h.bit h.state u s.room ∙ ap pos window-is

      pub last-asks : (v < 512) × ((0 ≤ v + 128) × (v < 0 + 128))
      last-asks = let p : v < 128 = subst (λ (z : ℤ). mag z < 128) last-is (radix-byte w lo hi N s.room i) in omega arith

      pub part_end : (x : ℤ) → x ≡ sub_ℕ v 0 → set row i x ≡ radix_row w N
      part_end x e =
          ext_get_or (pos 0) (set row i x) (radix_row w N) (length-set row i x ∙ h.long ∙ sym (radix-length w lo hi N)) (λ j _. go j (dec_lt j (i + 1)))
        where
          here : x ≡ digit (radix_row w N) i
          here = e ∙ rw (le-ltb v 0 (omega arith)) (ap pos (omega arith)) ∙ sym last-is

          go : (j : ℕ) → Dec (j < i + 1) → digit (set row i x) j ≡ digit (radix_row w N) j
          go j (yes l) = done-with x here (omega (arith, places.inside)) j l
          go j (no l) = get_or-set_other row i j x (pos 0) (λ q. omega arith) ∙ h.rest j (omega arith) ∙ sym (radix-rest w lo hi N j (omega arith))

-- ---- the turns of a scalar s with the words x, at a width w with the power F, up to its last place

pub record Known (s x : List ℕ) (w F last : ℕ) : Type 0 where
  pub low : 5 ≤ w
  pub high : w ≤ 8
  pub bytes : Below 256 s
  pub words : x ≡ five_words s
  pub power : F ≡ 2 ^ w % limb
  pub places-are : last + 1 ≡ used_places w

-- what is known once u has been found to be the places that are used
pub known : (s x : List ℕ) (w F u : ℕ) → (5 ≤ w) × (w ≤ 8) → Below 256 s → x ≡ five_words s → F ≡ 2 ^ w % limb → u ≡ used_places w → Known s x w F (u - 1)
known s x w F u r b e p n =
    let some : 0 < used_places w = (place w (omega (arith, r.0)) r.1).some in
    record { low = r.0; high = r.1; bytes = b; words = e; power = p; places-are = omega arith }

module _ (s x : List ℕ) (w F last : ℕ) (k : Known s x w F last) where
  scope : Scope w (number 256 (take 32 s))
  scope = record { low = k.low; high = k.high; room = part-lt 8 s k.bytes 32 0 }

  count : Place w
  count = place w (omega (arith, k.low)) k.high

  full : F ≡ 2 ^ w
  full = power-is F w k.high k.power

  pub nothing-done : Part w (number 256 (take 32 s)) (replicate 64 (pos 0)) 0 0
  nothing-done = part_none w (number 256 (take 32 s)) scope

  module _ (i : ℕ) (l : i ≤ last) where
    -- a turn's place starts inside, and has room
    pub starts : i * w ≤ 256
    starts = count.starts i (omega (arith, k.places-are))

    pub inside : i < 64
    inside = omega (arith, count.inside, k.places-are)

    -- with the bits b that wait there
    module _ (row : List ℤ) (c b : ℕ) (h : Part w (number 256 (take 32 s)) row c i) (e : b ≡ waiting_bits x (i * w) w) where
      window : c + b ≡ c + number 256 (take 32 s) / 2 ^ (i * w) % 2 ^ w
      window = ap (λ (y : ℕ). c + y) (e ∙ scalar-bits x (i * w) w starts k.high s k.bytes k.words)

      pub turn-small : (c + b ≤ 256) × (F ≤ 256)
      turn-small = coef-le w (number 256 (take 32 s)) scope row c i (c + b) F h window full

      pub turn-asks : (c + b < 512) × (((c + b + F / 2) / 2 ^ w * 2 ^ w % 2 ^ 64 ≤ c + b + 128) × (c + b < (c + b + F / 2) / 2 ^ w * 2 ^ w % 2 ^ 64 + 128))
      turn-asks = digit-asks w (number 256 (take 32 s)) scope row c i (c + b) F h window full

      pub turned : i < last → (z : ℤ) → z ≡ sub_ℕ (c + b) ((c + b + F / 2) / 2 ^ w * 2 ^ w % 2 ^ 64)
          → Part w (number 256 (take 32 s)) (set row i z) ((c + b + F / 2) / 2 ^ w) (i + 1)
      turned m = part-more w (number 256 (take 32 s)) scope row c i (c + b) F h window full (omega (arith, k.places-are))

      pub end-asks : i ≡ last → (c + b < 512) × ((0 ≤ c + b + 128) × (c + b < 0 + 128))
      end-asks q = last-asks w (number 256 (take 32 s)) scope row c i (c + b) F h window full (omega (arith, k.places-are))

      pub ended : i ≡ last → (z : ℤ) → z ≡ sub_ℕ (c + b) 0 → set row i z ≡ radix_row w (number 256 (take 32 s))
      ended q = part_end w (number 256 (take 32 s)) scope row c i (c + b) F h window full (omega (arith, k.places-are))
