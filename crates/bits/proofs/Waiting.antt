-- The bits that wait in words, and those of a scalar's five words.
use mathlib.Core.Path.{◌≡◌, ◌∙◌, ap}
use mathlib.Core.List.{List}
use Prim.Native.Nat.{ℕ, ◌-◌, ◌/◌, ◌%◌, ◌^◌, ◌≤◌}
use native.Mathlib.Nat.{mod-eq_of_lt}
use native.Mathlib.Omega.{arith}
use lib.ListN.{take}
use lib.Bits.{bit_and, and_mask}
use lib.Pow.{pow-lt}
use borrow.Author.Tests.{le-ltb}
use Rattle.rules.specs.Values.{number, limb, value_of, Below}
use Rattle.rules.specs.Helpers.{five_words, waiting_bits}
use Rattle.laws.proofs.Numerals.{part-lt}
use Rattle.limbs.proofs.Elements.{value-of}

-- p is a power of two that 64 bits hold
pub power-is : (p w : ℕ) → w ≤ 8 → p ≡ 2 ^ w % limb → p ≡ 2 ^ w
power-is p w h e = e ∙ mod-eq_of_lt (pow-lt {i = w} {j = 64} (omega arith))

module _ (x : List ℕ) (pos w : ℕ) (p : pos ≤ 256) (q : w ≤ 8) where
  bits_are : waiting_bits x pos w ≡ number limb x / 2 ^ pos % 2 ^ w
  unfolding waiting_bits
  bits_are = rw (le-ltb 256 pos p, le-ltb 8 w q)

  -- the lowest w bits of a buffer, by the mask below a power of two
  pub masked : (b f : ℕ) → f ≡ 2 ^ w % limb → b % 2 ^ w ≡ number limb x / 2 ^ pos % 2 ^ w → bit_and b (f - 1) ≡ waiting_bits x pos w
  masked b f e h = ap (λ (y : ℕ). bit_and b (y - 1)) (power-is f w q e) ∙ and_mask b w ∙ rw bits_are h

  -- in the words of a scalar they are bits of what its first 32 bytes say
  pub scalar-bits : (s : List ℕ) → Below 256 s → x ≡ five_words s → waiting_bits x pos w ≡ number 256 (take 32 s) / 2 ^ pos % 2 ^ w
  unfolding five_words value_of number
  scalar-bits s b e = bits_are ∙ ap (λ (n : ℕ). n / 2 ^ pos % 2 ^ w) (ap (number limb) e ∙ value-of (number 256 (take 32 s)) (part-lt 8 s b 32 0))
