-- Small digits of the machine: what its casts, shifts and differences of eight bits are as numbers.
use mathlib.Core.Path.{◌≡◌, refl, ap, ◌∙◌}
use Prim.Native.Nat.{ℕ, zero, suc, ◌+◌, ◌*◌, ◌%◌, ◌^◌, ◌≤◌, ◌<◌}
use native.Mathlib.Omega.{arith}
use native.Mathlib.Decide.{dec_lt}
use borrow.Author.Tests.{lt-ltb, le-ltb}
use lib.IntN.{ℤ, pos, sub_ℕ, ◌+ℤ◌, ◌-ℤ◌}
use lib.Signed.{shr_z}
use mir.Syntax.{w8}
use mir.Val.{SFits, to_z, of_z}
use mir.Facts.{to_z_pos, to_z-of_z}
use Rattle.laws.specs.Digits.{carry}

-- the difference of two small numbers, as the machine has it
sub_is : (v c : ℕ) → pos v -ℤ pos c ≡ sub_ℕ v c
sub_is v zero = rw (le-ltb v 0 (omega arith)) (ap pos (omega arith))
sub_is v (suc c) = refl

sub-fits : (v c : ℕ) → v < 128 + c → c ≤ 128 + v → SFits w8 (sub_ℕ v c)
sub-fits v c h g = go (dec_lt v c)
  where
    go : Dec (v < c) → SFits w8 (sub_ℕ v c)
    go (yes l) = rw (lt-ltb v c l) (record { sfits = omega arith })
    go (no n) = rw (le-ltb v c (omega arith)) (record { sfits = omega arith })

-- a digit d from 0 to 16
module _ (d : ℤ) (v : ℕ) (is : d ≡ pos v) (le : v ≤ 16) where
  kept : to_z w8 (of_z w8 d) ≡ pos v
  kept = ap (λ z. to_z w8 (of_z w8 z)) is ∙ to_z-of_z {w = w8} (record { sfits = omega arith })

  -- the carry out of it
  pub out-is : shr_z (to_z w8 (of_z w8 (to_z w8 (of_z w8 d) +ℤ pos 8))) 16 ≡ pos (carry 4 v)
  out-is =
      ap (λ z. shr_z (to_z w8 (of_z w8 (z +ℤ pos 8))) 16) kept
      ∙ ap (λ z. shr_z z 16) (to_z-of_z {w = w8} {z = pos (v + 8)} (record { sfits = omega arith }))

  -- what is left without the carry k
  pub left-is : (k : ℤ) → k ≡ pos (carry 4 v) → to_z w8 (of_z w8 (to_z w8 (of_z w8 d) -ℤ to_z w8 (of_z w8 k * 16 % 256))) ≡ sub_ℕ v (carry 4 v * 2 ^ 4)
  left-is k e =
      let c : ℕ = carry 4 v * 16 in
      let m : c % 256 ≡ c = omega arith in
      let s : pos v -ℤ to_z w8 (c % 256) ≡ sub_ℕ v c = ap (λ x. pos v -ℤ to_z w8 x) m ∙ ap (λ x. pos v -ℤ x) (to_z_pos w8 {n = c} (omega arith)) ∙ sub_is v c in
      ap (λ z. to_z w8 (of_z w8 (z -ℤ to_z w8 (of_z w8 k * 16 % 256)))) kept
      ∙ ap (λ z. to_z w8 (of_z w8 (pos v -ℤ to_z w8 (of_z w8 z * 16 % 256)))) e
      ∙ ap (λ z. to_z w8 (of_z w8 z)) s
      ∙ to_z-of_z (sub-fits v c (omega arith) (omega arith))

  -- with a carry k into it, from 0 to 16
  pub more-is : (k : ℤ) (b : ℕ) → k ≡ pos b → b ≤ 16 → to_z w8 (of_z w8 (to_z w8 (of_z w8 d) +ℤ to_z w8 (of_z w8 k))) ≡ pos (v + b)
  more-is k b e l =
      ap (λ z. to_z w8 (of_z w8 (z +ℤ to_z w8 (of_z w8 k)))) kept
      ∙ ap (λ z. to_z w8 (of_z w8 (pos v +ℤ z))) (ap (λ z. to_z w8 (of_z w8 z)) e ∙ to_z-of_z {w = w8} {z = pos b} (record { sfits = omega arith }))
      ∙ to_z-of_z {w = w8} {z = pos (v + b)} (record { sfits = omega arith })
