-- A power of two that fits a word, or one that has no bit in it.
use mathlib.Core.Path.{◌≡◌, sym, ◌∙◌, ap}
use Prim.Native.Nat.{ℕ, ◌-◌, ◌+◌, ◌%◌, ◌^◌}
use native.Mathlib.Nat.{mul-mod_left}
use native.Mathlib.Omega.{arith}
use lib.Pow.{pow-add}
use Rattle.rules.specs.Values.{limb}
use Rattle.bits.proofs.power.Goals as goal

pub returns-else-w-lt64 : goal.returns-else-w-lt64
returns-else-w-lt64 c =
    let w = c.args.w in
    let e : w ≡ w - 64 + 64 = omega (arith, c.if-w-lt64.false) in
    sym (ap (λ (k : ℕ). 2 ^ k % limb) e ∙ ap (λ (x : ℕ). x % limb) (pow-add 2 (w - 64) 64) ∙ mul-mod_left (2 ^ (w - 64)) limb)
