-- A digit added or taken away: the four limbs of its absolute value say it.
use mathlib.Core.Path.{◌∙◌, ap, sym}
use Prim.Native.Nat.{ℕ, ◌+◌, ◌-◌, ◌^◌}
use lib.IntN.{ℤ, pos, nat_abs}
use lib.Signed.{lt_z}
use mir.Facts.{to_z-of_z}
use Rattle.rules.specs.declared.Carried.{Carried}
use Rattle.rules.specs.Values.{value_of, element_of}
use Rattle.rules.specs.Limbs.{carried_sum, carried_difference}
use Rattle.reader.proofs.Modulo.{one-limb, taken-away, added}
use Rattle.reader.proofs.with_digit.Goals as goal

pub returns-then-d-lt0 : goal.returns-then-d-lt0
unfolding carried_difference
returns-then-d-lt0 c =
    let m = ap value_of c.one_limb-x.ensures ∙ one-limb _ ∙ c.magnitude.ensures ∙ ap nat_abs (to_z-of_z c.ranges.d) in
    let t = ap (λ (z : ℤ). lt_z z (pos 0)) (sym (to_z-of_z c.ranges.d)) ∙ c.if-d-lt0.true in
    ap (λ (x : Carried). x.element) c.difference.ensures ∙ ap (λ (n : ℕ). element_of (value_of c.args.q + 2 ^ 256 - n)) m ∙ taken-away (value_of c.args.q) c.args.d t

pub returns-else-d-lt0 : goal.returns-else-d-lt0
unfolding carried_sum
returns-else-d-lt0 c =
    let m = ap value_of c.one_limb-x.ensures ∙ one-limb _ ∙ c.magnitude.ensures ∙ ap nat_abs (to_z-of_z c.ranges.d) in
    let t = ap (λ (z : ℤ). lt_z z (pos 0)) (sym (to_z-of_z c.ranges.d)) ∙ c.if-d-lt0.false in
    ap (λ (x : Carried). x.element) c.sum.ensures ∙ ap (λ (n : ℕ). element_of (value_of c.args.q + n)) m ∙ added (value_of c.args.q) c.args.d t
